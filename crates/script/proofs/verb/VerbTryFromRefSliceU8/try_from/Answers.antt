use Rattle.std.proofs.Common.{◌≡◌, ℕ, List, length, codes, ap, arith, rules}
use Rattle.std.proofs.lemmas.Slice.Eq.{HasBytesAt, text_from_reads}
use Rattle.script.proofs.verb.VerbTryFromRefSliceU8.try_from.Goals as goal
use Rattle.script.specs.Verbs.{verb_of}

-- a word that is read byte for byte as a name chooses what the name chooses
verb_named : (name word : List ℕ) → length word ≡ length name → HasBytesAt word 0 name → verb_of word ≡ verb_of name
verb_named name word long reads = ap verb_of (text_from_reads word name long reads)

pub returns-in-cabinet : goal.returns-in-cabinet
returns-in-cabinet c = verb_named (codes "cabinet") c.args.word.now (omega arith) (search rules)

pub returns-in-expiry : goal.returns-in-expiry
returns-in-expiry c = verb_named (codes "expiry") c.args.word.now (omega arith) (search rules)

pub returns-in-execute : goal.returns-in-execute
returns-in-execute c = verb_named (codes "execute") c.args.word.now (omega arith) (search rules)

pub returns-in-withdraw : goal.returns-in-withdraw
returns-in-withdraw c = verb_named (codes "withdraw") c.args.word.now (omega arith) (search rules)
