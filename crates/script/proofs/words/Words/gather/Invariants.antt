use Rattle.script.proofs.words.Words.gather.Given as goal
use Rattle.script.specs.Script.{and_then, gathered}
use Rattle.std.proofs.Common.{◌≡◌, length, Ok, vec_items}

abbrev pub invariant-loop-word : goal.invariant-loop-word
invariant-loop-word g l = and_then (Ok (vec_items l.all)) (gathered g.part l.self) ≡ gathered g.part l.initial.self

abbrev pub decreases-loop-word : goal.decreases-loop-word
decreases-loop-word g l = length l.self
