use Rattle.script.proofs.Digits.{spelled}
use Rattle.script.proofs.hex.add_bytes.Given as goal
use Rattle.script.specs.Hex.{pairs_of}
use Rattle.std.proofs.Common.{◌≡◌, ◌++◌, drop, vec_items}

-- the bytes so far, with those of the pairs that are left
abbrev pub invariant-loop-high : goal.invariant-loop-high
invariant-loop-high l = vec_items l.bytes ++ spelled (drop l.high-index l.high-items) ≡ vec_items l.fn.bytes ++ pairs_of l.word
