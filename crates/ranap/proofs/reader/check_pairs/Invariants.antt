use Rattle.ranap.proofs.reader.check_pairs.Given as goal
use Rattle.ranap.specs.Steps.{pairs_in}
use Rattle.rules.specs.Frame.{pair_fault}
use Rattle.std.proofs.Common.{◌≡◌, ◌+◌, ◌*◌, length, drop}

-- what is left gives what the whole gives
abbrev pub invariant-loop-i : goal.invariant-loop-i
invariant-loop-i l = pair_fault l.len l.i l.from (pairs_in (drop l.i l.pairs)) ≡ pair_fault l.len 0 (4 + 4 * length l.pairs) (pairs_in l.pairs)
