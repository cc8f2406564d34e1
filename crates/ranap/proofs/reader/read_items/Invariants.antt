use Rattle.ranap.proofs.reader.read_items.Given as goal
use Rattle.ranap.specs.Steps.{pairs_in}
use Rattle.ranap.specs.View.{listed}
use Rattle.rules.specs.Frame.{item_fault, read_item}
use Rattle.std.proofs.Common.{◌≡◌, map, take, drop}

-- the items so far are those of the pairs so far, and what is left gives the fault that the whole gives
abbrev pub invariant-loop-bytes : goal.invariant-loop-bytes
invariant-loop-bytes l =
    (listed l.items ≡ map (read_item l.frame) (pairs_in (take l.bytes-index l.pairs))) ×
    (item_fault l.frame (pairs_in (drop l.bytes-index l.pairs)) ≡ item_fault l.frame (pairs_in l.pairs))
