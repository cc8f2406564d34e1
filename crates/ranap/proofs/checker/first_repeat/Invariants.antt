use Rattle.std.proofs.Common.{◌≡◌, ℕ, ◌<◌, false, List, length, get_or, drop}
use Rattle.ranap.proofs.checker.first_repeat.Given as goal
use Rattle.rules.specs.Message.{among, repeats_among, repeats}

-- the table has the RAB IDs of the items so far, and what is left gives what the whole gives
abbrev pub invariant-loop-item : goal.invariant-loop-item
invariant-loop-item l =
    (length l.seen ≡ 256) ×
    ((so_far : List ℕ) × ((k : ℕ) → k < 256 → get_or l.seen k false ≡ among k so_far) × (repeats_among so_far (drop l.item-index l.items) ≡ repeats l.items))
