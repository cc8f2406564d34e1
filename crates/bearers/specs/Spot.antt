-- Where a RAB stands in the table of set-up RABs, or where it belongs.
use Rattle.std.specs.Prelude.{◌≡◌, ℕ, ◌<◌, ◌≤◌, true, List, length}
use Rattle.std.specs.List.{AllWithin, HoldsAt}
use Rattle.std.specs.declared.cmp.Ordering.{Ordering}
use Rattle.std.specs.Ordering.{nat_cmp, ordering_then}
use Rattle.std.specs.declared.cmp.Ordering.TheVariants.{Less, Greater}
use Rattle.rules.specs.Tables.{of_rab}
use Rattle.rules.specs.declared.bearer.Bearer.{Bearer}

-- how a set-up RAB compares with a RAB: by place, then by RAB ID
abbrev pub compared : ℕ → ℕ → Bearer → Ordering
compared p r b = ordering_then (nat_cmp b.place p) (nat_cmp b.rab r)

-- the RAB stands at index i
pub record IsAt (p r : ℕ) (bs : List Bearer) (i : ℕ) : Type 0 where
  pub within : i < length bs
  pub there : HoldsAt (λ b. of_rab p r b ≡ true) bs i

-- the RAB belongs at index i, between those before it and those after it
pub record IsGapFor (p r : ℕ) (bs : List Bearer) (i : ℕ) : Type 0 where
  pub within : i ≤ length bs
  pub lower : AllWithin (λ b. compared p r b ≡ Less) bs 0 i
  pub higher : AllWithin (λ b. compared p r b ≡ Greater) bs i (length bs)
