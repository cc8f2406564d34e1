-- The search for the first bad item, told item by item.
use Rattle.std.proofs.Common.{◌≡◌, ℕ, zero, suc, ◌+◌, ◌<◌, List, map, Option, arith, below_none}
use Rattle.ranap.proofs.Firsts.{Verdict, verdict_at}
use Rattle.ranap.proofs.ItemBytes.{shaped_if_good}
use Rattle.ranap.specs.Formed.{Placed, Shaped, offset_at}
use Rattle.rules.specs.Frame.{pair_at, pairs_of, item_fault}
use Rattle.std.specs.List.{range_with_len}

-- all items have a shape, or the first that has none
abbrev pub ItemVerdict : List ℕ → ℕ → Option ℕ → Type 0
ItemVerdict bs n = Verdict (Shaped bs) (offset_at bs) n

module _ (bs : List ℕ) (n : ℕ) (placed : (j : ℕ) → j < n → Placed bs j) where
  scan : (m i : ℕ) → i + m ≡ n → ((j : ℕ) → j < i → Shaped bs j) → ItemVerdict bs n (item_fault bs (map (pair_at bs) (range_with_len i m)))
  scan zero i e before = λ j l. before j (omega (arith, e, l))
  scan (suc m) i e before =
      let l : i < n = omega (arith, e) in
      verdict_at (Shaped bs) (offset_at bs) n i _ _ l (shaped_if_good bs i (placed i l).inside) before (scan m (i + 1) (omega (arith, e)))

  -- from the first item on
  pub items_told : ItemVerdict bs n (item_fault bs (pairs_of bs n))
  items_told = scan n 0 (omega arith) (below_none (Shaped bs))
