-- The search for the first bad pair, told pair by pair.
use Rattle.std.proofs.Common.{◌≡◌, ℕ, zero, suc, ◌+◌, ◌*◌, ◌<◌, List, map, length, Decides, Option, sym, refl, ap, add-one, arith, below_none}
use Rattle.ranap.proofs.Firsts.{Verdict, verdict_at}
use Rattle.ranap.specs.Formed.{Placed, free_from}
use Rattle.rules.specs.Frame.{count_at, pair_at, pairs_of, pair_good, pair_fault, end_of}
use Rattle.std.proofs.lemmas.Bool.Decides.{nat_tests}
use Rattle.std.specs.List.{range_with_len}

placed_if_good : (bs : List ℕ) (i : ℕ) → Decides (pair_good (length bs) (free_from bs i) (pair_at bs i)) (Placed bs i)
placed_if_good bs i = (
  λ e. record { after = grind (arith, nat_tests); inside = grind (arith, nat_tests); sized = grind (arith, nat_tests) },
  λ p. grind (arith, nat_tests),
)

-- all pairs are placed, or the first that is not
abbrev pub PairVerdict : List ℕ → ℕ → Option ℕ → Type 0
PairVerdict bs n = Verdict (Placed bs) (λ i. 4 + 4 * i) n

module _ (bs : List ℕ) (n : ℕ) where
  scan : (m i from : ℕ) → i + m ≡ n → from ≡ free_from bs i → ((j : ℕ) → j < i → Placed bs j) →
      PairVerdict bs n (pair_fault (length bs) i from (map (pair_at bs) (range_with_len i m)))
  scan zero i from e f before = λ j l. before j (omega (arith, e, l))
  scan (suc m) i from e f before =
      rw f (verdict_at (Placed bs) (λ k. 4 + 4 * k) n i _ _ (omega (arith, e)) (placed_if_good bs i) before
      (scan m (i + 1) (end_of (pair_at bs i)) (omega (arith, e)) (ap (free_from bs) (sym (add-one i)))))

  -- from the first pair on
  pub pairs_told : PairVerdict bs n (pair_fault (length bs) 0 (4 + 4 * count_at bs) (pairs_of bs n))
  pairs_told = scan n 0 (4 + 4 * count_at bs) (omega arith) refl (below_none (Placed bs))
