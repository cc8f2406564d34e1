-- The sizes that are not given back, as a chain over the grant numbers adds them up.
use Rattle.std.proofs.Common.{◌≡◌, ℕ, zero, suc, ◌+◌, sym, refl, ap, ◌∙◌, add-one, arith}
use Rattle.std.specs.List.{range_with_len, sum_by}
use Rattle.std.proofs.lemmas.List.{map-id}
use Rattle.std.proofs.lemmas.List.FromFn.{sum_by-map-range_with_len_more}
use Rattle.admission.specs.Sums.{total}

sum_more : (f : ℕ → ℕ) (n : ℕ) → sum_by f (range_with_len 0 (n + 1)) ≡ sum_by f (range_with_len 0 n) + f n
sum_more f n = simp map-id at (sum_by-map-range_with_len_more f (λ k. k) 0 n n (omega arith))

pub sum_is_total : (f : ℕ → ℕ) (n : ℕ) → sum_by f (range_with_len 0 n) ≡ total f n
unfolding total
sum_is_total f zero = refl
sum_is_total f (suc n) = ap (λ k. sum_by f (range_with_len 0 k)) (sym (add-one n)) ∙ sum_more f n ∙ omega (arith, sum_is_total f n)
