-- Sums of sizes.
use Rattle.std.specs.Prelude.{◌≡◌, ℕ, zero, suc, ◌+◌, ◌<◌, ◌≤◌, Bool, true, refl}
use Rattle.std.proofs.Common.{add-one, ap, ◌∙◌, ⊎_elim, arith}
use Rattle.std.proofs.lemmas.Bool.{cases_eq, cases_Bool}
use Rattle.std.proofs.lemmas.Bool.Decides.{nat_tests}
use Rattle.rules.specs.Radio.{put}
use Rattle.admission.specs.Sums.{total, without}
use Rattle.admission.specs.Puts.{put_at, put_off}

pub total_none : (f : ℕ → ℕ) → total f 0 ≡ 0
unfolding total
total_none f = refl

pub total_more : (f : ℕ → ℕ) (n : ℕ) → total f (n + 1) ≡ total f n + f n
unfolding total
total_more f n = rw add-one

total_le : (f h : ℕ → ℕ) (n : ℕ) → ((k : ℕ) → k < n → f k ≤ h k) → total f n ≤ total h n
unfolding total
total_le f h zero below = omega arith
total_le f h (suc n) below = omega (arith, total_le f h n (λ k l. below k (omega arith)), below n (omega arith))

pub total_zero : (f : ℕ → ℕ) (n : ℕ) → ((k : ℕ) → k < n → f k ≡ 0) → total f n ≡ 0
unfolding total
total_zero f zero none = refl
total_zero f (suc n) none = omega (arith, total_zero f n (λ k l. none k (omega arith)), none n (omega arith))

total_put_out : (f : ℕ → ℕ) (g v n : ℕ) → n ≤ g → total (put f g v) n ≡ total f n
unfolding total
total_put_out f g v zero out = refl
total_put_out f g v (suc n) out = omega (arith, total_put_out f g v n (omega arith), put_off f g v n (omega arith))

pub total_put : (f : ℕ → ℕ) (g v n : ℕ) → g < n → total (put f g v) n + f g ≡ total f n + v
unfolding total
total_put f g v zero in' = omega arith
total_put f g v (suc n) in' =
    ⊎_elim
    (λ e. omega (arith, total_put_out f g v n (omega arith), put_at f g v n e, ap f e))
    (λ ne. omega (arith, total_put f g v n (omega arith), put_off f g v n ne))
    (cases_eq n g)

-- a named place is left out
pub without_one : (m : ℕ → Bool) (f : ℕ → ℕ) (g n : ℕ) → g < n → m g ≡ true → total (without m f) n + f g ≤ total f n
without_one m f g n l named =
    let less : total (without m f) n ≤ total (put f g 0) n =
    total_le (without m f) (put f g 0) n (λ k _. ⊎_elim (λ e. let t : m k ≡ true = ap m e ∙ named in grind (arith, nat_tests)) (λ ne. grind (arith, nat_tests, cases_Bool (m k))) (cases_eq k g))
    in
    omega (arith, total_put f g 0 n l)
