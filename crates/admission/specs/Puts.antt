-- Sizes of which one is changed.
use Rattle.std.specs.Prelude.{◌≡◌, ℕ, ◌<◌, ◌≤◌, ◌≢◌}
use Rattle.std.proofs.Common.{⊎_elim, arith}
use Rattle.std.proofs.lemmas.Bool.{cases_eq, cases_lt}
use Rattle.std.proofs.lemmas.Bool.Decides.{nat_tests}
use Rattle.rules.specs.Radio.{put}

pub put_at : (f : ℕ → ℕ) (g v k : ℕ) → k ≡ g → put f g v k ≡ v
put_at f g v k e = grind (arith, nat_tests)

pub put_off : (f : ℕ → ℕ) (g v k : ℕ) → (k ≢ g) → put f g v k ≡ f k
put_off f g v k ne = grind (arith, nat_tests)

-- where no size is over 64, none is after a change to one that is not
pub put_small : (f : ℕ → ℕ) (g v : ℕ) → v ≤ 64 → ((k : ℕ) → f k ≤ 64) → (k : ℕ) → put f g v k ≤ 64
put_small f g v le small k = ⊎_elim (λ e. omega (arith, put_at f g v k e)) (λ ne. omega (arith, put_off f g v k ne, small k)) (cases_eq k g)

-- where no number over 63 has a size, none has after a change below 64
pub put_numbers : (f : ℕ → ℕ) (g v : ℕ) → g < 64 → ((k : ℕ) → 64 ≤ k → f k ≡ 0) → (k : ℕ) → 64 ≤ k → put f g v k ≡ 0
put_numbers f g v l none k out = omega (arith, put_off f g v k (λ e. omega arith), none k out)

pub numbered : (f : ℕ → ℕ) → ((k : ℕ) → 64 ≤ k → f k ≡ 0) → (g : ℕ) → 0 < f g → g < 64
numbered f none g some = ⊎_elim (λ l. l) (λ out. omega (arith, none g out)) (cases_lt g 64)
