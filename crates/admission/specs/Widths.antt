-- Rounding up to a power of two.
use Rattle.std.specs.Prelude.{◌≡◌, ℕ, zero, suc, ◌+◌, ◌-◌, ◌*◌, ◌/◌, ◌^◌, ◌<◌, ◌≤◌, max, cond, nat_le}
use Rattle.std.proofs.Common.{sym, ap, ◌∙◌, ⊎_elim, mul-le-mul_right, add-mul, mul_assoc, arith, pow_mono, pow-add}
use Rattle.std.proofs.Math.Nat.{div-mul-le_self}
use Rattle.std.proofs.lemmas.Nat.{le-div}
use Rattle.std.proofs.lemmas.Bool.{cases_lt}
use Rattle.std.proofs.lemmas.Bool.Decides.{nat_tests}
use Rattle.admission.specs.Tree.{rounded}

pub width_pos : (s : ℕ) → 0 < rounded s
width_pos s = grind (arith, nat_tests)

pub width_small : (s : ℕ) → rounded s ≤ 64
width_small s = grind (arith, nat_tests)

-- blocks of one width tile the tree
pub tiles : (s : ℕ) → 256 / rounded s * rounded s ≡ 256
tiles s = grind (arith, nat_tests)

-- a block is within the tree
pub block_within : (w j : ℕ) → j < 256 / w → j * w + w ≤ 256
block_within w j below = omega (arith, mul-le-mul_right {m = j + 1} {n = 256 / w} w (omega arith), add-mul j 1 w, div-mul-le_self 256 w)

-- the power of two that a size is rounded to
unfoldable pub log : ℕ → ℕ
log s = cond (nat_le s 1) 0 (cond (nat_le s 2) 1 (cond (nat_le s 4) 2 (cond (nat_le s 8) 3 (cond (nat_le s 16) 4 (cond (nat_le s 32) 5 6)))))

pub power_of : (s : ℕ) → rounded s ≡ 2 ^ log s
unfolding log
power_of s = grind (arith, nat_tests)

pub enough : (s : ℕ) → s ≤ 64 → s ≤ rounded s
enough s m = grind (arith, nat_tests)

log_le : (s k : ℕ) → s ≤ 2 ^ k → log s ≤ k
unfolding log
log_le s zero h = grind (arith, nat_tests)
log_le s (suc zero) h = grind (arith, nat_tests)
log_le s (suc (suc zero)) h = grind (arith, nat_tests)
log_le s (suc (suc (suc zero))) h = grind (arith, nat_tests)
log_le s (suc (suc (suc (suc zero)))) h = grind (arith, nat_tests)
log_le s (suc (suc (suc (suc (suc zero))))) h = grind (arith, nat_tests)
log_le s (suc (suc (suc (suc (suc (suc k)))))) h = grind (arith, nat_tests)

pub least : (s k : ℕ) → s ≤ 2 ^ k → rounded s ≤ 2 ^ k
least s k h = let l : log s ≤ k = log_le s k h in omega (arith, power_of s, pow_mono l)

-- a power of two that is enough, and of which half is not
pub power_is_rounded : (s k : ℕ) → s ≤ 64 → s ≤ 2 ^ k → 2 ^ k / 2 < max 1 s → 2 ^ k ≡ rounded s
power_is_rounded s k m l h =
    ⊎_elim
    (λ above. let twice : 2 ^ (log s + 1) ≤ 2 ^ k = pow_mono {i = log s + 1} {j = k} (omega arith) in absurd (omega (arith, twice, pow-add 2 (log s) 1, power_of s, enough s m, width_pos s)))
    (λ le. omega (arith, pow_mono le, power_of s, least s k l))
    (cases_lt (log s) k)

-- the width of a smaller size divides that of a larger one: where a block of the one begins, a block of the other does
pub finer : (s t j : ℕ) → s ≤ t → t ≤ 64 → j < 256 / rounded t → (b : ℕ) × (b < 256 / rounded s) × (b * rounded s ≡ j * rounded t) × (rounded s ≤ rounded t)
finer s t j l m below =
    let le : log s ≤ log t = log_le s (log t) (omega (arith, power_of t, enough t m)) in
    let q : ℕ = 2 ^ (log t - log s) in
    let split : log t ≡ (log t - log s) + log s = omega arith in
    let whole : rounded t ≡ q * rounded s = power_of t ∙ ap (λ k. 2 ^ k) split ∙ pow-add 2 (log t - log s) (log s) ∙ ap (λ w. q * w) (sym (power_of s)) in
    let begins : j * q * rounded s ≡ j * rounded t = mul_assoc j q (rounded s) ∙ ap (λ w. j * w) (sym whole) in
    let narrow : rounded s ≤ rounded t = omega (arith, power_of s, power_of t, pow_mono le) in
    let in_tree : j * rounded t + rounded t ≤ 256 = block_within (rounded t) j below in
    let pos : 0 < rounded s = width_pos s in
    (j * q, omega (arith, le-div (j * q + 1) 256 (rounded s) pos (omega (arith, add-mul (j * q) 1 (rounded s)))), begins, narrow)
