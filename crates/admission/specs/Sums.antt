-- Sums of sizes.
use Rattle.std.specs.Prelude.{ℕ, zero, suc, ◌+◌, Bool, cond}

-- f 0 + f 1 + .. + f (n - 1)
unfoldable pub total : (ℕ → ℕ) → ℕ → ℕ
total f zero = 0
total f (suc n) = total f n + f n

-- the sizes, but 0 for each grant of a set
abbrev pub without : (ℕ → Bool) → (ℕ → ℕ) → ℕ → ℕ
without n f k = cond (n k) 0 (f k)
