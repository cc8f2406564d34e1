-- Sets of grant numbers, each as the test whether a number is in it.
use Rattle.std.specs.Prelude.{ℕ, Bool, false, ◌||◌, ◌==◌, nat_lt}

-- the empty set
abbrev pub nothing : ℕ → Bool
nothing k = false

-- all 64 numbers, 0 to 63
abbrev pub everything : ℕ → Bool
everything k = nat_lt k 64

-- the set with one number more
abbrev pub added : (ℕ → Bool) → ℕ → ℕ → Bool
added n g k = k == g || n k
