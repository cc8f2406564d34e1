-- The grants that a question for room names.
use Rattle.std.specs.Prelude.{ℕ, Bool, false, ◌&&◌, ◌||◌, List, [], ◌∷◌, ◌==◌, nat_lt}

-- whether a number is one of a list
abbrev pub among : List ℕ → ℕ → Bool
among [] k = false
among (g ∷ gs) k = k == g || among gs k

-- the set of the numbers below 64 that a list names
abbrev pub named_set : List ℕ → ℕ → Bool
named_set gs k = nat_lt k 64 && among gs k
