-- Tests gone through number by number.
use Rattle.std.specs.Prelude.{ℕ, zero, suc, Bool, true, false, Some, None, Option}

-- whether all of the n numbers from k on pass
unfoldable pub all_from : (ℕ → Bool) → ℕ → ℕ → Bool
all_from test k zero = true
all_from test k (suc n) = elim (test k) [ true ↦ all_from test (suc k) n | false ↦ false ]

-- the first of the n numbers from k on that passes, if one does
unfoldable pub first_from : (ℕ → Bool) → ℕ → ℕ → Option ℕ
first_from test k zero = None
first_from test k (suc n) = elim (test k) [ true ↦ Some k | false ↦ first_from test (suc k) n ]
