-- What becomes of a code that comes in from outside.
use Rattle.std.specs.Prelude.{◌≡◌, ℕ, Some, None, Option, Result, MatchResult}
use Rattle.rules.specs.declared.code.UnknownCode.{UnknownCode}

-- a code is decoded as a table has it, and refused exactly where the table has nothing
abbrev pub Decodes : {A : Type 0} → (ℕ → Option A) → ℕ → Result A UnknownCode → Type 0
Decodes table code r = MatchResult r (λ a. table code ≡ Some a) (λ e. (table code ≡ None) × (e.0 ≡ code))
