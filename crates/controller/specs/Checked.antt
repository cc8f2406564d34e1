-- The checks of a call, each by the first reason against it.
use Rattle.std.specs.Prelude.{◌≡◌, Some, None, Option, Result, MatchResult}
use Rattle.rules.specs.declared.refusal.Refusal.{Refusal}

-- a check passes where no reason stands against the call, and refuses for the first that does
abbrev pub Checks : Option Refusal → Result (Unit {0}) Refusal → Type 0
Checks f r = MatchResult r (λ _. f ≡ None) (λ e. f ≡ Some e)

-- the same of a check that answers a value that the call goes on with
abbrev pub Admits : {A : Type 0} → Option Refusal → Option A → Result A Refusal → Type 0
Admits f named r = MatchResult r (λ a. (f ≡ None) × (named ≡ Some a)) (λ e. f ≡ Some e)
