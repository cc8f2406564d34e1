-- What stands under a number.
use Rattle.std.proofs.Common.{◌≡◌, ℕ, zero, suc, List, [], ◌∷◌, get_or, slice_get}
use Rattle.std.specs.Option.{UnwrapsOrElse}

pub under : {X : Type 0} (d : X) (xs : List X) (k : ℕ) (x : X) → UnwrapsOrElse (slice_get xs k) (λ y. y ≡ d) x → x ≡ get_or xs k d
under d [] k x is = is
under d (y ∷ ys) zero x is = is
under d (y ∷ ys) (suc k) x is = under d ys k x is
