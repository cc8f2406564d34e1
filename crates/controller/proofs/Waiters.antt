-- Whether a request of a kind waits, by the first of them.
use Rattle.std.specs.List.{find}
use Rattle.rules.specs.Tables.{is_some, any_request}
use Rattle.rules.specs.declared.bearer.Request.{Request}
use Rattle.std.proofs.Common.{◌≡◌, Bool, true, false, cond, ◌||◌, List, [], ◌∷◌, Some, Option, refl}

one_more : (t r : Bool) (q : Request) (o : Option Request) → is_some o ≡ r → is_some (cond t (Some q) o) ≡ (t || r)
one_more true r q o e = refl
one_more false r q o e = e

pub first_any : (test : Request → Bool) (qs : List Request) → is_some (find test qs) ≡ any_request test qs
first_any test [] = refl
first_any test (q ∷ qs) = one_more (test q) (any_request test qs) q (find test qs) (first_any test qs)
