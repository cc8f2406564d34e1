-- What an array holds, read at any number.
use Rattle.std.proofs.Common.{◌≡◌, ℕ, zero, suc, get_or, replicate, Option, Some, None, IfSome, refl, subst}
use Rattle.std.proofs.lemmas.Option.{none-some, same_Some}

-- an array of one value, whose default is that value
pub same_throughout : {X : Type 0} (d : X) (n k : ℕ) → get_or (replicate n d) k d ≡ d
same_throughout d zero k = refl
same_throughout d (suc n) zero = refl
same_throughout d (suc n) (suc k) = same_throughout d n k

-- where the one value is no number, or one that passes, each number read with the default None passes
pub numbers_pass : (P : ℕ → Type 0) (n k : ℕ) (o : Option ℕ) (g : ℕ) → get_or (replicate n o) k None ≡ Some g → IfSome o P → P g
numbers_pass P zero k o g e pass = absurd (none-some g e)
numbers_pass P (suc n) zero None g e pass = absurd (none-some g e)
numbers_pass P (suc n) zero (Some h) g e pass = subst P (same_Some h g e) pass
numbers_pass P (suc n) (suc k) o g e pass = numbers_pass P n k o g e pass
