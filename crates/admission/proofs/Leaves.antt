-- What a fill of a part of a list does to each place.
use Rattle.std.proofs.Common.{◌≡◌, ℕ, ◌-◌, ◌≤◌, cond, ◌&&◌, ltb, leb, List, length, get_or, replicate, Option, Some, None, is_some, option_map, refl, arith}
use Rattle.std.specs.declared.ops.Range.{Range}
use Rattle.std.proofs.lemmas.Option.{same_Some}
use Rattle.admission.specs.Tree.{leaves_of}
use borrow.Rule.Slice.PartMut.{put_mid}
use Rattle.std.proofs.lemmas.Bool.{cases_lt}
use Rattle.std.proofs.lemmas.Bool.Decides.{nat_tests}
use Rattle.std.proofs.lemmas.List.{places}

pub filled :
    {X : Type 0} (xs ys : List X) (a e i : ℕ) (v d : X) → a ≤ e → e ≤ length xs → ys ≡ replicate (e - a) v →
    get_or (put_mid a (e - a) xs ys) i d ≡ cond (leb a i && ltb i e) v (get_or xs i d)
filled xs ys a e i v d some within f = grind (arith, nat_tests, places, cases_lt i a, cases_lt i e)

-- there are leaves where there is a block
pub has_leaves : (w : ℕ) (o : Option ℕ) → is_some (option_map (leaves_of w) o) ≡ is_some o
has_leaves w None = refl
has_leaves w (Some j) = refl

-- and they are the block's
pub leaves_are : (w : ℕ) (o : Option ℕ) (leaves : Range ℕ) → Some leaves ≡ option_map (leaves_of w) o → (j : ℕ) × (Some j ≡ o) × (leaves ≡ leaves_of w j)
leaves_are w None leaves e = cc
leaves_are w (Some j) leaves e = (j, refl, same_Some leaves (leaves_of w j) e)
