-- A list changed element by element.
use Rattle.std.proofs.Common.{◌≡◌, ℕ, ◌+◌, ◌<◌, ◌≤◌, ⊎_elim, subst, sym, arith, List, ◌++◌, map, length, length-set, get_or, take, drop, set, ap, ◌∙◌}
use Rattle.std.proofs.lemmas.List.Edits.{map_over_more}
use Rattle.std.proofs.lemmas.Bool.{cases_lt}
use Rattle.std.proofs.lemmas.Bool.Decides.{nat_tests}
use Rattle.std.proofs.lemmas.List.{get_or_default, get_or-set_same, places}

-- one element more is changed
pub mapped_more : {X : Type 0} (f : X → X) (xs ys : List X) (i : ℕ) (d v : X) → i < length xs → i < length ys → ys ≡ map f (take i xs) ++ drop i xs → v ≡ f (get_or ys i d) →
    set ys i v ≡ map f (take (i + 1) xs) ++ drop (i + 1) xs
mapped_more f xs ys i d v l k e s =
    ap (set ys i) s ∙ map_over_more f xs ys i (get_or ys i d) l e (get_or_default ys i d (get_or ys i d) k)

-- a list of the same length
pub one_written : {X : Type 0} (xs ys : List X) (i n : ℕ) (v : X) → ys ≡ set xs i v → length xs ≡ n → length ys ≡ n
one_written xs ys i n v e l = ap length e ∙ length-set xs i v ∙ l

-- at the first places a relation holds between two lists, at the others they are the same
abbrev pub UpTo : {X : Type 0} → (X → X → Type 0) → X → ℕ → List X → List X → Type 0
UpTo R d i xs ys = record { each : (k : ℕ) → k < i → R (get_or xs k d) (get_or ys k d); kept : (k : ℕ) → i ≤ k → get_or ys k d ≡ get_or xs k d }

-- one place more
pub up_to_more : {X : Type 0} (R : X → X → Type 0) (d : X) (i : ℕ) (xs ys zs : List X) (v : X) → i < length ys → zs ≡ set ys i v → UpTo R d i xs ys → R (get_or ys i d) v → UpTo R d (i + 1) xs zs
up_to_more R d i xs ys zs v l e before here = record {
  each = λ k below.
      ⊎_elim
      (λ lower. let same : get_or zs k d ≡ get_or ys k d = grind (arith, nat_tests, places) in subst (R (get_or xs k d)) (sym same) (before.each k lower))
      (λ upper.
      let it : k ≡ i = omega arith in
      let new : get_or zs k d ≡ v = ap (λ l. get_or l k d) e ∙ ap (λ n. get_or (set ys i v) n d) it ∙ get_or-set_same ys i v d l in
      let old : get_or ys i d ≡ get_or xs k d = ap (λ n. get_or ys n d) (sym it) ∙ before.kept k (omega arith) in
      subst (R (get_or xs k d)) (sym new) (subst (λ o. R o v) old here))
      (cases_lt k i);
  kept = λ k above. let same : get_or zs k d ≡ get_or ys k d = grind (arith, nat_tests, places) in same ∙ before.kept k (omega arith);
}
