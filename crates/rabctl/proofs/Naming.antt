-- Grant numbers that go into a set one by one.
use Rattle.std.proofs.Common.{◌≡◌, ℕ, ◌+◌, ◌<◌, ◌≤◌, Bool, true, false, cond, ◌&&◌, ◌||◌, eqb, ltb, List, length, get_or, drop, sym, ap, ◌∙◌, ⊎_elim, arith}
use Rattle.admission.specs.Member.{inserted}
use Rattle.rabctl.specs.Grants.{among, named_set}
use Rattle.rules.specs.Grants.{nothing, added}
use Rattle.std.proofs.lemmas.List.{at_drop_more, at_drop_all}
use Rattle.std.proofs.lemmas.Bool.{cases_eq, cases_Bool}
use Rattle.std.proofs.lemmas.Bool.Decides.{nat_tests}
use mathlib.Core.Path.{fun_ext}

-- the numbers of a set, and those of a list that are still to go into it
abbrev pub with_named : (ℕ → Bool) → List ℕ → ℕ → Bool
with_named n gs k = n k || named_set gs k

inserted_at : (n : ℕ → Bool) (g k : ℕ) (small : Bool) → cond small (added n g) n k ≡ (n k || (small && eqb k g))
inserted_at n g k true = grind (arith, cases_Bool (n k), cases_Bool (eqb k g))
inserted_at n g k false = grind (arith, cases_Bool (n k))

first_in : (n : ℕ → Bool) (g : ℕ) (gs : List ℕ) (k : ℕ) → with_named (inserted n g) gs k ≡ (n k || (ltb k 64 && (eqb k g || among gs k)))
first_in n g gs k =
    ap (λ b. b || named_set gs k) (inserted_at n g k (ltb g 64)) ∙
    ⊎_elim
    (λ e. grind (arith, nat_tests, cases_Bool (n k), cases_Bool (among gs k)))
    (λ ne. grind (arith, nat_tests, cases_Bool (n k), cases_Bool (among gs k)))
    (cases_eq k g)

-- the number at a place of the list goes into the set
pub one_more : (n n' : ℕ → Bool) (gs : List ℕ) (i : ℕ) → i < length gs → n' ≡ inserted n (get_or gs i 0) → with_named n' (drop (i + 1) gs) ≡ with_named n (drop i gs)
one_more n n' gs i lt e =
    ap (λ m. with_named m (drop (i + 1) gs)) e ∙
    fun_ext (first_in n (get_or gs i 0) (drop (i + 1) gs)) ∙
    sym (at_drop_more (with_named n) gs i 0 lt)

pub at_start : (n : ℕ → Bool) (gs : List ℕ) → n ≡ nothing → with_named n gs ≡ named_set gs
at_start n gs e = ap (λ m. with_named m gs) e

pub at_end : (n : ℕ → Bool) (gs : List ℕ) (i : ℕ) → length gs ≤ i → with_named n (drop i gs) ≡ n
at_end n gs i le = at_drop_all (with_named n) gs i le ∙ fun_ext (λ k. grind (arith, cases_Bool (n k), cases_Bool (ltb k 64)))
