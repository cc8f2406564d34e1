-- Whom a request pre-empts: each stands in the table, and none twice.
use Rattle.std.proofs.Common.{◌≡◌, ℕ, Bool, true, false, cond, ◌⊎◌, List, [], ◌∷◌, ◌++◌, Some, None, filter, Option, sym, refl, ap, ◌∙◌, subst, inl, inr, ⊎_elim, arith}
use Rattle.std.proofs.lemmas.Bool.Decides.{nat_tests}
use Rattle.rules.specs.Tables.{of_rab, set_up_as, without_bearer}
use Rattle.rules.specs.declared.bearer.Bearer.{Bearer}
use Rattle.bearers.proofs.Waiting.{key_cases}
use Rattle.bearers.proofs.Standing.{Once, once_lookup, once_without}
use Rattle.runs.proofs.Hole.{Stand}

-- what one list has, the other has
abbrev pub Listed : List Bearer → List Bearer → Type 0
Listed bs vs = (k j : ℕ) (v : Bearer) → set_up_as k j vs ≡ Some v → set_up_as k j bs ≡ Some v

-- something that passes
abbrev if_passes : (Bearer → Bool) → Option Bearer → Option Bearer
if_passes test None = None
if_passes test (Some b) = cond (test b) (Some b) None

kept_step : (test : Bearer → Bool) (k j : ℕ) (b : Bearer) (bs : List Bearer) (s t : Bool) → of_rab k j b ≡ s → test b ≡ t → set_up_as b.place b.rab bs ≡ None →
    set_up_as k j (filter test bs) ≡ if_passes test (set_up_as k j bs) →
    set_up_as k j (cond t (b ∷ filter test bs) (filter test bs)) ≡ if_passes test (cond s (Some b) (set_up_as k j bs))
kept_step test k j b bs true true e f none ih = ap (λ z. cond z (Some b) (set_up_as k j (filter test bs))) e ∙ sym (ap (λ z. cond z (Some b) None) f)
kept_step test k j b bs true false e f none ih =
    let ep : b.place ≡ k = grind (arith, nat_tests) in
    let er : b.rab ≡ j = grind (arith, nat_tests) in
    let n : set_up_as k j bs ≡ None = subst (λ z. set_up_as z j bs ≡ None) ep (subst (λ z. set_up_as b.place z bs ≡ None) er none) in
    ih ∙ ap (if_passes test) n ∙ sym (ap (λ z. cond z (Some b) None) f)
kept_step test k j b bs false true e f none ih = ap (λ z. cond z (Some b) (set_up_as k j (filter test bs))) e ∙ ih
kept_step test k j b bs false false e f none ih = ih

-- lookup among those that pass
set_kept : (test : Bearer → Bool) (k j : ℕ) (bs : List Bearer) → Once bs → set_up_as k j (filter test bs) ≡ if_passes test (set_up_as k j bs)
set_kept test k j [] ok = refl
set_kept test k j (b ∷ bs) ok = kept_step test k j b bs (of_rab k j b) (test b) refl refl ok.0 (set_kept test k j bs ok.1)

passed : (test : Bearer → Bool) (o : Option Bearer) (v : Bearer) → if_passes test o ≡ Some v → (o ≡ Some v) × (test v ≡ true)
passed test None v e = let z : ◌≡◌ {A = ℕ} 0 1 = cc in absurd (omega arith)
passed test (Some b) v e = at (test b) refl e
  where
    at : (t : Bool) → test b ≡ t → cond t (Some b) None ≡ Some v → (Some b ≡ Some v) × (test v ≡ true)
    at true f g = let s : b ≡ v = cc in (g, sym (ap test s) ∙ f)
    at false f g = let z : ◌≡◌ {A = ℕ} 0 1 = cc in absurd (omega arith)

-- what is among those that pass stands in the table and passes
pub among_kept : (test : Bearer → Bool) (k j : ℕ) (v : Bearer) (bs : List Bearer) → Once bs → set_up_as k j (filter test bs) ≡ Some v → (set_up_as k j bs ≡ Some v) × (test v ≡ true)
among_kept test k j v bs ok e = passed test (set_up_as k j bs) v (sym (set_kept test k j bs ok) ∙ e)

once_step : (test : Bearer → Bool) (b : Bearer) (bs : List Bearer) (t : Bool) → Once (b ∷ bs) → Once (filter test bs) → Once (cond t (b ∷ filter test bs) (filter test bs))
once_step test b bs true ok ih = (set_kept test b.place b.rab bs ok.1 ∙ ap (if_passes test) ok.0, ih)
once_step test b bs false ok ih = ih

pub once_kept : (test : Bearer → Bool) (bs : List Bearer) → Once bs → Once (filter test bs)
once_kept test [] ok = tt
once_kept test (b ∷ bs) ok = once_step test b bs (test b) ok (once_kept test bs ok.1)

-- one or the other
abbrev or_else : Option Bearer → Option Bearer → Option Bearer
or_else None o = o
or_else (Some b) o = Some b

pub set_append : (k j : ℕ) (as' bs : List Bearer) → set_up_as k j (as' ++ bs) ≡ or_else (set_up_as k j as') (set_up_as k j bs)
set_append k j [] bs = refl
set_append k j (a ∷ as') bs = at (of_rab k j a) (set_append k j as' bs)
  where
    at : (t : Bool) → set_up_as k j (as' ++ bs) ≡ or_else (set_up_as k j as') (set_up_as k j bs) →
        cond t (Some a) (set_up_as k j (as' ++ bs)) ≡ or_else (cond t (Some a) (set_up_as k j as')) (set_up_as k j bs)
    at true ih = refl
    at false ih = ih

pub one_of : (o o' : Option Bearer) (v : Bearer) → or_else o o' ≡ Some v → (o ≡ Some v) ⊎ (o' ≡ Some v)
one_of None o' v e = inr e
one_of (Some b) o' v e = inl e

-- both lists have no RAB twice, and none in common
pub once_append : (as' bs : List Bearer) → Once as' → Once bs → ((k j : ℕ) (v : Bearer) → set_up_as k j as' ≡ Some v → set_up_as k j bs ≡ None) → Once (as' ++ bs)
once_append [] bs ok ok' apart = ok'
once_append (a ∷ as') bs ok ok' apart =
    let self : of_rab a.place a.rab a ≡ true = grind (arith, nat_tests) in (
      set_append a.place a.rab as' bs ∙ ap (λ o. or_else o (set_up_as a.place a.rab bs)) ok.0 ∙
          apart a.place a.rab a (ap (λ t. cond t (Some a) (set_up_as a.place a.rab as')) self),
      once_append as' bs ok.1 ok' (λ k j v e.
          ⊎_elim
          (λ same.
          let n : set_up_as k j as' ≡ None = ap (λ z. set_up_as z j as') same.0 ∙ ap (λ z. set_up_as a.place z as') same.1 ∙ ok.0 in
          let z : ◌≡◌ {A = ℕ} 0 1 = cc in
          absurd (omega arith))
          (λ other. let off : of_rab k j a ≡ false = grind (arith, nat_tests) in apart k j v (ap (λ t. cond t (Some a) (set_up_as k j as')) off ∙ e))
          (key_cases a.place a.rab k j)),
    )

-- a list of RABs of a table, none twice, stands in it one after the other
pub stand_listed : (bs vs : List Bearer) → Once bs → Once vs → Listed bs vs → Stand bs vs
stand_listed bs [] ok once listed = tt
stand_listed bs (v ∷ vs) ok once listed =
    let self : of_rab v.place v.rab v ≡ true = grind (arith, nat_tests) in (
      listed v.place v.rab v (ap (λ t. cond t (Some v) (set_up_as v.place v.rab vs)) self),
      stand_listed (without_bearer v.place v.rab bs) vs (once_without v.place v.rab bs ok) once.1 (λ k j w e.
          ⊎_elim
          (λ same.
          let n : set_up_as k j vs ≡ None = ap (λ z. set_up_as z j vs) same.0 ∙ ap (λ z. set_up_as v.place z vs) same.1 ∙ once.0 in
          let z : ◌≡◌ {A = ℕ} 0 1 = cc in
          absurd (omega arith))
          (λ other.
          let off : of_rab k j v ≡ false = grind (arith, nat_tests) in
          once_lookup v.place v.rab k j bs ok ∙ ap (λ t. cond t None (set_up_as k j bs)) other ∙ listed k j w (ap (λ t. cond t (Some v) (set_up_as k j vs)) off ∙ e))
          (key_cases v.place v.rab k j)),
    )
