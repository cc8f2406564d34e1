-- Look-ups among the set-up RABs: after one has left the table, and after one has come.
use Rattle.std.proofs.Common.{◌≡◌, ℕ, Bool, true, false, cond, ◌&&◌, eqb, List, [], ◌∷◌, Some, None, sym, refl, ap, ◌∙◌, subst, ⊎_elim, arith}
use Rattle.rules.specs.Tables.{of_rab, set_up_as, before, with_bearer, without_bearer}
use Rattle.rules.specs.declared.bearer.Bearer.{Bearer}
use Rattle.std.proofs.lemmas.Bool.{cases_order, and_parts, and_from}
use Rattle.std.proofs.lemmas.Bool.Decides.{nat_tests}
use Rattle.bearers.proofs.Waiting.{key_cases, cond_same}
use Rattle.bearers.specs.Order.{heads, ascending}

-- no RAB stands twice
abbrev pub Once : List Bearer → Type 0
Once [] = Unit {0}
Once (b ∷ bs) = (set_up_as b.place b.rab bs ≡ None) × Once bs

set_step : (p r k j : ℕ) (q : Bearer) (qs : List Bearer) (t : Bool) → of_rab p r q ≡ t →
    set_up_as q.place q.rab qs ≡ None →
    set_up_as k j (without_bearer p r qs) ≡ cond (eqb k p && eqb j r) None (set_up_as k j qs) →
    set_up_as k j (cond t qs (q ∷ without_bearer p r qs)) ≡ cond (eqb k p && eqb j r) None (cond (of_rab k j q) (Some q) (set_up_as k j qs))
set_step p r k j q qs true e none ih =
    ⊎_elim
    (λ same.
    let ep : q.place ≡ k = grind (arith, nat_tests) in
    let er : q.rab ≡ j = grind (arith, nat_tests) in
    let a : set_up_as k j qs ≡ None = subst (λ z. set_up_as z j qs ≡ None) ep (subst (λ z. set_up_as q.place z qs ≡ None) er none) in
    grind (arith, nat_tests))
    (λ other. grind (arith, nat_tests))
    (key_cases p r k j)
set_step p r k j q qs false e none ih =
    ⊎_elim
    (λ same. grind (arith, nat_tests))
    (λ other. grind (arith, nat_tests))
    (key_cases p r k j)

pub once_lookup : (p r k j : ℕ) (qs : List Bearer) → Once qs → set_up_as k j (without_bearer p r qs) ≡ cond (eqb k p && eqb j r) None (set_up_as k j qs)
once_lookup p r k j [] ok = cond_same (eqb k p && eqb j r) None
once_lookup p r k j (q ∷ qs) ok = set_step p r k j q qs (of_rab p r q) refl ok.0 (once_lookup p r k j qs ok.1)

-- a RAB that is not set up still is not
pub unset_without : (p r k j : ℕ) (qs : List Bearer) → Once qs → set_up_as k j qs ≡ None → set_up_as k j (without_bearer p r qs) ≡ None
unset_without p r k j qs ok none = once_lookup p r k j qs ok ∙ ap (λ o. cond (eqb k p && eqb j r) None o) none ∙ sym (cond_same (eqb k p && eqb j r) None)

once_step : (p r : ℕ) (q : Bearer) (qs : List Bearer) (t : Bool) → Once (q ∷ qs) → Once (without_bearer p r qs) → Once (cond t qs (q ∷ without_bearer p r qs))
once_step p r q qs true ok rest = ok.1
once_step p r q qs false ok rest = (unset_without p r q.place q.rab qs ok.1 ok.0, rest)

pub once_without : (p r : ℕ) (qs : List Bearer) → Once qs → Once (without_bearer p r qs)
once_without p r [] ok = tt
once_without p r (q ∷ qs) ok = once_step p r q qs (of_rab p r q) ok (once_without p r qs ok.1)

pub none_head : (p r : ℕ) (a : Bearer) (as' : List Bearer) → cond (of_rab p r a) (Some a) (set_up_as p r as') ≡ None → (of_rab p r a ≡ false) × (set_up_as p r as' ≡ None)
none_head p r a as' e = at (of_rab p r a) refl e
  where
    at : (t : Bool) → of_rab p r a ≡ t → cond t (Some a) (set_up_as p r as') ≡ None → (of_rab p r a ≡ false) × (set_up_as p r as' ≡ None)
    at true f h = let z : ◌≡◌ {A = ℕ} 0 1 = cc in absurd (omega arith)
    at false f h = (f, h)

set_in_step : (k j : ℕ) (b a : Bearer) (as' : List Bearer) (t : Bool) → of_rab b.place b.rab a ≡ false →
    set_up_as k j (with_bearer b as') ≡ cond (eqb k b.place && eqb j b.rab) (Some b) (set_up_as k j as') →
    set_up_as k j (cond t (b ∷ a ∷ as') (a ∷ with_bearer b as')) ≡ cond (eqb k b.place && eqb j b.rab) (Some b) (cond (of_rab k j a) (Some a) (set_up_as k j as'))
set_in_step k j b a as' true off ih = ⊎_elim (λ same. grind (arith, nat_tests)) (λ other. grind (arith, nat_tests)) (key_cases b.place b.rab k j)
set_in_step k j b a as' false off ih = ⊎_elim (λ same. grind (arith, nat_tests)) (λ other. grind (arith, nat_tests)) (key_cases b.place b.rab k j)

pub set_with : (k j : ℕ) (b : Bearer) (bs : List Bearer) → set_up_as b.place b.rab bs ≡ None →
    set_up_as k j (with_bearer b bs) ≡ cond (eqb k b.place && eqb j b.rab) (Some b) (set_up_as k j bs)
set_with k j b [] none = ⊎_elim (λ same. grind (arith, nat_tests)) (λ other. grind (arith, nat_tests)) (key_cases b.place b.rab k j)
set_with k j b (a ∷ as') none =
    let n = none_head b.place b.rab a as' none in
    set_in_step k j b a as' (before b a) n.0 (set_with k j b as' n.1)

-- the order of the table
pub before_trans : (a b c : Bearer) → before a b ≡ true → before b c ≡ true → before a c ≡ true
before_trans a b c p q = grind (arith, nat_tests)

before_other : (a b : Bearer) → before a b ≡ true → of_rab a.place a.rab b ≡ false
before_other a b p = grind (arith, nat_tests)

heads_next : (a b : Bearer) (bs : List Bearer) → before a b ≡ true → heads b bs ≡ true → heads a bs ≡ true
heads_next a b [] p h = refl
heads_next a b (c ∷ cs) p h = before_trans a b c p h

-- a RAB before the first of the table does not stand in it
absent : (a : Bearer) (bs : List Bearer) → heads a bs ≡ true → ascending bs ≡ true → set_up_as a.place a.rab bs ≡ None
absent a [] h s = refl
absent a (b ∷ bs) h s =
    let p = and_parts (heads b bs) (ascending bs) s in
    ap (λ t. cond t (Some b) (set_up_as a.place a.rab bs)) (before_other a b h) ∙ absent a bs (heads_next a b bs h p.0) p.1

pub once_from : (bs : List Bearer) → ascending bs ≡ true → Once bs
once_from [] s = tt
once_from (b ∷ bs) s = let p = and_parts (heads b bs) (ascending bs) s in (absent b bs p.0 p.1, once_from bs p.1)

heads_but : (p r : ℕ) (a : Bearer) (bs : List Bearer) → heads a bs ≡ true → ascending bs ≡ true → heads a (without_bearer p r bs) ≡ true
heads_but p r a [] h s = refl
heads_but p r a (b ∷ bs) h s = at (of_rab p r b)
  where
    at : (t : Bool) → heads a (cond t bs (b ∷ without_bearer p r bs)) ≡ true
    at true = heads_next a b bs h (and_parts (heads b bs) (ascending bs) s).0
    at false = h

ascending_but : (p r : ℕ) (b : Bearer) (bs : List Bearer) (t : Bool) → ascending (b ∷ bs) ≡ true → ascending (without_bearer p r bs) ≡ true → ascending (cond t bs (b ∷ without_bearer p r bs)) ≡ true
ascending_but p r b bs true s ih = (and_parts (heads b bs) (ascending bs) s).1
ascending_but p r b bs false s ih =
    let q = and_parts (heads b bs) (ascending bs) s in and_from (heads b (without_bearer p r bs)) (ascending (without_bearer p r bs)) (heads_but p r b bs q.0 q.1) ih

-- the table stays in order without a RAB
pub ascending_without : (p r : ℕ) (bs : List Bearer) → ascending bs ≡ true → ascending (without_bearer p r bs) ≡ true
ascending_without p r [] s = refl
ascending_without p r (b ∷ bs) s = ascending_but p r b bs (of_rab p r b) s (ascending_without p r bs (and_parts (heads b bs) (ascending bs) s).1)

heads_in : (a b c : Bearer) (cs : List Bearer) (t : Bool) → before a b ≡ true → before a c ≡ true → heads a (cond t (b ∷ c ∷ cs) (c ∷ with_bearer b cs)) ≡ true
heads_in a b c cs true p q = p
heads_in a b c cs false p q = q

heads_with : (a b : Bearer) (bs : List Bearer) → before a b ≡ true → heads a bs ≡ true → heads a (with_bearer b bs) ≡ true
heads_with a b [] p h = p
heads_with a b (c ∷ cs) p h = heads_in a b c cs (before b c) p h

-- one of two that are not the same comes first
before_else : (a b : Bearer) → before b a ≡ false → of_rab b.place b.rab a ≡ false → before a b ≡ true
before_else a b p q = grind (arith, nat_tests, cases_order a.place b.place, cases_order a.rab b.rab)

ascending_in : (b a : Bearer) (as' : List Bearer) (t : Bool) → before b a ≡ t → of_rab b.place b.rab a ≡ false → ascending (a ∷ as') ≡ true → ascending (with_bearer b as') ≡ true →
    ascending (cond t (b ∷ a ∷ as') (a ∷ with_bearer b as')) ≡ true
ascending_in b a as' true e off s ih = and_from (before b a) (ascending (a ∷ as')) e s
ascending_in b a as' false e off s ih =
    let p = and_parts (heads a as') (ascending as') s in
    and_from (heads a (with_bearer b as')) (ascending (with_bearer b as')) (heads_with a b as' (before_else a b e off) p.0) ih

-- the table stays in order with one RAB more
pub ascending_with : (b : Bearer) (bs : List Bearer) → set_up_as b.place b.rab bs ≡ None → ascending bs ≡ true → ascending (with_bearer b bs) ≡ true
ascending_with b [] none s = refl
ascending_with b (a ∷ as') none s =
    let n = none_head b.place b.rab a as' none in
    ascending_in b a as' (before b a) refl n.0 s (ascending_with b as' n.1 (and_parts (heads a as') (ascending as') s).1)
