-- Look-ups in the queue: after a request has left it, and after one has come.
use Rattle.std.proofs.Common.{◌≡◌, ℕ, Bool, true, false, cond, not, ◌&&◌, eqb, ◌⊎◌, List, [], ◌∷◌, ◌++◌, Some, None, Option, sym, refl, ap, ◌∙◌, subst, inl, inr, ⊎_elim, arith}
use Rattle.rules.specs.Tables.{is_some, asks_for, waits_as, without_request}
use Rattle.rules.specs.declared.bearer.Request.{Request}
use Rattle.std.proofs.lemmas.Bool.{cases_eq, and_parts, and_from, not-true}
use Rattle.std.proofs.lemmas.Bool.Decides.{nat_tests}
use Rattle.bearers.specs.Order.{apart}

-- not something is nothing
pub nothing_there : {X : Type 0} (o : Option X) → is_some o ≡ false → o ≡ None
nothing_there None e = refl
nothing_there (Some a) e = let z : ◌≡◌ {A = ℕ} 0 1 = cc in absurd (omega arith)

-- no RAB waits twice
abbrev pub Apart : List Request → Type 0
Apart [] = Unit {0}
Apart (q ∷ qs) = (waits_as q.place q.rab qs ≡ None) × Apart qs

pub cond_same : {X : Type 0} (b : Bool) (v : X) → v ≡ cond b v v
cond_same true v = refl
cond_same false v = refl

-- one key or another
pub key_cases : (p r k j : ℕ) → ((k ≡ p) × (j ≡ r)) ⊎ ((eqb k p && eqb j r) ≡ false)
key_cases p r k j =
    ⊎_elim
    (λ e. ⊎_elim (λ f. inl (e, f)) (λ f. inr (grind (arith, nat_tests))) (cases_eq j r))
    (λ e. inr (grind (arith, nat_tests)))
    (cases_eq k p)

-- the first of the queue, asked for or not
without_step : (p r k j : ℕ) (q : Request) (qs : List Request) (t : Bool) → asks_for p r q ≡ t →
    waits_as q.place q.rab qs ≡ None →
    waits_as k j (without_request p r qs) ≡ cond (eqb k p && eqb j r) None (waits_as k j qs) →
    waits_as k j (cond t qs (q ∷ without_request p r qs)) ≡ cond (eqb k p && eqb j r) None (cond (asks_for k j q) (Some q) (waits_as k j qs))
without_step p r k j q qs true e none ih =
    ⊎_elim
    (λ same.
    let ep : q.place ≡ k = grind (arith, nat_tests) in
    let er : q.rab ≡ j = grind (arith, nat_tests) in
    let a : waits_as k j qs ≡ None = subst (λ z. waits_as z j qs ≡ None) ep (subst (λ z. waits_as q.place z qs ≡ None) er none) in
    grind (arith, nat_tests))
    (λ other. grind (arith, nat_tests))
    (key_cases p r k j)
without_step p r k j q qs false e none ih =
    ⊎_elim
    (λ same. grind (arith, nat_tests))
    (λ other. grind (arith, nat_tests))
    (key_cases p r k j)

pub waits_without : (p r k j : ℕ) (qs : List Request) → Apart qs → waits_as k j (without_request p r qs) ≡ cond (eqb k p && eqb j r) None (waits_as k j qs)
waits_without p r k j [] ok = cond_same (eqb k p && eqb j r) None
waits_without p r k j (q ∷ qs) ok = without_step p r k j q qs (asks_for p r q) refl ok.0 (waits_without p r k j qs ok.1)

-- what did not wait still does not
pub none_without : (p r k j : ℕ) (qs : List Request) → Apart qs → waits_as k j qs ≡ None → waits_as k j (without_request p r qs) ≡ None
none_without p r k j qs ok none = waits_without p r k j qs ok ∙ ap (λ o. cond (eqb k p && eqb j r) None o) none ∙ sym (cond_same (eqb k p && eqb j r) None)

apart_step : (p r : ℕ) (q : Request) (qs : List Request) (t : Bool) → Apart (q ∷ qs) → Apart (without_request p r qs) → Apart (cond t qs (q ∷ without_request p r qs))
apart_step p r q qs true ok rest = ok.1
apart_step p r q qs false ok rest = (none_without p r q.place q.rab qs ok.1 ok.0, rest)

-- nor does the RAB whose request has left
pub gone_without : (p r : ℕ) (qs : List Request) → Apart qs → waits_as p r (without_request p r qs) ≡ None
gone_without p r qs ok = waits_without p r p r qs ok ∙ grind (arith, nat_tests)

pub apart_without : (p r : ℕ) (qs : List Request) → Apart qs → Apart (without_request p r qs)
apart_without p r [] ok = tt
apart_without p r (q ∷ qs) ok = apart_step p r q qs (asks_for p r q) ok (apart_without p r qs ok.1)

-- the first of the queue is not the RAB's, and none behind it is
pub none_head : (p r : ℕ) (a : Request) (qs : List Request) (t : Bool) → asks_for p r a ≡ t → cond t (Some a) (waits_as p r qs) ≡ None → (asks_for p r a ≡ false) × (waits_as p r qs ≡ None)
none_head p r a qs true f h = let z : ◌≡◌ {A = ℕ} 0 1 = cc in absurd (omega arith)
none_head p r a qs false f h = (f, h)

append_step : (k j : ℕ) (q a : Request) (o o' : Option Request) → asks_for q.place q.rab a ≡ false → o' ≡ cond (eqb k q.place && eqb j q.rab) (Some q) o →
    cond (asks_for k j a) (Some a) o' ≡ cond (eqb k q.place && eqb j q.rab) (Some q) (cond (asks_for k j a) (Some a) o)
append_step k j q a o o' off e = ⊎_elim (λ same. grind (arith, nat_tests)) (λ other. grind (arith, nat_tests)) (key_cases q.place q.rab k j)

-- the queue with one more at its end
pub waits_append : (k j : ℕ) (q : Request) (qs : List Request) → waits_as q.place q.rab qs ≡ None →
    waits_as k j (qs ++ q ∷ []) ≡ cond (eqb k q.place && eqb j q.rab) (Some q) (waits_as k j qs)
waits_append k j q [] none = ⊎_elim (λ same. grind (arith, nat_tests)) (λ other. grind (arith, nat_tests)) (key_cases q.place q.rab k j)
waits_append k j q (a ∷ qs) none =
    let n = none_head q.place q.rab a qs (asks_for q.place q.rab a) refl none in
    append_step k j q a (waits_as k j qs) (waits_as k j (qs ++ q ∷ [])) n.0 (waits_append k j q qs n.1)

pub apart_append : (q : Request) (qs : List Request) → Apart qs → waits_as q.place q.rab qs ≡ None → Apart (qs ++ q ∷ [])
apart_append q [] ok none = (refl, tt)
apart_append q (a ∷ qs) ok none =
    let n = none_head q.place q.rab a qs (asks_for q.place q.rab a) refl none in
    let w = waits_append a.place a.rab q qs n.1 in
    let h : waits_as a.place a.rab qs ≡ None = ok.0 in
    (grind (arith, nat_tests), apart_append q qs ok.1 n.1)

-- the test of it
pub apart_from : (qs : List Request) → apart qs ≡ true → Apart qs
apart_from [] e = tt
apart_from (q ∷ qs) e =
    let a = and_parts (not (is_some (waits_as q.place q.rab qs))) (apart qs) e in
    (nothing_there (waits_as q.place q.rab qs) (not-true (is_some (waits_as q.place q.rab qs)) a.0), apart_from qs a.1)

pub apart_to : (qs : List Request) → Apart qs → apart qs ≡ true
apart_to [] ok = refl
apart_to (q ∷ qs) ok =
    and_from (not (is_some (waits_as q.place q.rab qs))) (apart qs) (ap (λ o. not (is_some o)) ok.0) (apart_to qs ok.1)
