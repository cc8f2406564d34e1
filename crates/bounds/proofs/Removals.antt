-- Set-up RABs taken out of a table one after the other: each is there if the table has it as often as the list of them.
use Rattle.std.proofs.Common.{◌≡◌, ℕ, ◌+◌, ◌<◌, ◌≤◌, Bool, true, false, cond, ◌&&◌, eqb, List, [], ◌∷◌, ◌++◌, Some, filter, sym, refl, ap, ◌∙◌, subst, ⊎_elim, arith}
use Rattle.std.proofs.lemmas.Bool.Decides.{nat_tests}
use Rattle.rules.specs.Tables.{is_some, of_rab, set_up_as, without_bearer}
use Rattle.rules.specs.declared.bearer.Bearer.{Bearer}
use Rattle.bearers.proofs.Waiting.{key_cases}

-- a RAB is set up under its own place and RAB ID
pub set_up_key : (p r : ℕ) (b : Bearer) (bs : List Bearer) → set_up_as p r bs ≡ Some b → (b.place ≡ p) × (b.rab ≡ r)
set_up_key p r b [] e = let z : ◌≡◌ {A = ℕ} 0 1 = cc in absurd (omega arith)
set_up_key p r b (a ∷ as') e = at (of_rab p r a) refl e (set_up_key p r b as')
  where
    at : (t : Bool) → of_rab p r a ≡ t → cond t (Some a) (set_up_as p r as') ≡ Some b → (set_up_as p r as' ≡ Some b → (b.place ≡ p) × (b.rab ≡ r)) → (b.place ≡ p) × (b.rab ≡ r)
    at true k f ih = let s : a ≡ b = cc in (sym (ap (λ z. z.place) s) ∙ grind (arith, nat_tests), sym (ap (λ z. z.rab) s) ∙ grind (arith, nat_tests))
    at false k f ih = ih f

-- how often a RAB stands in a table
abbrev pub times : ℕ → ℕ → List Bearer → ℕ
times k j [] = 0
times k j (b ∷ bs) = cond {A = ℕ} (of_rab k j b) 1 0 + times k j bs

times_some : (k j : ℕ) (bs : List Bearer) → 0 < times k j bs → is_some (set_up_as k j bs) ≡ true
times_some k j [] l = absurd (omega arith)
times_some k j (b ∷ bs) l = at (of_rab k j b) l (times_some k j bs)
  where
    at : (t : Bool) → 0 < cond {A = ℕ} t 1 0 + times k j bs → (0 < times k j bs → is_some (set_up_as k j bs) ≡ true) → is_some (cond t (Some b) (set_up_as k j bs)) ≡ true
    at true h ih = refl
    at false h ih = ih (omega arith)

-- one fewer of the RAB that is taken out
times_gone : (p r : ℕ) (bs : List Bearer) → times p r bs ≤ times p r (without_bearer p r bs) + 1
times_gone p r [] = omega arith
times_gone p r (b ∷ bs) = at (of_rab p r b) refl (times_gone p r bs)
  where
    at : (t : Bool) → of_rab p r b ≡ t → times p r bs ≤ times p r (without_bearer p r bs) + 1 → cond {A = ℕ} t 1 0 + times p r bs ≤ times p r (cond t bs (b ∷ without_bearer p r bs)) + 1
    at true e ih = omega arith
    at false e ih = let z : ◌≡◌ {A = ℕ} (cond (of_rab p r b) 1 0) 0 = ap (λ t. cond {A = ℕ} t 1 0) e in omega arith

-- the others stand as often as before
pub times_else : (p r k j : ℕ) (bs : List Bearer) → (eqb k p && eqb j r) ≡ false → times k j (without_bearer p r bs) ≡ times k j bs
times_else p r k j [] off = refl
times_else p r k j (b ∷ bs) off = at (of_rab p r b) refl (times_else p r k j bs off)
  where
    at : (t : Bool) → of_rab p r b ≡ t → times k j (without_bearer p r bs) ≡ times k j bs → times k j (cond t bs (b ∷ without_bearer p r bs)) ≡ cond {A = ℕ} (of_rab k j b) 1 0 + times k j bs
    at true e ih =
        let f : of_rab k j b ≡ false = grind (arith, nat_tests) in
        let z : ◌≡◌ {A = ℕ} (cond (of_rab k j b) 1 0) 0 = ap (λ t. cond {A = ℕ} t 1 0) f in
        omega arith
    at false e ih = omega arith

-- they are there one after the other
abbrev pub Removable : List Bearer → List Bearer → Type 0
Removable bs [] = Unit {0}
Removable bs (v ∷ vs) = (is_some (set_up_as v.place v.rab bs) ≡ true) × Removable (without_bearer v.place v.rab bs) vs

own_time : (v : Bearer) → ◌≡◌ {A = ℕ} (cond (of_rab v.place v.rab v) 1 0) 1
own_time v = let t : of_rab v.place v.rab v ≡ true = grind (arith, nat_tests) in ap (λ t. cond {A = ℕ} t 1 0) t

pub removable : (vs bs : List Bearer) → ((k j : ℕ) → times k j vs ≤ times k j bs) → Removable bs vs
removable [] bs l = tt
removable (v ∷ vs) bs l =
    let p = v.place in
    let r = v.rab in
    let one = own_time v in
    let here : times p r (v ∷ vs) ≤ times p r bs = l p r in (
      times_some p r bs (omega arith),
      removable vs (without_bearer p r bs) (λ k j.
          let there : times k j (v ∷ vs) ≤ times k j bs = l k j in
          ⊎_elim
          (λ same.
          let gone = times_gone p r bs in
          let h : times p r vs ≤ times p r (without_bearer p r bs) = omega arith in
          subst (λ z. times z j vs ≤ times z j (without_bearer p r bs)) (sym same.0) (subst (λ z. times p z vs ≤ times p z (without_bearer p r bs)) (sym same.1) h))
          (λ off. let e = times_else p r k j bs off in omega arith)
          (key_cases p r k j)),
    )

-- those that pass a test stand at most as often
pub times_kept : (test : Bearer → Bool) (k j : ℕ) (bs : List Bearer) → times k j (filter test bs) ≤ times k j bs
times_kept test k j [] = omega arith
times_kept test k j (b ∷ bs) = at (test b) (times_kept test k j bs)
  where
    at : (t : Bool) → times k j (filter test bs) ≤ times k j bs → times k j (cond t (b ∷ filter test bs) (filter test bs)) ≤ cond {A = ℕ} (of_rab k j b) 1 0 + times k j bs
    at true ih = omega arith
    at false ih = omega arith

pub times_append : (k j : ℕ) (as' bs : List Bearer) → times k j (as' ++ bs) ≡ times k j as' + times k j bs
times_append k j [] bs = omega arith
times_append k j (a ∷ as') bs = let i = times_append k j as' bs in omega arith
