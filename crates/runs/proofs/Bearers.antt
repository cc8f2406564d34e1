-- Lookups among the set-up RABs after a removal, and the grants that they have.
use Rattle.std.proofs.Common.{◌≡◌, ℕ, ◌<◌, Bool, true, false, cond, ◌&&◌, eqb, List, [], ◌∷◌, Some, None, sym, refl, ap, ◌∙◌, ⊎_elim, arith}
use Rattle.std.proofs.lemmas.Bool.Decides.{nat_tests}
use Rattle.std.proofs.lemmas.Bool.{cases_eq}
use Rattle.rules.specs.Tables.{of_rab, set_up_as, without_bearer}
use Rattle.rules.specs.declared.bearer.Bearer.{Bearer}
use Rattle.bearers.proofs.Waiting.{cond_same}
use Rattle.bearers.proofs.Standing.{Once, once_lookup}

-- the sizes by grant number that a table of bearers accounts for
abbrev pub sizes_by : List Bearer → ℕ → ℕ
sizes_by [] g = 0
sizes_by (b ∷ bs) g = cond (eqb g b.grant) b.size (sizes_by bs g)

-- no RAB stands twice, no grant number twice, and no size is 0
abbrev pub Well : List Bearer → Type 0
Well [] = Unit {0}
Well (b ∷ bs) = (0 < b.size) × (set_up_as b.place b.rab bs ≡ None) × (sizes_by bs b.grant ≡ 0) × Well bs

pub well_once : (bs : List Bearer) → Well bs → Once bs
well_once [] ok = tt
well_once (b ∷ bs) ok = (ok.1, well_once bs ok.3)

pub set_without : (p r k j : ℕ) (qs : List Bearer) → Well qs → set_up_as k j (without_bearer p r qs) ≡ cond (eqb k p && eqb j r) None (set_up_as k j qs)
set_without p r k j qs ok = once_lookup p r k j qs (well_once qs ok)

-- a set-up RAB has its size under its grant number
at_step : (p r : ℕ) (b q : Bearer) (qs : List Bearer) (t : Bool) → cond t (Some q) (set_up_as p r qs) ≡ Some b → Well (q ∷ qs) →
    (set_up_as p r qs ≡ Some b → (sizes_by qs b.grant ≡ b.size) × (0 < b.size)) →
    (cond (eqb b.grant q.grant) q.size (sizes_by qs b.grant) ≡ b.size) × (0 < b.size)
at_step p r b q qs true e ok ih =
    let same : q ≡ b = cc in
    let size : q.size ≡ b.size = ap (λ z. z.size) same in
    let number : q.grant ≡ b.grant = ap (λ z. z.grant) same in
    let some : 0 < q.size = ok.0 in
    (grind (arith, nat_tests), omega arith)
at_step p r b q qs false e ok ih =
    let i = ih e in
    let none : sizes_by qs q.grant ≡ 0 = ok.2 in
    ⊎_elim
    (λ same. let z : sizes_by qs b.grant ≡ 0 = ap (sizes_by qs) same ∙ none in absurd (omega arith))
    (λ other. (grind (arith, nat_tests), i.1))
    (cases_eq b.grant q.grant)

pub sizes_at : (p r : ℕ) (b : Bearer) (qs : List Bearer) → Well qs → set_up_as p r qs ≡ Some b → (sizes_by qs b.grant ≡ b.size) × (0 < b.size)
sizes_at p r b [] ok e = let z : ◌≡◌ {A = ℕ} 0 1 = cc in absurd (omega arith)
sizes_at p r b (q ∷ qs) ok e = at_step p r b q qs (of_rab p r q) e ok (sizes_at p r b qs ok.3)

without_at : (p r g : ℕ) (b q : Bearer) (qs : List Bearer) (t : Bool) → cond t (Some q) (set_up_as p r qs) ≡ Some b → Well (q ∷ qs) →
    (set_up_as p r qs ≡ Some b → sizes_by (without_bearer p r qs) g ≡ cond (eqb g b.grant) 0 (sizes_by qs g)) →
    sizes_by (cond t qs (q ∷ without_bearer p r qs)) g ≡ cond (eqb g b.grant) 0 (cond (eqb g q.grant) q.size (sizes_by qs g))
without_at p r g b q qs true e ok ih =
    let same : q ≡ b = cc in
    let number : q.grant ≡ b.grant = ap (λ z. z.grant) same in
    let none : sizes_by qs q.grant ≡ 0 = ok.2 in
    ⊎_elim
    (λ here. let z : sizes_by qs g ≡ 0 = ap (sizes_by qs) here ∙ none in grind (arith, nat_tests))
    (λ there. grind (arith, nat_tests))
    (cases_eq g q.grant)
without_at p r g b q qs false e ok ih =
    let i = ih e in
    let a = sizes_at p r b qs ok.3 e in
    let none : sizes_by qs q.grant ≡ 0 = ok.2 in
    ⊎_elim
    (λ here. ⊎_elim
    (λ same. let z : sizes_by qs b.grant ≡ 0 = ap (sizes_by qs) (sym same ∙ here) ∙ none in absurd (omega arith))
    (λ other. grind (arith, nat_tests))
    (cases_eq g b.grant))
    (λ there. grind (arith, nat_tests))
    (cases_eq g q.grant)

-- without a set-up RAB its grant number is not accounted for, and the others are as they were
pub sizes_without : (p r g : ℕ) (b : Bearer) (qs : List Bearer) → Well qs → set_up_as p r qs ≡ Some b → sizes_by (without_bearer p r qs) g ≡ cond (eqb g b.grant) 0 (sizes_by qs g)
sizes_without p r g b [] ok e = let z : ◌≡◌ {A = ℕ} 0 1 = cc in absurd (omega arith)
sizes_without p r g b (q ∷ qs) ok e = without_at p r g b q qs (of_rab p r q) e ok (sizes_without p r g b qs ok.3)

zero_step : (p r g : ℕ) (q : Bearer) (qs : List Bearer) (t : Bool) → 0 < q.size → cond (eqb g q.grant) q.size (sizes_by qs g) ≡ 0 →
    (sizes_by qs g ≡ 0 → sizes_by (without_bearer p r qs) g ≡ 0) → sizes_by (cond t qs (q ∷ without_bearer p r qs)) g ≡ 0
zero_step p r g q qs true some e ih = ⊎_elim (λ here. absurd (grind (arith, nat_tests))) (λ there. grind (arith, nat_tests)) (cases_eq g q.grant)
zero_step p r g q qs false some e ih =
    ⊎_elim (λ here. absurd (grind (arith, nat_tests))) (λ there. let z : sizes_by qs g ≡ 0 = grind (arith, nat_tests) in let i = ih z in grind (arith, nat_tests)) (cases_eq g q.grant)

-- a number that was not accounted for still is not
pub zero_without : (p r g : ℕ) (qs : List Bearer) → Well qs → sizes_by qs g ≡ 0 → sizes_by (without_bearer p r qs) g ≡ 0
zero_without p r g [] ok e = refl
zero_without p r g (q ∷ qs) ok e = zero_step p r g q qs (of_rab p r q) ok.0 e (zero_without p r g qs ok.3)

well_step : (p r : ℕ) (q : Bearer) (qs : List Bearer) (t : Bool) → Well (q ∷ qs) → Well (without_bearer p r qs) → Well (cond t qs (q ∷ without_bearer p r qs))
well_step p r q qs true ok rest = ok.3
well_step p r q qs false ok rest =
    let none = set_without p r q.place q.rab qs ok.3 ∙ ap (λ o. cond (eqb q.place p && eqb q.rab r) None o) ok.1 ∙ sym (cond_same (eqb q.place p && eqb q.rab r) None) in
    (ok.0, none, zero_without p r q.grant qs ok.3 ok.2, rest)

pub well_without : (p r : ℕ) (qs : List Bearer) → Well qs → Well (without_bearer p r qs)
well_without p r [] ok = tt
well_without p r (q ∷ qs) ok = well_step p r q qs (of_rab p r q) ok (well_without p r qs ok.3)
