-- Each grant number that is accounted for is one RAB's.
use Rattle.std.proofs.Common.{◌≡◌, ℕ, ◌<◌, Bool, true, false, cond, List, [], ◌∷◌, Some, None, sym, refl, ap, ◌∙◌, ⊎_elim, arith}
use Rattle.std.proofs.lemmas.Bool.Decides.{nat_tests}
use Rattle.std.proofs.lemmas.Bool.{cases_eq}
use Rattle.rules.specs.Tables.{of_rab, set_up_as}
use Rattle.rules.specs.declared.bearer.Bearer.{Bearer}
use Rattle.bearers.proofs.Waiting.{key_cases}
use Rattle.runs.proofs.Bearers.{Well, sizes_by, sizes_at}

one_step : (p r p' r' : ℕ) (b b' q : Bearer) (qs : List Bearer) (t t' : Bool) → of_rab p r q ≡ t → of_rab p' r' q ≡ t' → Well (q ∷ qs) →
    cond t (Some q) (set_up_as p r qs) ≡ Some b → cond t' (Some q) (set_up_as p' r' qs) ≡ Some b' → b.grant ≡ b'.grant →
    (set_up_as p r qs ≡ Some b → set_up_as p' r' qs ≡ Some b' → (p ≡ p') × (r ≡ r')) → (p ≡ p') × (r ≡ r')
one_step p r p' r' b b' q qs true true k k' ok e e' n ih = (grind (arith, nat_tests), grind (arith, nat_tests))
one_step p r p' r' b b' q qs true false k k' ok e e' n ih =
    let same : q ≡ b = cc in
    let number : q.grant ≡ b.grant = ap (λ z. z.grant) same in
    let s = sizes_at p' r' b' qs ok.3 e' in
    let z : sizes_by qs b'.grant ≡ 0 = ap (sizes_by qs) (sym n ∙ sym number) ∙ ok.2 in
    absurd (omega arith)
one_step p r p' r' b b' q qs false true k k' ok e e' n ih =
    let same : q ≡ b' = cc in
    let number : q.grant ≡ b'.grant = ap (λ z. z.grant) same in
    let s = sizes_at p r b qs ok.3 e in
    let z : sizes_by qs b.grant ≡ 0 = ap (sizes_by qs) (n ∙ sym number) ∙ ok.2 in
    absurd (omega arith)
one_step p r p' r' b b' q qs false false k k' ok e e' n ih = ih e e'

-- two RABs with one number are one RAB
pub one_rab : (p r p' r' : ℕ) (b b' : Bearer) (bs : List Bearer) → Well bs → set_up_as p r bs ≡ Some b → set_up_as p' r' bs ≡ Some b' → b.grant ≡ b'.grant → (p ≡ p') × (r ≡ r')
one_rab p r p' r' b b' [] ok e e' n = let z : ◌≡◌ {A = ℕ} 0 1 = cc in absurd (omega arith)
one_rab p r p' r' b b' (q ∷ qs) ok e e' n =
    one_step p r p' r' b b' q qs (of_rab p r q) (of_rab p' r' q) refl refl ok e e' n (λ f f'. one_rab p r p' r' b b' qs ok.3 f f' n)

-- a RAB that has a number
abbrev pub Owner : ℕ → List Bearer → Type 0
Owner g bs = (b : Bearer) × (set_up_as b.place b.rab bs ≡ Some b) × (b.grant ≡ g) × (b.size ≡ sizes_by bs g)

owner_head : (g : ℕ) (q : Bearer) (qs : List Bearer) → g ≡ q.grant → Owner g (q ∷ qs)
owner_head g q qs e = (q, grind (arith, nat_tests), sym e, grind (arith, nat_tests))

owner_tail : (g : ℕ) (q : Bearer) (qs : List Bearer) → Well (q ∷ qs) → (g ≡ q.grant → ⊥) → Owner g qs → Owner g (q ∷ qs)
owner_tail g q qs ok off o =
    let b = o.0 in
    let none : set_up_as q.place q.rab qs ≡ None = ok.1 in
    let e : set_up_as b.place b.rab qs ≡ Some b = o.1 in
    let s : b.size ≡ sizes_by qs g = o.3 in
    ⊎_elim
    (λ same.
    let f : set_up_as q.place q.rab qs ≡ Some b = ap (λ z. set_up_as z q.rab qs) same.0 ∙ ap (λ z. set_up_as b.place z qs) same.1 ∙ e in
    let z : ◌≡◌ {A = ℕ} 0 1 = cc in
    absurd (omega arith))
    (λ other. (b, grind (arith, nat_tests), o.2, grind (arith, nat_tests)))
    (key_cases b.place b.rab q.place q.rab)

-- a number that is accounted for is some RAB's
pub owner_of : (g : ℕ) (bs : List Bearer) → Well bs → 0 < sizes_by bs g → Owner g bs
owner_of g [] ok some = absurd (omega arith)
owner_of g (q ∷ qs) ok some =
    ⊎_elim
    (owner_head g q qs)
    (λ off. let more : 0 < sizes_by qs g = grind (arith, nat_tests) in owner_tail g q qs ok off (owner_of g qs ok.3 more))
    (cases_eq g q.grant)
