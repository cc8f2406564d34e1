-- The table with one RAB more.
use Rattle.std.proofs.Common.{◌≡◌, ℕ, zero, suc, ◌+◌, ◌<◌, Bool, true, false, cond, eqb, List, [], ◌∷◌, None, refl, ⊎_elim, arith}
use Rattle.std.proofs.lemmas.Bool.Decides.{nat_tests}
use Rattle.std.proofs.lemmas.Bool.{cases_eq}
use Rattle.rules.specs.Tables.{set_up_as, with_bearer, before, first_from}
use Rattle.rules.specs.declared.bearer.Bearer.{Bearer}
use Rattle.bearers.proofs.Standing.{none_head, set_with}
use Rattle.runs.proofs.Bearers.{Well, sizes_by}

first_step : (test : ℕ → Bool) (k n later : ℕ) (t : Bool) → test k ≡ t → (later < suc k + n → test later ≡ true) → cond t k later < k + suc n → test (cond t k later) ≡ true
first_step test k n later true e ih h = e
first_step test k n later false e ih h = ih (omega arith)

-- the first number that passes, passes
pub first_passes : (test : ℕ → Bool) (k n : ℕ) → first_from test k n < k + n → test (first_from test k n) ≡ true
unfolding first_from
first_passes test k zero l = absurd (omega arith)
first_passes test k (suc n) l = first_step test k n (first_from test (suc k) n) (test k) refl (first_passes test (suc k) n) l

zero_head : (g : ℕ) (a : Bearer) (as' : List Bearer) → 0 < a.size → sizes_by (a ∷ as') g ≡ 0 → (eqb g a.grant ≡ false) × (sizes_by as' g ≡ 0)
zero_head g a as' some e = ⊎_elim (λ here. absurd (grind (arith, nat_tests))) (λ there. (grind (arith, nat_tests), grind (arith, nat_tests))) (cases_eq g a.grant)

sizes_in_step : (g : ℕ) (b a : Bearer) (as' : List Bearer) (t : Bool) → eqb b.grant a.grant ≡ false →
    sizes_by (with_bearer b as') g ≡ cond (eqb g b.grant) b.size (sizes_by as' g) →
    sizes_by (cond t (b ∷ a ∷ as') (a ∷ with_bearer b as')) g ≡ cond (eqb g b.grant) b.size (cond (eqb g a.grant) a.size (sizes_by as' g))
sizes_in_step g b a as' true off ih = refl
sizes_in_step g b a as' false off ih = ⊎_elim (λ here. grind (arith, nat_tests)) (λ there. grind (arith, nat_tests)) (cases_eq g b.grant)

pub sizes_with : (g : ℕ) (b : Bearer) (bs : List Bearer) → Well bs → sizes_by bs b.grant ≡ 0 →
    sizes_by (with_bearer b bs) g ≡ cond (eqb g b.grant) b.size (sizes_by bs g)
sizes_with g b [] ok none = refl
sizes_with g b (a ∷ as') ok none =
    let n = zero_head b.grant a as' ok.0 none in
    sizes_in_step g b a as' (before b a) n.0 (sizes_with g b as' ok.3 n.1)

well_in_step : (b a : Bearer) (as' : List Bearer) (t : Bool) → Well (a ∷ as') → 0 < b.size → set_up_as b.place b.rab (a ∷ as') ≡ None → sizes_by (a ∷ as') b.grant ≡ 0 →
    Well (with_bearer b as') → Well (cond t (b ∷ a ∷ as') (a ∷ with_bearer b as'))
well_in_step b a as' true ok some none zero' rest = (some, none, zero', ok)
well_in_step b a as' false ok some none zero' rest =
    let n = none_head b.place b.rab a as' none in
    let z = zero_head b.grant a as' ok.0 zero' in
    let s = set_with a.place a.rab b as' n.1 in
    let h : set_up_as a.place a.rab as' ≡ None = ok.1 in
    let y = sizes_with a.grant b as' ok.3 z.1 in
    let w : sizes_by as' a.grant ≡ 0 = ok.2 in
    (ok.0, grind (arith, nat_tests), grind (arith, nat_tests), rest)

pub well_with : (b : Bearer) (bs : List Bearer) → Well bs → 0 < b.size → set_up_as b.place b.rab bs ≡ None → sizes_by bs b.grant ≡ 0 → Well (with_bearer b bs)
well_with b [] ok some none zero' = (some, refl, refl, tt)
well_with b (a ∷ as') ok some none zero' =
    well_in_step b a as' (before b a) ok some none zero' (well_with b as' ok.3 some (none_head b.place b.rab a as' none).1 (zero_head b.grant a as' ok.0 zero').1)
