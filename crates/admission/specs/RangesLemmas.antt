-- What the tests over a range say.
use Rattle.std.specs.Prelude.{◌≡◌, ℕ, zero, suc, ◌+◌, ◌-◌, ◌<◌, ◌≤◌, Bool, true, false, is_some, Some, None, refl}
use Rattle.std.proofs.Common.{ap, ◌∙◌, ⊎_elim, arith}
use Rattle.std.proofs.lemmas.Bool.{cases_eq, cases_Bool}
use Rattle.std.proofs.lemmas.Grind.{common_steps}
use Rattle.admission.specs.Ranges.{all_from, first_from}

-- a range that is gone through to its end, and by one step
pub all_done : (p : ℕ → Bool) (k e : ℕ) → e ≤ k → all_from p k (e - k) ≡ true
unfolding all_from
all_done p k e l = let z : e - k ≡ 0 = omega arith in ap (all_from p k) z

pub first_done : (p : ℕ → Bool) (k e : ℕ) → e ≤ k → first_from p k (e - k) ≡ None
unfolding first_from
first_done p k e l = let z : e - k ≡ 0 = omega arith in ap (first_from p k) z

left_over : (k e : ℕ) → k < e → e - k ≡ suc (e - (k + 1))
left_over k e l = omega arith

pub all_next : (p : ℕ → Bool) (k e : ℕ) → k < e → p k ≡ true → all_from p k (e - k) ≡ all_from p (k + 1) (e - (k + 1))
unfolding all_from
all_next p k e l pass = ap (all_from p k) (left_over k e l) ∙ grind (arith, common_steps, pass)

pub all_fails : (p : ℕ → Bool) (k e : ℕ) → k < e → p k ≡ false → all_from p k (e - k) ≡ false
unfolding all_from
all_fails p k e l fail = ap (all_from p k) (left_over k e l) ∙ grind (arith, common_steps, fail)

pub first_next : (p : ℕ → Bool) (k e : ℕ) → k < e → p k ≡ false → first_from p k (e - k) ≡ first_from p (k + 1) (e - (k + 1))
unfolding first_from
first_next p k e l fail = ap (first_from p k) (left_over k e l) ∙ grind (arith, common_steps, fail)

pub first_found : (p : ℕ → Bool) (k e : ℕ) → k < e → p k ≡ true → first_from p k (e - k) ≡ Some k
unfolding first_from
first_found p k e l pass = ap (first_from p k) (left_over k e l) ∙ grind (arith, common_steps, pass)

-- what passes throughout passes at each number, and the other way round
pub all_each : (p : ℕ → Bool) (k n : ℕ) → all_from p k n ≡ true → (i : ℕ) → k ≤ i → i < k + n → p i ≡ true
unfolding all_from
all_each p k zero e i l h = absurd (omega arith)
all_each p k (suc n) e i l h =
    ⊎_elim
    (λ same. grind (arith, common_steps, cases_Bool (p k), ap p same))
    (λ ne. let rest : all_from p (suc k) n ≡ true = grind (arith, common_steps, cases_Bool (p k)) in all_each p (suc k) n rest i (omega arith) (omega arith))
    (cases_eq i k)

pub all_made : (p : ℕ → Bool) (k n : ℕ) → ((i : ℕ) → k ≤ i → i < k + n → p i ≡ true) → all_from p k n ≡ true
unfolding all_from
all_made p k zero each = refl
all_made p k (suc n) each = let rest = all_made p (suc k) n (λ i l h. each i (omega arith) (omega arith)) in grind (arith, common_steps, each k)

-- what the first that passes is
pub record First (p : ℕ → Bool) (k n j : ℕ) : Type 0 where
  pub from : k ≤ j
  pub below : j < k + n
  pub passes : p j ≡ true
  pub none_before : (i : ℕ) → k ≤ i → i < j → p i ≡ false

pub first_is : (p : ℕ → Bool) (k n j : ℕ) → first_from p k n ≡ Some j → First p k n j
unfolding first_from
first_is p k zero j e = cc
first_is p k (suc n) j e =
    ⊎_elim
    (λ pass.
    let same : k ≡ j = grind (arith, common_steps) in
    record { from = omega arith; below = omega arith; passes = ap p (omega arith) ∙ pass; none_before = λ i l h. absurd (omega arith) })
    (λ fail.
    let is : first_from p (suc k) n ≡ Some j = grind (arith, common_steps) in
    let rest = first_is p (suc k) n j is in
    record {
      from = omega (arith, rest.from);
      below = omega (arith, rest.below);
      passes = rest.passes;
      none_before = λ i l h. ⊎_elim (λ same. ap p same ∙ fail) (λ ne. rest.none_before i (omega arith) h) (cases_eq i k);
    })
    (cases_Bool (p k))

-- where one passes, there is a first
pub first_exists : (p : ℕ → Bool) (k n j : ℕ) → k ≤ j → j < k + n → p j ≡ true → is_some (first_from p k n) ≡ true
unfolding first_from
first_exists p k zero j l h pass = absurd (omega arith)
first_exists p k (suc n) j l h pass =
    ⊎_elim
    (λ same. grind (arith, common_steps, ap p same))
    (λ ne. let rest = first_exists p (suc k) n j (omega arith) (omega arith) pass in grind (arith, common_steps, cases_Bool (p k)))
    (cases_eq j k)
