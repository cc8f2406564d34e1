-- The first entry of a RAB: the look-ups as searches, and the tables without it.
use Rattle.std.proofs.Common.{◌≡◌, ℕ, Bool, true, false, cond, not, List, [], ◌∷◌, Some, None, filter, find, sym, refl, ap, ◌∙◌}
use Rattle.rules.specs.Tables.{of_rab, asks_for, waits_as, without_bearer, without_request}
use Rattle.rules.specs.declared.bearer.Bearer.{Bearer}
use Rattle.rules.specs.declared.bearer.Request.{Request}

-- the list without the first that passes
abbrev pub all_but : {X : Type 0} → (X → Bool) → List X → List X
all_but test [] = []
all_but test (x ∷ xs) = cond (test x) xs (x ∷ all_but test xs)

module _ {X : Type 0} (test : X → Bool) where
  none_step : (x : X) (xs : List X) (b : Bool) → test x ≡ b → cond b (Some x) (find test xs) ≡ None → (find test xs ≡ None → filter (λ y. not (test y)) xs ≡ xs) →
      cond (not (test x)) (x ∷ filter (λ y. not (test y)) xs) (filter (λ y. not (test y)) xs) ≡ x ∷ xs
  none_step x xs true e none ih = cc
  none_step x xs false e none ih = ap (λ b. cond (not b) (x ∷ filter (λ y. not (test y)) xs) (filter (λ y. not (test y)) xs)) e ∙ ap (λ ys. x ∷ ys) (ih none)

  -- where none passes, all are kept
  none_passes : (xs : List X) → find test xs ≡ None → filter (λ y. not (test y)) xs ≡ xs
  none_passes [] none = refl
  none_passes (x ∷ xs) none = none_step x xs (test x) refl none (none_passes xs)

  one_step : (x : X) (xs : List X) (b : Bool) → test x ≡ b → find test (cond b xs (x ∷ all_but test xs)) ≡ None → (find test (all_but test xs) ≡ None → filter (λ y. not (test y)) xs ≡ all_but test xs) →
      cond (not b) (x ∷ filter (λ y. not (test y)) xs) (filter (λ y. not (test y)) xs) ≡ cond b xs (x ∷ all_but test xs)
  one_step x xs true e none ih = none_passes xs none
  one_step x xs false e none ih = ap (λ ys. x ∷ ys) (ih (ap (λ b. cond b (Some x) (find test (all_but test xs))) (sym e) ∙ none))

  -- where only one passes, all others are kept
  pub one_passes : (xs : List X) → find test (all_but test xs) ≡ None → filter (λ y. not (test y)) xs ≡ all_but test xs
  one_passes [] none = refl
  one_passes (x ∷ xs) none = one_step x xs (test x) refl none (one_passes xs)

-- the look-up of a request is such a search
pub waits_first : (p r : ℕ) (qs : List Request) → waits_as p r qs ≡ find (asks_for p r) qs
waits_first p r [] = refl
waits_first p r (q ∷ qs) = ap (λ o. cond (asks_for p r q) (Some q) o) (waits_first p r qs)

pub bearers_but : (p r : ℕ) (bs : List Bearer) → without_bearer p r bs ≡ all_but (of_rab p r) bs
bearers_but p r [] = refl
bearers_but p r (b ∷ bs) = ap (λ ys. cond (of_rab p r b) bs (b ∷ ys)) (bearers_but p r bs)

pub requests_but : (p r : ℕ) (qs : List Request) → without_request p r qs ≡ all_but (asks_for p r) qs
requests_but p r [] = refl
requests_but p r (q ∷ qs) = ap (λ ys. cond (asks_for p r q) qs (q ∷ ys)) (requests_but p r qs)

-- what stands nowhere, to read past the end of a table
abbrev pub blank_bearer : Bearer
blank_bearer = record { place = 0; rab = 0; grant = 0; size = 0; priority = record { level = 0; triggers = false; preemptable = false; queuing = false } }
