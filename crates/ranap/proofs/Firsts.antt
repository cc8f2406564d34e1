-- A search for the first that fails, told one by one.
use Rattle.std.proofs.Common.{◌≡◌, ℕ, ◌+◌, ◌<◌, Bool, true, false, cond, Some, None, Decides, Option, refl, below_more}
use Rattle.std.proofs.lemmas.Bool.{both_ways}

-- nothing is given only where the test fails
pub none_test : {X : Type 0} (b : Bool) (x : X) → None ≡ cond b (Some x) None → b ≡ false
none_test true x e = cc
none_test false x e = refl

module _ (Good : ℕ → Type 0) (place : ℕ → ℕ) (n : ℕ) where
  -- what the search tells: all n are good, or the first that is not, by its place
  abbrev pub Verdict : Option ℕ → Type 0
  Verdict None = (j : ℕ) → j < n → Good j
  Verdict (Some p) = (i : ℕ) × (i < n) × ((j : ℕ) → j < i → Good j) × (Good i → ⊥) × (p ≡ place i)

  -- one further
  pub verdict_at : (i : ℕ) (b : Bool) (rest : Option ℕ) → i < n → Decides b (Good i) → ((j : ℕ) → j < i → Good j) → (((j : ℕ) → j < i + 1 → Good j) → Verdict rest) →
      Verdict (cond b rest (Some (place i)))
  verdict_at i true rest l d before next = next (below_more Good i before (d.0 refl))
  verdict_at i false rest l d before next = (i, l, before, (λ g. both_ways false refl (d.1 g)), refl)
