-- The first number that passes, by what a search over the numbers finds.
use Rattle.std.proofs.Common.{◌≡◌, ℕ, zero, suc, ◌+◌, ◌<◌, ◌≤◌, Bool, true, false, cond, Some, None, Option, unwrap_or, MatchOption, sym, refl, ap, ⊎_elim, ◌∙◌, arith}
use Rattle.rules.specs.Tables.{first_from}
use Rattle.std.proofs.lemmas.Bool.{cases_lt}

-- where no number passes, it is the end
none_free : (test : ℕ → Bool) (k n : ℕ) → ((j : ℕ) → k ≤ j → j < k + n → test j ≡ false) → first_from test k n ≡ k + n
unfolding first_from
none_free test k zero off = omega arith
none_free test k (suc n) off =
    let here : test k ≡ false = off k (omega arith) (omega arith) in
    let rest : first_from test (suc k) n ≡ suc k + n = none_free test (suc k) n (λ j l h. off j (omega (arith, l)) (omega (arith, h))) in
    let same : suc k + n ≡ k + suc n = omega arith in
    ap (λ t. cond t k (first_from test (suc k) n)) here ∙ rest ∙ same

one_step : (test : ℕ → Bool) (k i later : ℕ) (t : Bool) → test k ≡ t → k ≤ i → test i ≡ true → ((j : ℕ) → k ≤ j → j < i → test j ≡ false) → (suc k ≤ i → later ≡ i) → cond t k later ≡ i
one_step test k i later true e l on off ih = ⊎_elim (λ below. let off' = off k (omega arith) below in cc) (λ here. omega (arith, l, here)) (cases_lt k i)
one_step test k i later false e l on off ih =
    ⊎_elim (λ below. ih (omega (arith, below))) (λ here. let same : i ≡ k = omega (arith, l, here) in let on' = ap test same in cc) (cases_lt k i)

-- the first that passes is found
one_free : (test : ℕ → Bool) (k n i : ℕ) → k ≤ i → i < k + n → test i ≡ true → ((j : ℕ) → k ≤ j → j < i → test j ≡ false) → first_from test k n ≡ i
unfolding first_from
one_free test k zero i l h on off = absurd (omega (arith, l, h))
one_free test k (suc n) i l h on off =
    one_step test k i (first_from test (suc k) n) (test k) refl l on off (λ l'. one_free test (suc k) n i l' (omega (arith, h)) on (λ j m b. off j (omega (arith, m)) b))

-- what a search over the numbers below the end finds
pub free_found : (test : ℕ → Bool) (end : ℕ) (r : Option ℕ) →
    MatchOption r ((j : ℕ) → 0 ≤ j → j < end → test j ≡ false) (λ i. (0 ≤ i) × (i < end) × (test i ≡ true) × ((j : ℕ) → 0 ≤ j → j < i → test j ≡ false)) →
    unwrap_or r end ≡ first_from test 0 end
free_found test end None off = let e : 0 + end ≡ end = omega arith in sym (none_free test 0 end (λ j l h. off j l (omega (arith, h))) ∙ e)
free_found test end (Some i) f = sym (one_free test 0 end i f.0 (omega (arith, f.1)) f.2 f.3)
