-- With fewer than 64 set-up RABs a number below 64 is free.
use Rattle.std.proofs.Common.{◌≡◌, ℕ, zero, suc, ◌+◌, ◌<◌, ◌≤◌, Bool, true, false, cond, eqb, ◌⊎◌, List, [], ◌∷◌, length, refl, ap, ◌∙◌, inl, inr, ⊎_elim, arith}
use Rattle.std.proofs.lemmas.Bool.Decides.{nat_tests}
use Rattle.std.proofs.lemmas.Bool.{cases_eq}
use Rattle.rules.specs.Radio.{Radio}
use Rattle.rules.specs.State.{State}
use Rattle.rules.specs.Tables.{first_from}
use Rattle.rules.specs.Actions.{free_grant}
use Rattle.rules.specs.declared.bearer.Bearer.{Bearer}
use Rattle.runs.proofs.Bearers.{sizes_by}

-- none of the numbers from k on passes
abbrev NonePass : (ℕ → Bool) → ℕ → ℕ → Type 0
NonePass test k n = (i : ℕ) → k ≤ i → i < k + n → test i ≡ false

none_step : (test : ℕ → Bool) (k n later : ℕ) (t : Bool) → test k ≡ t → (later < suc k + n) ⊎ NonePass test (suc k) n → (cond t k later < k + suc n) ⊎ NonePass test k (suc n)
none_step test k n later true e ih = inl (omega arith)
none_step test k n later false e (inl l) = inl (omega arith)
none_step test k n later false e (inr f) = inr (λ i l h. ⊎_elim (λ same. ap test same ∙ e) (λ other. f i (omega arith) (omega arith)) (cases_eq i k))

-- the search finds a number, or none passes
pub found_or_none : (test : ℕ → Bool) (k n : ℕ) → (first_from test k n < k + n) ⊎ NonePass test k n
unfolding first_from
found_or_none test k zero = inr (λ i l h. absurd (omega arith))
found_or_none test k (suc n) = none_step test k n (first_from test (suc k) n) (test k) refl (found_or_none test (suc k) n)

-- the table without the first RAB that has a number
abbrev dropped : ℕ → List Bearer → List Bearer
dropped g [] = []
dropped g (b ∷ bs) = cond (eqb g b.grant) bs (b ∷ dropped g bs)

length_step : (g : ℕ) (b : Bearer) (bs : List Bearer) (t : Bool) → 0 < cond t b.size (sizes_by bs g) → (0 < sizes_by bs g → length bs ≡ suc (length (dropped g bs))) →
    suc (length bs) ≡ suc (length (cond t bs (b ∷ dropped g bs)))
length_step g b bs true l ih = refl
length_step g b bs false l ih = ap suc (ih l)

length_dropped : (g : ℕ) (bs : List Bearer) → 0 < sizes_by bs g → length bs ≡ suc (length (dropped g bs))
length_dropped g [] l = absurd (omega arith)
length_dropped g (b ∷ bs) l = length_step g b bs (eqb g b.grant) l (length_dropped g bs)

other_step : (g i : ℕ) (b : Bearer) (bs : List Bearer) (t : Bool) → eqb g b.grant ≡ t → (i ≡ g → ⊥) → sizes_by (dropped g bs) i ≡ sizes_by bs i →
    sizes_by (cond t bs (b ∷ dropped g bs)) i ≡ cond (eqb i b.grant) b.size (sizes_by bs i)
other_step g i b bs true e off ih = grind (arith, nat_tests)
other_step g i b bs false e off ih = ap (λ n. cond (eqb i b.grant) b.size n) ih

others_dropped : (g i : ℕ) (bs : List Bearer) → (i ≡ g → ⊥) → sizes_by (dropped g bs) i ≡ sizes_by bs i
others_dropped g i [] off = refl
others_dropped g i (b ∷ bs) off = other_step g i b bs (eqb g b.grant) refl off (others_dropped g i bs off)

-- n numbers accounted for want n RABs
pub covered : (n : ℕ) (bs : List Bearer) → ((i : ℕ) → i < n → 0 < sizes_by bs i) → n ≤ length bs
covered zero bs all = omega arith
covered (suc n) bs all =
    let l = length_dropped n bs (all n (omega arith)) in
    let i : n ≤ length (dropped n bs) = covered n (dropped n bs) (λ i h. let e = others_dropped n i bs (omega arith) in let f : 0 < sizes_by bs i = all i (omega arith) in omega arith) in
    omega arith

less_step : (test : ℕ → Bool) (k n : ℕ) (t : Bool) → cond t k (first_from test (suc k) (suc n)) < k + suc (suc n) →
    (first_from test (suc k) (suc n) < suc k + suc n → first_from test (suc k) n ≡ first_from test (suc k) (suc n)) →
    cond t k (first_from test (suc k) n) ≡ cond t k (first_from test (suc k) (suc n))
less_step test k n true l ih = refl
less_step test k n false l ih = ih (omega arith)

last_step : (k : ℕ) (t : Bool) → cond t k (suc k) < k + 1 → k ≡ cond t k (suc k)
last_step k true l = refl
last_step k false l = absurd (omega arith)

-- where a search finds a number, one that leaves out the last number answers the same
pub one_less : (test : ℕ → Bool) (k n : ℕ) → first_from test k (suc n) < k + suc n → first_from test k n ≡ first_from test k (suc n)
unfolding first_from
one_less test k zero l = last_step k (test k) l
one_less test k (suc n) l = less_step test k n (test k) l (one_less test (suc k) n)

module _ {m : Radio} (x : State m) (held : (g : ℕ) → m.holds x.pool g ≡ sizes_by x.bearers g) (few : length x.bearers < 64) where
  -- some number below 64 is not held
  found_below : first_from (λ g. eqb (m.holds x.pool g) 0) 0 64 < 64
  found_below =
      ⊎_elim
      (λ l. omega arith)
      (λ none. absurd (
      let c : 64 ≤ length x.bearers = covered 64 x.bearers (λ i h. let e = held i in let f : eqb (m.holds x.pool i) 0 ≡ false = none i (omega arith) (omega arith) in grind (arith, nat_tests)) in
      omega arith))
      (found_or_none (λ g. eqb (m.holds x.pool g) 0) 0 64)

  -- a new grant has the smallest number that is not held
  pub free_is : free_grant x ≡ first_from (λ g. eqb (m.holds x.pool g) 0) 0 64
  free_is = one_less (λ g. eqb (m.holds x.pool g) 0) 0 63 found_below

  -- and that is below 64
  pub free_below : free_grant x < 64
  free_below = let e = free_is in let l = found_below in omega arith
