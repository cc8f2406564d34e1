-- The smallest number that is not held, and a grant taken under it.
use Rattle.std.proofs.Common.{◌≡◌, ℕ, zero, suc, ◌+◌, ◌<◌, ◌≤◌, Bool, true, false, cond, ◌&&◌, eqb, ltb, refl, ap, ◌∙◌, ⊎_elim, arith}
use Rattle.std.proofs.lemmas.Bool.Decides.{nat_tests}
use Rattle.std.proofs.lemmas.Bool.{cases_lt, cases_eq, and_from, eq-eqb, eqb-true, lt-ltb}
use Rattle.rules.specs.Grants.{nothing}
use Rattle.rules.specs.Radio.{Radio, takes, after_take}
use Rattle.rules.specs.Tables.{first_from}
use Rattle.laws.specs.Granted.{TakesSmallest}
use Rattle.laws.proofs.Given.{Laws}

-- what the search for the first number answers
record FirstPassing (test : ℕ → Bool) (k n j : ℕ) : Type 0 where
  from : k ≤ j
  upto : j ≤ k + n
  none : (i : ℕ) → k ≤ i → i < j → test i ≡ false
  here : j < k + n → test j ≡ true

first_step : (test : ℕ → Bool) (k n j : ℕ) (t : Bool) → test k ≡ t → FirstPassing test (suc k) n j → FirstPassing test k (suc n) (cond t k j)
first_step test k n j true e h = record { from = omega arith; upto = omega arith; none = λ i a b. absurd (omega arith); here = λ _. e }
first_step test k n j false e h =
    let f = h.from in
    let u = h.upto in
    record {
      from = omega arith;
      upto = omega arith;
      none = λ i a b. ⊎_elim (λ same. ap test same ∙ e) (λ other. h.none i (grind (arith, nat_tests)) b) (cases_eq i k);
      here = λ l. h.here (omega arith);
    }

first_is : (test : ℕ → Bool) (k n : ℕ) → FirstPassing test k n (first_from test k n)
unfolding first_from
first_is test k zero = record { from = omega arith; upto = omega arith; none = λ i a b. absurd (omega arith); here = λ l. absurd (omega arith) }
first_is test k (suc n) = first_step test k n (first_from test (suc k) n) (test k) refl (first_is test (suc k) n)

module _ {m : Radio} (laws : Laws m) (z : m.State) (s : ℕ) (ok : m.sound z) (room : m.admits z nothing s ≡ true) where
  -- the number that is chosen
  abbrev chosen : ℕ
  chosen = first_from (λ g. eqb (m.holds z g) 0) 0 63

  taken_sound : (t : Bool) → takes m z chosen s ≡ t → m.sound (cond t (m.taken z chosen s) z)
  taken_sound true e = (laws.taken z chosen s ok e).sound
  taken_sound false e = ok

  pub take_sound : m.sound (after_take m z chosen s)
  take_sound = taken_sound (takes m z chosen s) refl

  module _ (k : ℕ) (small : k < 64) (free : m.holds z k ≡ 0) where
    -- one of the first 63 is free, or the last is
    chosen_free : m.holds z chosen ≡ 0
    chosen_free =
        let f = first_is (λ g. eqb (m.holds z g) 0) 0 63 in
        let u : chosen ≤ 63 = let w = f.upto in omega arith in
        ⊎_elim
        (λ below. eqb-true (m.holds z chosen) 0 (f.here (omega arith)))
        (λ last.
        let c : chosen ≡ 63 = omega arith in
        ⊎_elim
        (λ less. let e = f.none k (omega arith) less in absurd (grind (arith, nat_tests)))
        (λ more. let same : chosen ≡ k = omega arith in ap (m.holds z) same ∙ free)
        (cases_lt k chosen))
        (cases_lt chosen 63)

    pub taken_smallest : TakesSmallest m z chosen s (after_take m z chosen s)
    taken_smallest =
        let f = first_is (λ g. eqb (m.holds z g) 0) 0 63 in
        let u : chosen ≤ 63 = let w = f.upto in omega arith in
        let l : chosen < 64 = omega arith in
        let t : takes m z chosen s ≡ true =
        and_from (ltb chosen 64) (eqb (m.holds z chosen) 0 && m.admits z nothing s) (lt-ltb chosen 64 l)
        (and_from (eqb (m.holds z chosen) 0) (m.admits z nothing s) (eq-eqb (m.holds z chosen) 0 chosen_free) room) in
        record {
          number = l;
          free = chosen_free;
          smallest = λ i b. let e = f.none i (omega arith) b in grind (arith, nat_tests);
          held = λ i. ap (λ b. m.holds (cond b (m.taken z chosen s) z) i) t ∙ ap (λ h. h i) (laws.taken z chosen s ok t).holds;
        }
