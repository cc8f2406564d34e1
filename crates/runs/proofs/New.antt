-- A new controller: its pool holds nothing, and the empty book is right.
use Rattle.std.proofs.Common.{◌≡◌, ℕ, zero, suc, ◌<◌, Bool, true, false, cond, eqb, ltb, get_or, replicate, None, Option, sym, refl, ap, ◌∙◌, subst, ⊎_elim, arith}
use Rattle.std.proofs.lemmas.Bool.Decides.{nat_tests}
use Rattle.std.proofs.lemmas.Bool.{cases_eq, cases_lt}
use Rattle.rules.specs.Radio.{Radio, gives}
use Rattle.rules.specs.Calls.{given_back, new_state}
use Rattle.rules.specs.declared.connection.TicketRecord.{TicketRecord}
use Rattle.runs.specs.Book.{blank}
use Rattle.runs.specs.Law.{Laws}
use Rattle.runs.proofs.Ticks.{Slot}
use Rattle.runs.proofs.Right.{Right}

module _ {m : Radio} (laws : Laws m) where
  -- after a give, sound still; the number not held, the others as they were
  gave_when : (y : m.State) (g : ℕ) (t : Bool) → m.sound y → gives m y g ≡ t →
      (m.sound (cond t (m.given y g) y)) × ((k : ℕ) → m.holds (cond t (m.given y g) y) k ≡ cond (eqb k g) 0 (m.holds y k))
  gave_when y g true ok e = ((laws.given y g ok e).sound, λ k. ap (λ f. f k) (laws.given y g ok e).holds)
  gave_when y g false ok e =
      (ok, λ k. ⊎_elim (λ same. let h : m.holds y k ≡ m.holds y g = ap (m.holds y) same in grind (arith, nat_tests)) (λ other. grind (arith, nat_tests)) (cases_eq k g))

  cleared_below : (n : ℕ) (y : m.State) → m.sound y → (m.sound (given_back m n y)) × ((k : ℕ) → k < n → m.holds (given_back m n y) k ≡ 0)
  unfolding given_back
  cleared_below zero y ok = (ok, λ k l. absurd (omega arith))
  cleared_below (suc n) y ok =
      let h = cleared_below n y ok in
      let z = given_back m n y in
      let g = gave_when z n (gives m z n) h.0 refl in
      (g.0, λ k l. g.1 k ∙ ⊎_elim (λ same. grind (arith, nat_tests)) (λ other. let e : m.holds z k ≡ 0 = h.1 k (omega arith) in grind (arith, nat_tests)) (cases_eq k n))

  holds_none : (y : m.State) → m.sound y → (k : ℕ) → m.holds (given_back m 64 y) k ≡ 0
  holds_none y ok k =
      let h = cleared_below 64 y ok in
      ⊎_elim (λ low. h.1 k low) (λ high. (laws.lawful (given_back m 64 y) h.0).numbers k high) (cases_lt k 64)

  none_out : (n i : ℕ) → get_or {A = Option TicketRecord} (replicate n None) i None ≡ None
  none_out zero i = refl
  none_out (suc n) zero = refl
  none_out (suc n) (suc i) = none_out n i

  pub new_right : (k : ℕ) (y : m.State) → m.sound y → Right k blank (new_state m k y)
  new_right k y ok = record {
    number = refl;
    wide = refl;
    rabs = record {
      stands = record {
        agrees = record {
          counts = λ p r. refl;
          waiting = λ p r. refl;
          bearing = λ p r. refl;
          used = λ g. sym (ap (ltb 0) (holds_none y ok g));
          undenied = refl;
          apart = tt;
          well = tt;
          sound = (cleared_below 64 y ok).0;
          held = holds_none y ok;
        };
        few = omega arith;
        idle = λ k j e. refl;
      };
      quiet = λ p r q e. let z : ◌≡◌ {A = ℕ} 0 1 = cc in absurd (omega arith);
    };
    ticks = record {
      slots = λ i. subst (λ o. Slot None o (new_state m k y).connections) (sym (none_out 16 i)) tt;
      one_each = λ i j s t e f q. let n = none_out 16 i in let z : ◌≡◌ {A = ℕ} 0 1 = cc in absurd (omega arith);
      count = refl;
      wide = refl;
    };
  }
