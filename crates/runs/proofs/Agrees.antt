-- Book and state tell the same, and two actions that keep it so: a waiting request fails, a set-up RAB is given up.
use Rattle.std.proofs.Common.{◌≡◌, ℕ, ◌+◌, Bool, true, false, cond, ◌&&◌, eqb, ltb, List, Some, None, Option, sym, refl, ap, ◌∙◌, subst, ⊎_elim, arith}
use Rattle.std.proofs.lemmas.Bool.Decides.{nat_tests}
use Rattle.rules.specs.Radio.{Radio, Given, gives, after_give}
use Rattle.rules.specs.State.{State, tell, silent, at_queue}
use Rattle.rules.specs.Tables.{is_some, set_up_as, waits_as, without_request}
use Rattle.rules.specs.Actions.{fail_waiting, drop_bearer, report}
use Rattle.rules.specs.Numbers.{cause_number}
use Rattle.rules.specs.declared.bearer.Bearer.{Bearer}
use Rattle.rules.specs.declared.bearer.Request.{Request}
use Rattle.rules.specs.declared.item.ReadItem.{ReadItem}
use Rattle.rules.specs.declared.report.Cause.{Cause}
use Rattle.rules.specs.declared.report.ReportKind.TheVariants as kind
use Rattle.bearers.proofs.Waiting.{Apart, waits_without, apart_without, key_cases}
use Rattle.runs.specs.Ledger.{Ledger, take_reports, unset, write_rab, freed}
use Rattle.runs.specs.Law.{Laws}
use Rattle.runs.proofs.Bearers.{Well, sizes_by, set_without, sizes_at, sizes_without, well_without}

abbrev pub size_waited : Option Request → Option ℕ
size_waited None = None
size_waited (Some q) = Some q.size

abbrev pub number_and_size : Option Bearer → Option (ℕ × ℕ)
number_and_size None = None
number_and_size (Some b) = Some (b.grant, b.size)

-- book and state tell the same, with so many items of each RAB still to come
pub record Agrees {m : Radio} (todo : ℕ → ℕ → ℕ) (l : Ledger) (x : State m) : Type 0 where
  pub counts : (p r : ℕ) → l.requests p r ≡ l.outcomes p r + cond (is_some (l.waiting p r)) 1 0 + todo p r
  pub waiting : (p r : ℕ) → l.waiting p r ≡ size_waited (waits_as p r x.queue)
  pub bearing : (p r : ℕ) → l.bearing p r ≡ number_and_size (set_up_as p r x.bearers)
  pub used : (g : ℕ) → l.used g ≡ ltb 0 (m.holds x.pool g)
  pub undenied : l.denied ≡ 0
  pub apart : Apart x.queue
  pub well : Well x.bearers
  pub sound : m.sound x.pool
  pub held : (g : ℕ) → m.holds x.pool g ≡ sizes_by x.bearers g

size_cond : (t : Bool) (o : Option Request) → size_waited (cond t None o) ≡ cond t None (size_waited o)
size_cond true o = refl
size_cond false o = refl

number_cond : (t : Bool) (o : Option Bearer) → number_and_size (cond t None o) ≡ cond t None (number_and_size o)
number_cond true o = refl
number_cond false o = refl

pub is_some_size : (o : Option Request) → is_some (size_waited o) ≡ is_some o
is_some_size None = refl
is_some_size (Some q) = refl

module _ {m : Radio} (todo : ℕ → ℕ → ℕ) (fp : ℕ) (is : List ReadItem) (c : Cause) (p r : ℕ) (l : Ledger) (x : State m) (other : eqb (cause_number c) 6 ≡ false) (a : Agrees todo l x) where
  -- requests and outcomes once a waiting request has failed
  counts_settled : is_some (waits_as p r x.queue) ≡ true → (k j : ℕ) →
      l.requests k j ≡ write_rab l.outcomes p r (l.outcomes p r + 1) k j + cond (is_some (write_rab l.waiting p r None k j)) 1 0 + todo k j
  counts_settled w k j =
      let some : is_some (l.waiting p r) ≡ true = ap is_some (a.waiting p r) ∙ is_some_size (waits_as p r x.queue) ∙ w in
      ⊎_elim
      (λ same.
      let n = a.counts p r in
      let e : l.requests k j ≡ l.requests p r = ap (λ z. l.requests z j) same.0 ∙ ap (l.requests p) same.1 in
      let f : todo k j ≡ todo p r = ap (λ z. todo z j) same.0 ∙ ap (todo p) same.1 in
      grind (arith, nat_tests))
      (λ apart. let n = a.counts k j in grind (arith, nat_tests))
      (key_cases p r k j)

  pub waiting_settled : (k j : ℕ) → write_rab l.waiting p r None k j ≡ size_waited (waits_as k j (without_request p r x.queue))
  waiting_settled k j =
      ap (λ o. cond (eqb k p && eqb j r) None o) (a.waiting k j) ∙ sym (size_cond (eqb k p && eqb j r) (waits_as k j x.queue)) ∙
      ap size_waited (sym (waits_without p r k j x.queue a.apart))

  pub failed_when : (w : Bool) → is_some (waits_as p r x.queue) ≡ w →
      Agrees todo
      (take_reports fp is (cond w (tell (report kind.Failed p r c) (at_queue x (without_request p r x.queue))) (silent x)).reports l)
      (cond w (tell (report kind.Failed p r c) (at_queue x (without_request p r x.queue))) (silent x)).state
  failed_when true e = record {
    counts = counts_settled e;
    waiting = waiting_settled;
    bearing = a.bearing;
    used = a.used;
    undenied = let n = a.undenied in grind (arith, nat_tests);
    apart = apart_without p r x.queue a.apart;
    well = a.well;
    sound = a.sound;
    held = a.held;
  }
  failed_when false e = a

  -- the RAB's waiting request, if it has one, fails
  pub kept_fail_waiting : Agrees todo (take_reports fp is (fail_waiting c p r x).reports l) (fail_waiting c p r x).state
  kept_fail_waiting = failed_when (is_some (waits_as p r x.queue)) refl

module _ {m : Radio} (laws : Laws m) (todo : ℕ → ℕ → ℕ) (c : Cause) (b : Bearer) (l : Ledger) (x : State m) (a : Agrees todo l x) (stands : set_up_as b.place b.rab x.bearers ≡ Some b) where
  -- its grant is held, so the give is not refused
  gives_back : gives m x.pool b.grant ≡ true
  gives_back =
      let s = sizes_at b.place b.rab b x.bearers a.well stands in
      let h = a.held b.grant in
      grind (arith, nat_tests)

  gave : Given m x.pool b.grant
  gave = laws.given x.pool b.grant a.sound gives_back

  after_is : after_give m x.pool b.grant ≡ m.given x.pool b.grant
  after_is = ap (λ t. cond t (m.given x.pool b.grant) x.pool) gives_back

  holds_after : (g : ℕ) → m.holds (after_give m x.pool b.grant) g ≡ cond (eqb g b.grant) 0 (m.holds x.pool g)
  holds_after g = ap (λ y. m.holds y g) after_is ∙ ap (λ f. f g) gave.holds

  booked : l.bearing b.place b.rab ≡ Some (b.grant, b.size)
  booked = a.bearing b.place b.rab ∙ ap number_and_size stands

  used_after : (g : ℕ) → freed l.used (l.bearing b.place b.rab) g ≡ ltb 0 (m.holds (after_give m x.pool b.grant) g)
  used_after g =
      let u = a.used g in
      let h = holds_after g in
      ap (λ o. freed l.used o g) booked ∙ grind (arith, nat_tests)

  -- a set-up RAB is given up, with kind 6 or 7
  pub kept_drop : Agrees todo (unset b.place b.rab l) (drop_bearer kind.ReleaseRequested c b x).state
  kept_drop = record {
    counts = a.counts;
    waiting = a.waiting;
    bearing = λ k j.
        ap (λ o. cond (eqb k b.place && eqb j b.rab) None o) (a.bearing k j) ∙ sym (number_cond (eqb k b.place && eqb j b.rab) (set_up_as k j x.bearers)) ∙
        ap number_and_size (sym (set_without b.place b.rab k j x.bearers a.well));
    used = used_after;
    undenied = a.undenied;
    apart = a.apart;
    well = well_without b.place b.rab x.bearers a.well;
    sound = subst m.sound (sym after_is) gave.sound;
    held = λ g. holds_after g ∙ ap (λ n. cond (eqb g b.grant) 0 n) (a.held g) ∙ sym (sizes_without b.place b.rab g b x.bearers a.well stands);
  }

-- one item more to come for a RAB
abbrev pub one_more : (ℕ → ℕ → ℕ) → ℕ → ℕ → ℕ → ℕ → ℕ
one_more todo p r k j = todo k j + cond (eqb k p && eqb j r) 1 0
