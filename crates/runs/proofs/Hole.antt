-- A RAB taken out while its request is done: the book has it still as it was.
use Rattle.std.proofs.Common.{◌≡◌, ℕ, ◌<◌, Bool, true, false, cond, ◌&&◌, eqb, List, [], ◌∷◌, Some, None, Option, sym, refl, ap, ◌∙◌, subst, ⊎_elim, arith}
use Rattle.std.proofs.lemmas.Bool.Decides.{nat_tests}
use Rattle.rules.specs.Radio.{Radio}
use Rattle.rules.specs.State.{State, each, tell, silent, at_queue}
use Rattle.rules.specs.Tables.{is_some, set_up_as, waits_as, without_bearer, without_request}
use Rattle.rules.specs.Checks.{known}
use Rattle.rules.specs.Actions.{fail_waiting, drop_bearer, free_bearer, report}
use Rattle.rules.specs.Request.{pre_empt}
use Rattle.rules.specs.declared.bearer.Bearer.{Bearer}
use Rattle.rules.specs.declared.item.ReadItem.{ReadItem}
use Rattle.rules.specs.declared.report.ReportKind.TheVariants as kind
use Rattle.rules.specs.declared.report.Cause.TheVariants as cause
use Rattle.bearers.proofs.Waiting.{key_cases}
use Rattle.bounds.proofs.Steps.{failed_bearers, pre_empt_bearers}
use Rattle.runs.specs.Ledger.{Ledger, take_reports, unset, settle, deny, write_rab, freed}
use Rattle.runs.specs.Law.{Laws}
use Rattle.runs.proofs.Few.{Idle, failed_few, failed_idle, failed_off, failed_else, down_few}
use Rattle.runs.proofs.Agrees.{Agrees, one_more, number_and_size, failed_when, kept_drop}
use Rattle.runs.proofs.Fed.{Like, agrees_like, fed_then}

-- the book with a RAB neither waiting nor set up, its number free
abbrev pub cleared : ℕ → ℕ → Ledger → Ledger
cleared p r b = record { requests = b.requests; outcomes = b.outcomes; waiting = write_rab b.waiting p r None; bearing = write_rab b.bearing p r None; used = freed b.used (b.bearing p r); denied = b.denied }

-- the RAB's item is still to come, and there is a place for it
pub record Hole {m : Radio} (todo : ℕ → ℕ → ℕ) (p r : ℕ) (l : Ledger) (x : State m) : Type 0 where
  pub agrees : Agrees (one_more todo p r) (cleared p r l) x
  pub unqueued : waits_as p r x.queue ≡ None
  pub few : known x < 64
  pub idle : Idle x

-- each stands in the table once those before it are gone
abbrev pub Stand : List Bearer → List Bearer → Type 0
Stand bs [] = Unit {0}
Stand bs (v ∷ vs) = (set_up_as v.place v.rab bs ≡ Some v) × Stand (without_bearer v.place v.rab bs) vs

no_number : (o : Option Bearer) → None ≡ number_and_size o → o ≡ None
no_number None e = refl
no_number (Some b) e = let z : ◌≡◌ {A = ℕ} 0 1 = cc in absurd (omega arith)

-- two writes of the same, in either order
writes_swap : {X : Type 0} (f : ℕ → ℕ → X) (p r k j i h : ℕ) (v : X) → write_rab (write_rab f p r v) k j v i h ≡ write_rab (write_rab f k j v) p r v i h
writes_swap f p r k j i h v = at (eqb i p && eqb h r) (eqb i k && eqb h j)
  where
    at : (s t : Bool) → cond t v (cond s v (f i h)) ≡ cond s v (cond t v (f i h))
    at true true = refl
    at true false = refl
    at false true = refl
    at false false = refl

freed_swap : (f : ℕ → Bool) (o o' : Option (ℕ × ℕ)) (g : ℕ) → freed (freed f o) o' g ≡ freed (freed f o') o g
freed_swap f None None g = refl
freed_swap f None (Some a) g = refl
freed_swap f (Some a) None g = refl
freed_swap f (Some a) (Some b) g = at (eqb g a.0) (eqb g b.0)
  where
    at : (s t : Bool) → cond t false (cond s false (f g)) ≡ cond s false (cond t false (f g))
    at true true = refl
    at true false = refl
    at false true = refl
    at false false = refl

off_write : {X : Type 0} (f : ℕ → ℕ → X) (p r k j : ℕ) (v : X) → (eqb k p && eqb j r) ≡ false → write_rab f p r v k j ≡ f k j
off_write f p r k j v e = ap (λ t. cond t v (f k j)) e

settle_cleared : (p r k j : ℕ) (l : Ledger) → Like (settle k j (cleared p r l)) (cleared p r (settle k j l))
settle_cleared p r k j l = record {
  requests = λ _ _. refl;
  outcomes = λ _ _. refl;
  waiting = λ i h. writes_swap l.waiting p r k j i h None;
  bearing = λ _ _. refl;
  used = λ _. refl;
  denied = refl;
}

unset_cleared : (p r k j : ℕ) (l : Ledger) → (eqb k p && eqb j r) ≡ false → (eqb p k && eqb r j) ≡ false → Like (unset k j (cleared p r l)) (cleared p r (unset k j l))
unset_cleared p r k j l off off' = record {
  requests = λ _ _. refl;
  outcomes = λ _ _. refl;
  waiting = λ _ _. refl;
  bearing = λ i h. writes_swap l.bearing p r k j i h None;
  used = λ g.
      ap (λ o. freed (freed l.used (l.bearing p r)) o g) (off_write l.bearing p r k j None off) ∙ freed_swap l.used (l.bearing p r) (l.bearing k j) g ∙
      sym (ap (λ o. freed (freed l.used (l.bearing k j)) o g) (off_write l.bearing k j p r None off'));
  denied = refl;
}

module _ {m : Radio} (laws : Laws m) (fp : ℕ) (is : List ReadItem) (todo : ℕ → ℕ → ℕ) (p r : ℕ) where
  -- the RAB is not set up
  pub hole_unset : (l : Ledger) (x : State m) → Hole todo p r l x → set_up_as p r x.bearers ≡ None
  hole_unset l x h = no_number (set_up_as p r x.bearers) (grind (arith, nat_tests) ∙ h.agrees.bearing p r)

  -- a waiting request fails with cause 1
  hole_fails_when : (k j : ℕ) (l : Ledger) (x : State m) → Hole todo p r l x → (w : Bool) → is_some (waits_as k j x.queue) ≡ w →
      Agrees (one_more todo p r)
      (cleared p r (take_reports fp is (cond w (tell (report kind.Failed k j cause.RabPreempted) (at_queue x (without_request k j x.queue))) (silent x)).reports l))
      (cond w (tell (report kind.Failed k j cause.RabPreempted) (at_queue x (without_request k j x.queue))) (silent x)).state
  hole_fails_when k j l x h true e =
      agrees_like (one_more todo p r) (settle k j (cleared p r (deny 0 l))) (cleared p r (settle k j (deny 0 l))) (at_queue x (without_request k j x.queue))
      (failed_when (one_more todo p r) fp is cause.RabPreempted k j (cleared p r l) x refl h.agrees true e) (settle_cleared p r k j (deny 0 l))
  hole_fails_when k j l x h false e = h.agrees

  hole_fails : (k j : ℕ) (l : Ledger) (x : State m) → Hole todo p r l x →
      Hole todo p r (take_reports fp is (fail_waiting cause.RabPreempted k j x).reports l) (fail_waiting cause.RabPreempted k j x).state
  hole_fails k j l x h = record {
    agrees = hole_fails_when k j l x h (is_some (waits_as k j x.queue)) refl;
    unqueued = failed_else cause.RabPreempted k j x p r h.agrees.apart h.unqueued;
    few = let f = failed_few cause.RabPreempted k j x in let g = h.few in omega arith;
    idle = failed_idle cause.RabPreempted k j x h.agrees.apart h.idle;
  }

  -- a set-up RAB is another one
  hole_off : (l : Ledger) (x : State m) → Hole todo p r l x → (b : Bearer) → set_up_as b.place b.rab x.bearers ≡ Some b → (eqb b.place p && eqb b.rab r) ≡ false
  hole_off l x h b stands =
      ⊎_elim
      (λ same.
      let e : set_up_as p r x.bearers ≡ Some b = ap (λ z. set_up_as z r x.bearers) (sym same.0) ∙ ap (λ z. set_up_as b.place z x.bearers) (sym same.1) ∙ stands in
      let n = hole_unset l x h in
      let z : ◌≡◌ {A = ℕ} 0 1 = cc in
      absurd (omega arith))
      (λ other. other)
      (key_cases p r b.place b.rab)

  hole_gives : (b : Bearer) (l : Ledger) (x : State m) → Hole todo p r l x → set_up_as b.place b.rab x.bearers ≡ Some b → waits_as b.place b.rab x.queue ≡ None →
      Hole todo p r (unset b.place b.rab l) (free_bearer b x)
  hole_gives b l x h stands none =
      let off = hole_off l x h b stands in
      record {
        agrees = agrees_like (one_more todo p r) (unset b.place b.rab (cleared p r l)) (cleared p r (unset b.place b.rab l)) (free_bearer b x)
            (kept_drop laws (one_more todo p r) cause.RabPreempted b (cleared p r l) x h.agrees stands) (unset_cleared p r b.place b.rab l off (grind (arith, nat_tests)));
        unqueued = h.unqueued;
        few = let f = down_few b x h.agrees.well stands none in let g = h.few in omega arith;
        idle = h.idle;
      }

  -- another RAB is pre-empted
  hole_pre_empts : (b : Bearer) (l : Ledger) (x : State m) → Hole todo p r l x → set_up_as b.place b.rab x.bearers ≡ Some b →
      Hole todo p r (take_reports fp is (pre_empt b x).reports l) (pre_empt b x).state
  hole_pre_empts b l x h stands =
      let o = fail_waiting cause.RabPreempted b.place b.rab x in
      fed_then fp is (Hole todo p r) l o (drop_bearer kind.ReleaseRequested cause.RabPreempted b)
      (hole_gives b (take_reports fp is o.reports l) o.state (hole_fails b.place b.rab l x h)
      (ap (set_up_as b.place b.rab) (failed_bearers cause.RabPreempted b.place b.rab x) ∙ stands)
      (failed_off cause.RabPreempted b.place b.rab x h.agrees.apart))

  -- one after the other
  pub hole_victims : (vs : List Bearer) (l : Ledger) (x : State m) → Hole todo p r l x → Stand x.bearers vs →
      Hole todo p r (take_reports fp is (each pre_empt vs x).reports l) (each pre_empt vs x).state
  hole_victims [] l x h ok = h
  hole_victims (b ∷ vs) l x h ok =
      fed_then fp is (Hole todo p r) l (pre_empt b x) (each pre_empt vs)
      (hole_victims vs (take_reports fp is (pre_empt b x).reports l) (pre_empt b x).state (hole_pre_empts b l x h ok.0)
      (subst (λ bs. Stand bs vs) (sym (pre_empt_bearers b x)) ok.1))
