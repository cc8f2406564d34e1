-- How a request comes to be done: its RAB is out of the way, whether it was set up, waited, or neither.
use Rattle.std.proofs.Common.{◌≡◌, ℕ, ◌<◌, ◌≤◌, true, [], Some, None, Option, sym, refl, ap, ◌∙◌, subst, ⊎_elim, arith}
use Rattle.std.proofs.lemmas.Bool.Decides.{nat_tests}
use Rattle.rules.specs.Radio.{Radio}
use Rattle.rules.specs.State.{State, at_queue}
use Rattle.rules.specs.Tables.{is_some, set_up_as, waits_as, without_request}
use Rattle.rules.specs.Checks.{known}
use Rattle.rules.specs.Actions.{free_bearer}
use Rattle.rules.specs.Request.{free_own}
use Rattle.rules.specs.declared.bearer.Bearer.{Bearer}
use Rattle.rules.specs.declared.report.Cause.TheVariants as cause
use Rattle.bearers.proofs.Waiting.{key_cases, waits_without, none_without, apart_without}
use Rattle.bearers.proofs.Known.{fewer, one_fewer}
use Rattle.bounds.proofs.Removals.{set_up_key}
use Rattle.runs.specs.Ledger.{Ledger, unset, write_rab, freed}
use Rattle.runs.specs.Law.{Laws}
use Rattle.runs.proofs.Few.{Idle, down_few}
use Rattle.runs.proofs.Agrees.{Agrees, one_more, size_waited, number_and_size, is_some_size, waiting_settled, kept_drop}
use Rattle.runs.proofs.Fed.{agrees_like, Stands}
use Rattle.runs.proofs.Hole.{Hole, cleared}

-- what is written was there
pub same_write : {X : Type 0} (f : ℕ → ℕ → X) (p r k j : ℕ) (v : X) → f p r ≡ v → f k j ≡ write_rab f p r v k j
same_write f p r k j v e =
    ⊎_elim
    (λ same. let g : f k j ≡ v = ap (λ z. f z j) same.0 ∙ ap (f p) same.1 ∙ e in grind (arith, nat_tests))
    (λ other. grind (arith, nat_tests))
    (key_cases p r k j)

module _ {m : Radio} (laws : Laws m) (todo : ℕ → ℕ → ℕ) where
  module _ (p r : ℕ) (l : Ledger) (x : State m) (a : Agrees (one_more todo p r) l x) (unqueued : waits_as p r x.queue ≡ None) where
    unwaited : l.waiting p r ≡ None
    unwaited = a.waiting p r ∙ ap size_waited unqueued

    made_new : set_up_as p r x.bearers ≡ None → known x < 64 → Idle x → Hole todo p r l x
    made_new none few idle = record {
      agrees =
          let unbooked : l.bearing p r ≡ None = a.bearing p r ∙ ap number_and_size none in
          agrees_like (one_more todo p r) l (cleared p r l) x a record {
            requests = λ _ _. refl;
            outcomes = λ _ _. refl;
            waiting = λ k j. same_write l.waiting p r k j None unwaited;
            bearing = λ k j. same_write l.bearing p r k j None unbooked;
            used = λ g. sym (ap (λ o. freed l.used o g) unbooked);
            denied = refl;
          };
      unqueued = unqueued;
      few = few;
      idle = idle;
    }

  made_over : (b : Bearer) (l : Ledger) (x : State m) → Agrees (one_more todo b.place b.rab) l x → waits_as b.place b.rab x.queue ≡ None →
      set_up_as b.place b.rab x.bearers ≡ Some b → known x ≤ 64 → Idle x → Hole todo b.place b.rab l (free_bearer b x)
  made_over b l x a none stands few idle = record {
    agrees =
        agrees_like (one_more todo b.place b.rab) (unset b.place b.rab l) (cleared b.place b.rab l) (free_bearer b x)
        (kept_drop laws (one_more todo b.place b.rab) cause.NoCause b l x a stands) record {
          requests = λ _ _. refl;
          outcomes = λ _ _. refl;
          waiting = λ k j. same_write l.waiting b.place b.rab k j None (a.waiting b.place b.rab ∙ ap size_waited none);
          bearing = λ _ _. refl;
          used = λ _. refl;
          denied = refl;
        };
    unqueued = none;
    few = let f = down_few b x a.well stands none in omega arith;
    idle = idle;
  }

  -- at its item's turn: a RAB that does not wait
  pub made : (p r : ℕ) (l : Ledger) (x : State m) → Agrees (one_more todo p r) l x → waits_as p r x.queue ≡ None → (o : Option Bearer) → set_up_as p r x.bearers ≡ o →
      known x ≤ 64 → Idle x → (o ≡ None → known x < 64) → Hole todo p r l (free_own o x)
  made p r l x a none None e few idle new = made_new p r l x a none e (new refl) idle
  made p r l x a none (Some b) e few idle new =
      let k = set_up_key p r b x.bearers e in
      let at : (z w : ℕ) → b.place ≡ z → b.rab ≡ w → Hole todo b.place b.rab l (free_bearer b x) → Hole todo z w l (free_bearer b x) =
      λ z w f g h. subst (λ v. Hole todo v w l (free_bearer b x)) f (subst (λ v. Hole todo b.place v l (free_bearer b x)) g h) in
      let back : (P : ℕ → ℕ → Type 0) → P p r → P b.place b.rab = λ P h. subst (λ v. P v b.rab) (sym k.0) (subst (λ v. P p v) (sym k.1) h) in
      at p r k.0 k.1
      (made_over b l x (back (λ z w. Agrees (one_more todo z w) l x) a) (back (λ z w. waits_as z w x.queue ≡ None) none)
      (back (λ z w. set_up_as z w x.bearers ≡ Some b) e) few idle)

  module _ (p r : ℕ) (l : Ledger) (x : State m) (s : Stands todo l x) (waits : is_some (waits_as p r x.queue) ≡ true) where
    -- the book with the RAB waiting no more
    abbrev past : Ledger
    past = record { requests = l.requests; outcomes = l.outcomes; waiting = write_rab l.waiting p r None; bearing = l.bearing; used = l.used; denied = l.denied }

    off : waits_as p r (without_request p r x.queue) ≡ None
    off = waits_without p r p r x.queue s.agrees.apart ∙ grind (arith, nat_tests)

    -- a waiting request at its turn is one more item to come
    called : Agrees (one_more todo p r) past (at_queue x (without_request p r x.queue))
    called = record {
      counts = λ k j.
          ⊎_elim
          (λ same.
          let n = s.agrees.counts k j in
          let w : is_some (l.waiting p r) ≡ true = ap is_some (s.agrees.waiting p r) ∙ is_some_size (waits_as p r x.queue) ∙ waits in
          let e : is_some (l.waiting k j) ≡ true = ap (λ z. is_some (l.waiting z j)) same.0 ∙ ap (λ z. is_some (l.waiting p z)) same.1 ∙ w in
          grind (arith, nat_tests))
          (λ other. let n = s.agrees.counts k j in grind (arith, nat_tests))
          (key_cases p r k j);
      waiting = waiting_settled todo 0 [] cause.NoCause p r l x refl s.agrees;
      bearing = s.agrees.bearing;
      used = s.agrees.used;
      undenied = s.agrees.undenied;
      apart = apart_without p r x.queue s.agrees.apart;
      well = s.agrees.well;
      sound = s.agrees.sound;
      held = s.agrees.held;
    }

    -- when its turn has come in the queue
    pub made_waiting : Hole todo p r l (free_own (set_up_as p r x.bearers) (at_queue x (without_request p r x.queue)))
    made_waiting =
        let y = at_queue x (without_request p r x.queue) in
        let f = fewer x.bearers p r x.queue in
        let g = s.few in
        let h = made p r past y called off (set_up_as p r x.bearers) refl (omega arith) (λ k j e. none_without p r k j x.queue s.agrees.apart (s.idle k j e)) (λ none. let n = one_fewer x.bearers p r x.queue none waits in omega arith) in
        record {
          agrees = agrees_like (one_more todo p r) (cleared p r past) (cleared p r l) (free_own (set_up_as p r x.bearers) y) h.agrees record {
            requests = λ _ _. refl;
            outcomes = λ _ _. refl;
            waiting = λ k j. ⊎_elim (λ same. grind (arith, nat_tests)) (λ other. grind (arith, nat_tests)) (key_cases p r k j);
            bearing = λ _ _. refl;
            used = λ _. refl;
            denied = refl;
          };
          unqueued = h.unqueued;
          few = h.few;
          idle = h.idle;
        }
