-- A release on an open connection, and whole items, each followed by serving the queue.
use Rattle.std.proofs.Common.{◌≡◌, ℕ, Bool, true, false, cond, List, Some, None, Option, sym, refl, ap, ◌∙◌, subst, arith}
use Rattle.rules.specs.Radio.{Radio}
use Rattle.rules.specs.State.{State, tell}
use Rattle.rules.specs.Tables.{set_up_as, waits_as}
use Rattle.rules.specs.Connections.{opened, state_at}
use Rattle.rules.specs.Actions.{refuse, report, drop_bearer, free_bearer}
use Rattle.rules.specs.Request.{assign, supersede, release_unset, release_known, release}
use Rattle.rules.specs.Queue.{serve}
use Rattle.rules.specs.Events.{release_item, assign_item}
use Rattle.rules.specs.declared.bearer.Bearer.{Bearer}
use Rattle.rules.specs.declared.bearer.Request.{Request}
use Rattle.rules.specs.declared.item.Assignment.{Assignment}
use Rattle.rules.specs.declared.item.ReadItem.{ReadItem}
use Rattle.rules.specs.declared.report.ReportKind.TheVariants as kind
use Rattle.rules.specs.declared.report.Cause.TheVariants as cause
use Rattle.bounds.proofs.Removals.{set_up_key}
use Rattle.bounds.proofs.Steps.{failed_bearers}
use Rattle.runs.specs.Ledger.{Ledger, take_reports, settle, unset, asked_at, freed}
use Rattle.runs.specs.Law.{Laws}
use Rattle.runs.proofs.Agrees.{one_more, number_and_size, kept_drop}
use Rattle.runs.proofs.Turns.{kept_settled}
use Rattle.runs.proofs.Few.{failed_off, down_few}
use Rattle.runs.proofs.Fed.{Stands, fed_then}
use Rattle.runs.proofs.Made.{same_write}
use Rattle.runs.proofs.Served.{kept_serve}
use Rattle.runs.proofs.Items.{kept_refuse}
use Rattle.runs.proofs.Assigns.{kept_fail, kept_counted, kept_assign}

module _ {m : Radio} (laws : Laws m) (fp : ℕ) (is : List ReadItem) (todo : ℕ → ℕ → ℕ) where
  -- a release: not set up, or set up
  release_none : (p r : ℕ) (l : Ledger) (x : State m) → Stands (one_more todo p r) l x → set_up_as p r x.bearers ≡ None → (o : Option Request) → waits_as p r x.queue ≡ o →
      Stands todo (take_reports fp is (release_unset o p r x).reports l) (release_unset o p r x).state
  release_none p r l x s none None e =
      kept_counted laws fp is todo p r l (settle p r l) x s e record { requests = λ _ _. refl; outcomes = λ _ _. refl; waiting = λ _ _. refl; bearing = λ _ _. refl; used = λ _. refl; denied = refl }
  release_none p r l x s none (Some q) e =
      let o = supersede p r x in
      let k = take_reports fp is o.reports l in
      let t = kept_fail laws fp is (one_more todo p r) cause.RequestSuperseded p r l x refl s in
      let unbooked : k.bearing p r ≡ None = t.agrees.bearing p r ∙ ap number_and_size (ap (set_up_as p r) (failed_bearers cause.RequestSuperseded p r x) ∙ none) in
      fed_then fp is (Stands todo) l o (tell (report kind.Released p r cause.NoCause))
      (kept_counted laws fp is todo p r k (settle p r (unset p r k)) o.state t (failed_off cause.RequestSuperseded p r x s.agrees.apart) record {
        requests = λ _ _. refl;
        outcomes = λ _ _. refl;
        waiting = λ _ _. refl;
        bearing = λ i j. same_write k.bearing p r i j None unbooked;
        used = λ g. sym (ap (λ o. freed k.used o g) unbooked);
        denied = refl;
      })

  release_one : (b : Bearer) (l : Ledger) (x : State m) → Stands (one_more todo b.place b.rab) l x → waits_as b.place b.rab x.queue ≡ None →
      set_up_as b.place b.rab x.bearers ≡ Some b → Stands todo (settle b.place b.rab (unset b.place b.rab l)) (free_bearer b x)
  release_one b l x s none stands = record {
    agrees = kept_settled todo b.place b.rab (unset b.place b.rab l) (free_bearer b x)
        (kept_drop laws (one_more todo b.place b.rab) cause.NoCause b l x s.agrees stands) none;
    few = let f = down_few b x s.agrees.well stands none in let g = s.few in omega arith;
    idle = s.idle;
  }

  release_when : (p r : ℕ) (l : Ledger) (x : State m) → Stands (one_more todo p r) l x → (o : Option Bearer) → set_up_as p r x.bearers ≡ o →
      Stands todo (take_reports fp is (release_known o p r x).reports l) (release_known o p r x).state
  release_when p r l x s None e = release_none p r l x s e (waits_as p r x.queue) refl
  release_when p r l x s (Some b) e =
      let k = set_up_key p r b x.bearers e in
      let back : (P : ℕ → ℕ → Type 0) → P p r → P b.place b.rab = λ P h. subst (λ v. P v b.rab) (sym k.0) (subst (λ v. P p v) (sym k.1) h) in
      let o = supersede p r x in
      fed_then fp is (Stands todo) l o (drop_bearer kind.Released cause.NoCause b)
      (release_one b (take_reports fp is o.reports l) o.state
      (back (λ z w. Stands (one_more todo z w) (take_reports fp is o.reports l) o.state) (kept_fail laws fp is (one_more todo p r) cause.RequestSuperseded p r l x refl s))
      (back (λ z w. waits_as z w o.state.queue ≡ None) (failed_off cause.RequestSuperseded p r x s.agrees.apart))
      (back (λ z w. set_up_as z w o.state.bearers ≡ Some b) (ap (set_up_as p r) (failed_bearers cause.RequestSuperseded p r x) ∙ e)))

  kept_release : (p r : ℕ) (l : Ledger) (x : State m) → Stands (one_more todo p r) l x → Stands todo (take_reports fp is (release p r x).reports l) (release p r x).state
  unfolding release
  kept_release p r l x s = release_when p r l x s (set_up_as p r x.bearers) refl

  release_or_not : (p r : ℕ) (l : Ledger) (x : State m) → Stands (one_more todo p r) l x → (t : Bool) → opened (state_at p x) ≡ t →
      Stands todo
      (take_reports fp is (cond t (release p r x) (refuse kind.NotReleased p r cause.RelocationTriggered x)).reports l)
      (cond t (release p r x) (refuse kind.NotReleased p r cause.RelocationTriggered x)).state
  release_or_not p r l x s true e = kept_release p r l x s
  release_or_not p r l x s false e =
      kept_counted laws fp is todo p r l (settle p r l) x s (s.idle p r e) record { requests = λ _ _. refl; outcomes = λ _ _. refl; waiting = λ _ _. refl; bearing = λ _ _. refl; used = λ _. refl; denied = refl }

  -- a release item, and the queue is served
  pub kept_release_item : (p r : ℕ) (l : Ledger) (x : State m) → Stands (one_more todo p r) l x → Stands todo (take_reports fp is (release_item p r x).reports l) (release_item p r x).state
  unfolding release_item
  kept_release_item p r l x s =
      let o = cond (opened (state_at p x)) (release p r x) (refuse kind.NotReleased p r cause.RelocationTriggered x) in
      fed_then fp is (Stands todo) l o serve (kept_serve laws fp is todo (take_reports fp is o.reports l) o.state (release_or_not p r l x s (opened (state_at p x)) refl))

  assign_or_not : (p : ℕ) (a : Assignment) (l : Ledger) (x : State m) → Stands (one_more todo p a.rab) l x → asked_at fp a.rab p is ≡ Some a → (t : Bool) → opened (state_at p x) ≡ t →
      Stands todo
      (take_reports fp is (cond t (assign p a x) (refuse kind.Failed p a.rab cause.RelocationTriggered x)).reports l)
      (cond t (assign p a x) (refuse kind.Failed p a.rab cause.RelocationTriggered x)).state
  assign_or_not p a l x s asked true e = kept_assign laws fp is todo p a l x s asked e
  assign_or_not p a l x s asked false e = kept_refuse laws fp is todo p a.rab cause.RelocationTriggered l x refl s (s.idle p a.rab e)

  -- any other item, and the queue is served
  pub kept_assign_item : (p : ℕ) (a : Assignment) (l : Ledger) (x : State m) → Stands (one_more todo p a.rab) l x → asked_at fp a.rab p is ≡ Some a →
      Stands todo (take_reports fp is (assign_item p a x).reports l) (assign_item p a x).state
  unfolding assign_item
  kept_assign_item p a l x s asked =
      let o = cond (opened (state_at p x)) (assign p a x) (refuse kind.Failed p a.rab cause.RelocationTriggered x) in
      fed_then fp is (Stands todo) l o serve (kept_serve laws fp is todo (take_reports fp is o.reports l) o.state (assign_or_not p a l x s asked (opened (state_at p x)) refl))
