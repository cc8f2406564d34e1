-- The RABs' side between two calls: book and state agree, and no waiting request would be admitted. Calls that serve no queue.
use Rattle.std.proofs.Common.{◌≡◌, ℕ, Bool, true, false, cond, not, eqb, List, [], ◌∷◌, map, Some, None, filter, Option, sym, refl, ap, ◌∙◌, subst, ⊎_elim, arith}
use Rattle.std.proofs.lemmas.Bool.Decides.{nat_tests}
use Rattle.std.proofs.lemmas.Bool.{cases_Bool}
use Rattle.rules.specs.Radio.{Radio}
use Rattle.rules.specs.State.{State, at_connections, at_tickets}
use Rattle.rules.specs.Tables.{asks_for, waits_as}
use Rattle.rules.specs.Numbers.{cause_number}
use Rattle.rules.specs.Connections.{opened, reopened, of_ue, changed, places_of}
use Rattle.rules.specs.Actions.{fail_all}
use Rattle.rules.specs.Relocation.{required, cancel, asked_by, relocation_runs, start, ended}
use Rattle.rules.specs.declared.bearer.Request.{Request}
use Rattle.rules.specs.declared.connection.Connection.{Connection}
use Rattle.rules.specs.declared.connection.ConnectionState.{ConnectionState}
use Rattle.rules.specs.declared.connection.ConnectionState.TheVariants.{Closed, Open, Preparing, Prepared, Executed}
use Rattle.rules.specs.declared.connection.TicketRecord.{TicketRecord}
use Rattle.rules.specs.declared.item.ReadItem.{ReadItem}
use Rattle.rules.specs.declared.report.Cause.{Cause}
use Rattle.rules.specs.declared.report.Cause.TheVariants as cause
use Rattle.bearers.proofs.Waiting.{Apart}
use Rattle.runs.specs.Ledger.{Ledger, take_reports}
use Rattle.runs.proofs.Quiet.{Quiet}
use Rattle.runs.proofs.Fed.{Stands, fed_then}
use Rattle.runs.proofs.FailAll.{if_passes, waits_kept, kept_fail_all}
use Rattle.runs.proofs.Conns.{seat, seat_changed}

-- nothing is to come
abbrev pub no_items : ℕ → ℕ → ℕ
no_items p r = 0

pub record Rabs {m : Radio} (l : Ledger) (x : State m) : Type 0 where
  pub stands : Stands no_items l x
  pub quiet : Quiet x

-- reports of kinds 8 and 9 say nothing of RABs
pub take_required : (fp : ℕ) (is : List ReadItem) (ps : List ℕ) (l : Ledger) → take_reports fp is (map required ps) l ≡ l
take_required fp is [] l = refl
take_required fp is (p ∷ ps) l = take_required fp is ps l

pub take_cancels : (fp : ℕ) (is : List ReadItem) (c : Cause) (ps : List ℕ) (l : Ledger) → take_reports fp is (map (cancel c) ps) l ≡ l
take_cancels fp is c [] l = refl
take_cancels fp is c (p ∷ ps) l = take_cancels fp is c ps l

-- what passes was there
pub was_there : (test : Request → Bool) (o : Option Request) (q : Request) → if_passes test o ≡ Some q → (o ≡ Some q) × (test q ≡ true)
was_there test None q e = let z : ◌≡◌ {A = ℕ} 0 1 = cc in absurd (omega arith)
was_there test (Some w) q e = at (test w) refl e
  where
    at : (t : Bool) → test w ≡ t → cond t (Some w) None ≡ Some q → (Some w ≡ Some q) × (test q ≡ true)
    at true f g = let s : w ≡ q = cc in (g, sym (ap test s) ∙ f)
    at false f g = let z : ◌≡◌ {A = ℕ} 0 1 = cc in absurd (omega arith)

-- a request waits under its own place and RAB ID
pub waits_key : (p r : ℕ) (q : Request) (qs : List Request) → waits_as p r qs ≡ Some q → (q.place ≡ p) × (q.rab ≡ r)
waits_key p r q [] e = let z : ◌≡◌ {A = ℕ} 0 1 = cc in absurd (omega arith)
waits_key p r q (a ∷ as') e = at (asks_for p r a) refl e (waits_key p r q as')
  where
    at : (t : Bool) → asks_for p r a ≡ t → cond t (Some a) (waits_as p r as') ≡ Some q → (waits_as p r as' ≡ Some q → (q.place ≡ p) × (q.rab ≡ r)) → (q.place ≡ p) × (q.rab ≡ r)
    at true k f ih = let s : a ≡ q = cc in (sym (ap (λ z. z.place) s) ∙ grind (arith, nat_tests), sym (ap (λ z. z.rab) s) ∙ grind (arith, nat_tests))
    at false k f ih = ih f

-- nobody waits where each that waits would be one that does not
pub nobody : (o : Option Request) → ((q : Request) → o ≡ Some q → ⊥) → o ≡ None
nobody None h = refl
nobody (Some q) h = absurd (h q refl)

module _ {m : Radio} where
  -- other connections and tickets, with no request on a place that is not open
  pub restated : (todo : ℕ → ℕ → ℕ) (l : Ledger) (x : State m) (cs : List Connection) (ts : List (Option TicketRecord)) → Stands todo l x →
      ((k j : ℕ) → opened (seat cs k).state ≡ false → waits_as k j x.queue ≡ None) → Stands todo l (at_tickets (at_connections x cs) ts)
  restated todo l x cs ts s idle = record {
    agrees =
        let a = s.agrees in
        record { counts = a.counts; waiting = a.waiting; bearing = a.bearing; used = a.used; undenied = a.undenied; apart = a.apart; well = a.well; sound = a.sound; held = a.held };
    few = s.few;
    idle = idle;
  }

  -- the same of whole RABs' side
  pub rabs_restated : (l : Ledger) (x : State m) (cs : List Connection) (ts : List (Option TicketRecord)) → Rabs l x →
      ((k j : ℕ) → opened (seat cs k).state ≡ false → waits_as k j x.queue ≡ None) → Rabs l (at_tickets (at_connections x cs) ts)
  rabs_restated l x cs ts r idle = record { stands = restated no_items l x cs ts r.stands idle; quiet = r.quiet }

  -- all that pass a test fail
  pub rabs_fail_all : (fp : ℕ) (is : List ReadItem) (c : Cause) → eqb (cause_number c) 6 ≡ false → (test : Request → Bool) (l : Ledger) (x : State m) → Rabs l x →
      Rabs (take_reports fp is (fail_all c test x).reports l) (fail_all c test x).state
  rabs_fail_all fp is c other test l x r = record {
    stands = kept_fail_all fp is no_items c other test l x r.stands;
    quiet = λ p j q e. r.quiet p j q (was_there (λ w. not (test w)) (waits_as p j x.queue) q (sym (waits_kept (λ w. not (test w)) p j x.queue r.stands.agrees.apart) ∙ e)).0;
  }

  -- who passed waits no more
  pub failed_none : (c : Cause) (test : Request → Bool) (x : State m) → Apart x.queue → (p r : ℕ) → ((q : Request) → q.place ≡ p → test q ≡ true) →
      waits_as p r (fail_all c test x).state.queue ≡ None
  failed_none c test x ok p r h =
      nobody (waits_as p r (filter (λ q. not (test q)) x.queue)) (λ q e.
      let w = was_there (λ w. not (test w)) (waits_as p r x.queue) q (sym (waits_kept (λ w. not (test w)) p r x.queue ok) ∙ e) in
      let t : test q ≡ true = h q (waits_key p r q x.queue w.0).0 in
      let f : not (test q) ≡ true = w.1 in
      let z : not true ≡ true = sym (ap not t) ∙ f in
      let y : ◌≡◌ {A = ℕ} 0 1 = cc in
      omega arith)

-- a connection that is not open once reopened was not open
shut_before : (t : Bool) (c : Connection) → opened (cond t (record { state = reopened c.state; ue = c.ue; domain = c.domain }) c).state ≡ false → opened c.state ≡ false
shut_before true c e = at c.state e
  where
    at : (s : ConnectionState) → opened (reopened s) ≡ false → opened s ≡ false
    at Closed e = refl
    at Open e = e
    at Preparing e = refl
    at Prepared e = refl
    at Executed e = refl
shut_before false c e = e

module _ {m : Radio} where
  -- a relocation ends
  pub rabs_ended : (u : ℕ) (l : Ledger) (x : State m) → Rabs l x → Rabs l (ended u x)
  rabs_ended u l x r =
      rabs_restated l x (changed u reopened x.connections) (ended u x).tickets r (λ k j e.
      r.stands.idle k j (shut_before (of_ue u (seat x.connections k)) (seat x.connections k) (sym (ap (λ c. opened c.state) (seat_changed u reopened x.connections k)) ∙ e)))

  -- a relocation starts
  pub rabs_start : (fp : ℕ) (is : List ReadItem) (u : ℕ) (l : Ledger) (x : State m) → Rabs l x → Rabs (take_reports fp is (start u x).reports l) (start u x).state
  unfolding start
  rabs_start fp is u l x r =
      let o = fail_all cause.RelocationTriggered (asked_by u x) x in
      let y = o.state in
      let k = take_reports fp is o.reports l in
      let r' = rabs_fail_all fp is cause.RelocationTriggered refl (asked_by u x) l x r in
      fed_then fp is Rabs l o (λ y. record { reports = map required (places_of u y); state = relocation_runs u y })
      (subst (λ b. Rabs b (relocation_runs u y)) (sym (take_required fp is (places_of u y) k))
      (rabs_restated k y (changed u (λ _. Preparing) x.connections) (relocation_runs u y).tickets r' (λ p j e.
      ⊎_elim
      (λ mine. failed_none cause.RelocationTriggered (asked_by u x) x r.stands.agrees.apart p j (λ q f. ap (λ z. of_ue u (seat x.connections z)) f ∙ mine))
      (λ other. r'.stands.idle p j (
      sym (ap (λ t. opened (cond t (record { state = Preparing; ue = (seat x.connections p).ue; domain = (seat x.connections p).domain }) (seat x.connections p)).state) other) ∙
      sym (ap (λ c. opened c.state) (seat_changed u (λ _. Preparing) x.connections p)) ∙ e))
      (cases_Bool (of_ue u (seat x.connections p))))))
