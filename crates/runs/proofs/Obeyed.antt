-- The RABs' side after each accepted call: open, a frame of items, a command, an execute, a withdraw.
use Rattle.std.proofs.Common.{◌≡◌, ℕ, ◌<◌, Bool, true, false, cond, not, ◌&&◌, List, [], ◌∷◌, length, set, Some, None, Option, sym, refl, ap, ◌∙◌, subst, ⊎_elim}
use Rattle.std.proofs.lemmas.Bool.{cases_Bool, not-true, not-false, and_parts, true≢false}
use Rattle.rules.specs.Radio.{Radio}
use Rattle.rules.specs.State.{State, Outcome, each, silent, at_connections, at_tickets}
use Rattle.rules.specs.Connections.{opened, preparing, prepared, of_ue, changed, moved_to, any_connection, each_of_ue, at_place, state_at, places_of}
use Rattle.rules.specs.Message.{releases, assignments, repeats}
use Rattle.rules.specs.Actions.{refuse}
use Rattle.rules.specs.Request.{release, assign}
use Rattle.rules.specs.Events.{release_item, assign_item, assignment}
use Rattle.rules.specs.Relocation.{commanded, give_back, ready, execute_of, execute, ticket_at, withdraw_of, withdraw, cancel_all, ended}
use Rattle.rules.specs.declared.connection.Connection.{Connection}
use Rattle.rules.specs.declared.connection.ConnectionState.{ConnectionState}
use Rattle.rules.specs.declared.connection.ConnectionState.TheVariants.{Closed, Open, Preparing, Prepared, Executed}
use Rattle.rules.specs.declared.connection.Domain.{Domain}
use Rattle.rules.specs.declared.connection.TicketRecord.{TicketRecord}
use Rattle.rules.specs.declared.item.Assignment.{Assignment}
use Rattle.rules.specs.declared.item.ReadItem.{ReadItem}
use Rattle.rules.specs.declared.report.Cause.{Cause}
use Rattle.rules.specs.declared.report.ReportKind.TheVariants as kind
use Rattle.rules.specs.declared.report.Cause.TheVariants as cause
use Rattle.runs.specs.Ledger.{Ledger, take_reports, count_requests}
use Rattle.runs.specs.Law.{Laws}
use Rattle.runs.proofs.Quiet.{Quiet, serve_quiet}
use Rattle.runs.proofs.Fed.{fed_then}
use Rattle.runs.proofs.Frames.{kept_assignment}
use Rattle.runs.proofs.Conns.{seat, seat_changed, seat_set, none_seat}
use Rattle.runs.proofs.Rabs.{Rabs, no_items, take_cancels, rabs_restated, rabs_ended}

-- what is preparing or prepared is not open
pub preparing_shut : (s : ConnectionState) → preparing s ≡ true → opened s ≡ false
preparing_shut Closed e = refl
preparing_shut Open e = sym e
preparing_shut Preparing e = refl
preparing_shut Prepared e = refl
preparing_shut Executed e = refl

pub prepared_shut : (s : ConnectionState) → prepared s ≡ true → opened s ≡ false
prepared_shut Closed e = refl
prepared_shut Open e = sym e
prepared_shut Preparing e = refl
prepared_shut Prepared e = refl
prepared_shut Executed e = refl

-- where each connection of a UE passes, one of it does
pub each_seat : (u : ℕ) (test : ConnectionState → Bool) (cs : List Connection) → each_of_ue u test cs ≡ true → (k : ℕ) → of_ue u (seat cs k) ≡ true → test (seat cs k).state ≡ true
each_seat u test cs e k mine =
    let n = none_seat (λ c. of_ue u c && not (test c.state)) refl cs (not-true (any_connection (λ c. of_ue u c && not (test c.state)) cs) e) k in
    not-false (test (seat cs k).state) (sym (ap (λ t. t && not (test (seat cs k).state)) mine) ∙ n)

module _ {m : Radio} where
  each_quiet : {X : Type 0} (f : X → State m → Outcome m) → ((a : X) (x : State m) → Quiet (f a x).state) → (as' : List X) (x : State m) → Quiet x → Quiet (each f as' x).state
  each_quiet f h [] x q = q
  each_quiet f h (a ∷ as') x q = each_quiet f h as' (f a x).state (h a x)

  quiet_release : (p r : ℕ) (x : State m) → Quiet (release_item p r x).state
  unfolding release_item
  quiet_release p r x = serve_quiet (cond (opened (state_at p x)) (release p r x) (refuse kind.NotReleased p r cause.RelocationTriggered x)).state

  quiet_assign : (p : ℕ) (a : Assignment) (x : State m) → Quiet (assign_item p a x).state
  unfolding assign_item
  quiet_assign p a x = serve_quiet (cond (opened (state_at p x)) (assign p a x) (refuse kind.Failed p a.rab cause.RelocationTriggered x)).state

  -- a frame of items that names no RAB twice
  pub rabs_assignment : Laws m → (p : ℕ) (is : List ReadItem) (l : Ledger) (x : State m) → Rabs l x → repeats is ≡ None →
      Rabs (take_reports p is (assignment p is x).reports (count_requests p is l)) (assignment p is x).state
  rabs_assignment laws p is l x r none = record {
    stands = kept_assignment laws p is no_items l x r.stands none;
    quiet = each_quiet (assign_item p) (quiet_assign p) (assignments is) (each (release_item p) (releases is) x).state (each_quiet (release_item p) (quiet_release p) (releases is) x r.quiet);
  }

  -- a place is opened
  pub rabs_open : (p u : ℕ) (d : Domain) (l : Ledger) (x : State m) → Rabs l x → p < length x.connections → Rabs l (at_connections x (set x.connections p (record { state = Open; ue = u; domain = d })))
  rabs_open p u d l x r wide =
      let v : Connection = record { state = Open; ue = u; domain = d } in
      rabs_restated l x (set x.connections p v) x.tickets r (λ k j e.
      ⊎_elim
      (λ same. absurd (true≢false (sym (ap (λ c. opened c.state) same.1) ∙ e)))
      (λ other. r.stands.idle k j (sym (ap (λ c. opened c.state) other.1) ∙ e))
      (seat_set x.connections p k v wide))

  -- a preparing connection is prepared
  pub rabs_commanded : (p : ℕ) (l : Ledger) (x : State m) → Rabs l x → p < length x.connections → preparing (state_at p x) ≡ true → Rabs l (commanded p x).state
  rabs_commanded p l x r wide on =
      let v = moved_to Prepared (at_place p x) in
      rabs_restated l x (set x.connections p v) x.tickets r (λ k j e.
      ⊎_elim
      (λ same. r.stands.idle k j (ap (λ z. opened (state_at z x)) same.0 ∙ preparing_shut (state_at p x) on))
      (λ other. r.stands.idle k j (sym (ap (λ c. opened c.state) other.1) ∙ e))
      (seat_set x.connections p k v wide))

  -- tickets alone
  pub rabs_tickets : (l : Ledger) (x : State m) (ts : List (Option TicketRecord)) → Rabs l x → Rabs l (at_tickets x ts)
  rabs_tickets l x ts r = rabs_restated l x x.connections ts r r.stands.idle

  execute_when : (l : Ledger) (x : State m) → Rabs l x → (o : Option TicketRecord) → ready o x ≡ true → Rabs l (execute_of o x)
  execute_when l x r None e = r
  execute_when l x r (Some t) e =
      let h = and_parts t.running (each_of_ue t.ue prepared x.connections) e in
      rabs_restated l x (changed t.ue (λ _. Executed) x.connections) x.tickets r (λ k j f.
      ⊎_elim
      (λ mine. r.stands.idle k j (prepared_shut (state_at k x) (each_seat t.ue prepared x.connections h.1 k mine)))
      (λ other. r.stands.idle k j (
      sym (ap (λ b. opened (cond b (record { state = Executed; ue = (seat x.connections k).ue; domain = (seat x.connections k).domain }) (seat x.connections k)).state) other) ∙
      sym (ap (λ c. opened c.state) (seat_changed t.ue (λ _. Executed) x.connections k)) ∙ f))
      (cases_Bool (of_ue t.ue (seat x.connections k))))

  -- a ticket is executed
  pub rabs_execute : (i : ℕ) (l : Ledger) (x : State m) → Rabs l x → ready (ticket_at i x) x ≡ true → Rabs l (execute i x)
  rabs_execute i l x r e = rabs_tickets l (execute_of (ticket_at i x) x) (execute i x).tickets (execute_when l x r (ticket_at i x) e)

  -- a relocation is cancelled
  pub rabs_cancel_all : (fp : ℕ) (is : List ReadItem) (c : Cause) (u : ℕ) (l : Ledger) (x : State m) → Rabs l x → Rabs (take_reports fp is (cancel_all c u x).reports l) (cancel_all c u x).state
  rabs_cancel_all fp is c u l x r = subst (λ b. Rabs b (ended u x)) (sym (take_cancels fp is c (places_of u x) l)) (rabs_ended u l x r)

  withdraw_cond : (fp : ℕ) (is : List ReadItem) (u : ℕ) (l : Ledger) (x : State m) → Rabs l x → (b : Bool) →
      Rabs (take_reports fp is (cond b (cancel_all cause.RelocationCancelled u x) (silent x)).reports l) (cond b (cancel_all cause.RelocationCancelled u x) (silent x)).state
  withdraw_cond fp is u l x r true = rabs_cancel_all fp is cause.RelocationCancelled u l x r
  withdraw_cond fp is u l x r false = r

  withdraw_when : (fp : ℕ) (is : List ReadItem) (l : Ledger) (x : State m) → Rabs l x → (o : Option TicketRecord) → Rabs (take_reports fp is (withdraw_of o x).reports l) (withdraw_of o x).state
  withdraw_when fp is l x r None = r
  withdraw_when fp is l x r (Some t) = withdraw_cond fp is t.ue l x r t.running

  -- a ticket is withdrawn
  pub rabs_withdraw : (fp : ℕ) (is : List ReadItem) (i : ℕ) (l : Ledger) (x : State m) → Rabs l x → Rabs (take_reports fp is (withdraw i x).reports l) (withdraw i x).state
  rabs_withdraw fp is i l x r =
      let o = withdraw_of (ticket_at i x) x in
      fed_then fp is Rabs l o (λ y. silent (give_back i y))
      (rabs_tickets (take_reports fp is o.reports l) o.state (give_back i o.state).tickets (withdraw_when fp is l x r (ticket_at i x)))
