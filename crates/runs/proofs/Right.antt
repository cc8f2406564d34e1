-- What holds between two calls, of the book and the state; it gives the three parts of the law.
use Rattle.std.proofs.Common.{◌≡◌, ℕ, Bool, true, false, cond, not, ◌&&◌, ◌||◌, eqb, length, Some, None, Option, sym, refl, ap, ◌∙◌, subst, arith}
use Rattle.std.proofs.lemmas.Bool.{eq-eqb}
use Rattle.rules.specs.Radio.{Radio}
use Rattle.rules.specs.State.{State}
use Rattle.rules.specs.Tables.{is_some, set_up_as, waits_as}
use Rattle.rules.specs.Connections.{prepared, each_of_ue}
use Rattle.rules.specs.Preemption.{own_grant}
use Rattle.rules.specs.Relocation.{ticket_at, ready}
use Rattle.rules.specs.Refusals.{refusal, foreign}
use Rattle.rules.specs.Calls.{answer}
use Rattle.rules.specs.declared.bearer.Bearer.{Bearer}
use Rattle.rules.specs.declared.bearer.Request.{Request}
use Rattle.rules.specs.declared.connection.TicketId.{TicketId}
use Rattle.rules.specs.declared.connection.TicketRecord.{TicketRecord}
use Rattle.rules.specs.declared.refusal.Refusal.{Refusal}
use Rattle.rules.specs.declared.refusal.Reason.TheVariants.{ForeignTicket, NotPrepared}
use Rattle.runs.specs.Tickets.{Account, each_among, may_execute}
use Rattle.runs.specs.Book.{Book, is_ok}
use Rattle.runs.specs.Law.{TicketsHold, Told, number_booked}
use Rattle.runs.proofs.Agrees.{size_waited, number_and_size}
use Rattle.runs.proofs.Tells.{tells_accounts, tells_radio}
use Rattle.runs.proofs.Rabs.{Rabs, waits_key}
use Rattle.runs.proofs.Ticks.{Slot, Ticks, slot_some, ready_told}

pub record Right {m : Radio} (k : ℕ) (b : Book) (x : State m) : Type 0 where
  pub number : x.number ≡ k
  pub wide : length x.connections ≡ 16
  pub rabs : Rabs b.rabs x
  pub ticks : Ticks b.tickets x.connections x.tickets

-- the number that a request names, in book and state
same_grant : (o : Option Bearer) → number_booked (number_and_size o) ≡ own_grant o
same_grant None = refl
same_grant (Some b) = refl

-- who waits for a size
waiter : (o : Option Request) (s : ℕ) → size_waited o ≡ Some s → (q : Request) × (o ≡ Some q) × (q.size ≡ s)
waiter None s e = let z : ◌≡◌ {A = ℕ} 0 1 = cc in absurd (omega arith)
waiter (Some q) s e = (q, refl, (cc))

-- accepted exactly when no reason applies
accepted_both : (s t : Bool) (f g : Refusal) → is_ok (answer {A = Unit {0}} (cond s (Some f) (cond (not t) (Some g) None)) tt) ≡ (not s && t)
accepted_both true t f g = refl
accepted_both false true f g = refl
accepted_both false false f g = refl

none_and : (b : Bool) → (b && false) ≡ false
none_and true = refl
none_and false = refl

and_true : (b : Bool) → b ≡ (b && true)
and_true true = refl
and_true false = refl

-- a ticket out is ready exactly when it may be executed
ready_when : {m : Radio} (a : Account) (x : State m) (o : Option TicketRecord) → Slot (Some a) o x.connections → (is_some o ≡ true) × (ready o x ≡ may_execute a)
ready_when a x None s = absurd s
ready_when a x (Some t) s = (refl, at t.running refl)
  where
    at : (g : Bool) → t.running ≡ g → (t.running && each_of_ue t.ue prepared x.connections) ≡ (each_among a.connections a.commands && not a.lost)
    at true on =
        ap (λ z. z && each_of_ue t.ue prepared x.connections) on ∙ ready_told t.ue a x.connections (s.1 on) ∙ and_true (each_among a.connections a.commands) ∙
        ap (λ z. each_among a.connections a.commands && not z) (sym (s.0 ∙ ap not on))
    at false on =
        ap (λ z. z && each_of_ue t.ue prepared x.connections) on ∙ sym (none_and (each_among a.connections a.commands)) ∙
        ap (λ z. each_among a.connections a.commands && not z) (sym (s.0 ∙ ap not on))

-- not this controller's, or not out
foreign_test : (s t : Bool) → (s && t) ≡ false → (not s || not t) ≡ true
foreign_test true true e = sym e
foreign_test true false e = refl
foreign_test false t e = refl

module _ {m : Radio} (k : ℕ) (b : Book) (x : State m) (r : Right k b x) where
  tells_tickets : TicketsHold k b.tickets x
  tells_tickets = record {
    execute_accepted = λ i a e.
        let t : TicketId = record { controller = k; number = i } in
        let h = ready_when a x (ticket_at i x) (subst (λ o. Slot o (ticket_at i x) x.connections) e (r.ticks.slots i)) in
        let mine : eqb k x.number ≡ true = eq-eqb k x.number (sym r.number) in
        accepted_both (foreign t x) (ready (ticket_at i x) x) (refusal ForeignTicket 0) (refusal NotPrepared 0) ∙
        ap (λ z. not (not z || not (is_some (ticket_at i x))) && ready (ticket_at i x) x) mine ∙ ap (λ z. not (not z) && ready (ticket_at i x) x) h.0 ∙ h.1;
    execute_foreign = λ t e.
        let s = slot_some (b.tickets.out t.number) (ticket_at t.number x) x.connections (r.ticks.slots t.number) in
        let f : foreign t x ≡ true =
        foreign_test (eqb t.controller x.number) (is_some (ticket_at t.number x)) (ap (λ z. eqb t.controller z && is_some (ticket_at t.number x)) r.number ∙ ap (λ z. eqb t.controller k && z) (sym s) ∙ e) in
        ap (λ z. answer {A = Unit {0}} (cond z (Some (refusal ForeignTicket 0)) (cond (not (ready (ticket_at t.number x) x)) (Some (refusal NotPrepared 0)) None)) tt) f;
    none_missing = r.ticks.count;
  }

  pub right_told : Told k b x
  right_told =
      let a = r.rabs.stands.agrees in
      record {
        accounts = tells_accounts b.rabs x a;
        radio = tells_radio b.rabs x a (λ p j s e.
            let w = waiter (waits_as p j x.queue) s (sym (a.waiting p j) ∙ e) in
            let q = w.0 in
            let key = waits_key p j q x.queue w.1 in
            ap (λ o. m.admits x.pool (number_booked o) s) (a.bearing p j) ∙ ap (λ n. m.admits x.pool n s) (same_grant (set_up_as p j x.bearers)) ∙
            ap (λ n. m.admits x.pool (own_grant (set_up_as p j x.bearers)) n) (sym w.2) ∙
            ap (λ z. m.admits x.pool (own_grant (set_up_as z j x.bearers)) q.size) (sym key.0) ∙
            ap (λ z. m.admits x.pool (own_grant (set_up_as q.place z x.bearers)) q.size) (sym key.1) ∙ r.rabs.quiet p j q w.1);
        tickets = tells_tickets;
      }
