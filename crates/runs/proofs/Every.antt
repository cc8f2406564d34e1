-- The law of runs: every call keeps the book right, so every list of calls does.
use Rattle.std.proofs.Common.{◌≡◌, ℕ, ◌<◌, Bool, true, false, cond, not, ◌&&◌, eqb, ltb, leb, List, [], ◌∷◌, length, set, Some, None, Ok, Err, Option, Result, sym, refl, ap, ◌∙◌, subst, arith, length-set}
use lib.ListN.{length-map}
use Rattle.std.proofs.lemmas.Bool.{not-false, or_parts, leb-false, eq-eqb}
use Rattle.rules.specs.Radio.{Radio}
use Rattle.rules.specs.State.{State, silent}
use Rattle.rules.specs.Connections.{closed, preparing, of_ue, any_connection, state_at, reopened, changed, vacant, moved_to, at_place}
use Rattle.rules.specs.Message.{Message, rab_assignment_request, iu_release_command, relocation_command, relocation_preparation_failure, place_of, items_of, wants_preparing, repeats}
use Rattle.rules.specs.Actions.{fail_all}
use Rattle.rules.specs.Tables.{waits_at}
use Rattle.rules.specs.Events.{iu_release, handled, end_if_running, drop_place, close}
use Rattle.rules.specs.Relocation.{start, failure, ue_at, free_ticket}
use Rattle.rules.specs.Refusals.{refusal, short, bad_place, ue_relocating, start_refusal, any_ticket, frame_refusal}
use Rattle.rules.specs.Calls.{answer, unless_refused, next_ticket, handled_of, new_state}
use Rattle.rules.specs.Frame.{received}
use Rattle.rules.specs.declared.connection.Connection.{Connection}
use Rattle.rules.specs.declared.connection.ConnectionState.TheVariants.{Prepared}
use Rattle.rules.specs.declared.connection.TicketId.{TicketId}
use Rattle.rules.specs.declared.refusal.Refusal.{Refusal}
use Rattle.rules.specs.declared.refusal.Reason.TheVariants as reason
use Rattle.rules.specs.declared.report.Cause.TheVariants as cause
use Rattle.runs.specs.Runs.{Call, to_open, to_frame, to_expiry, to_start, to_execute, to_withdraw, of_start, step, entry, log, end}
use Rattle.runs.specs.Ledger.{take_reports}
use Rattle.runs.specs.Tickets.{hand_out, loss_at}
use Rattle.runs.specs.Book.{Book, blank, note, book, is_ok, start_noted, ticket_answered, rabs_handled, tickets_handled, rabs_received, tickets_received}
use Rattle.runs.specs.Law.{Laws, EveryRun}
use Rattle.runs.proofs.Conns.{seat, change, seat_changed}
use Rattle.runs.proofs.Rest.{rest, rest_assignment, rest_drop, rest_serve}
use Rattle.runs.proofs.Release.{rabs_failure, rabs_release}
use Rattle.runs.proofs.Obeyed.{rabs_assignment, rabs_commanded}
use Rattle.runs.proofs.Ticks.{moves, Ticks}
use Rattle.runs.proofs.Moves.{preparing_moves, moves_there, reopened_still}
use Rattle.runs.proofs.Losses.{ticks_command, ticks_loss, ticks_still, ticks_close}
use Rattle.runs.proofs.Right.{Right, right_told}
use Rattle.runs.proofs.New.{new_right}
use Rattle.runs.proofs.Received.{received_once}
use Rattle.runs.proofs.Called.{no_reason, low_place, open_right, expiry_right, execute_right, withdraw_right, started}

still_change : (u : ℕ) (c : Connection) (t : Bool) → of_ue u c ≡ t → moves c.state ≡ true → c.ue ≡ u → moves (cond t (moved_to (reopened c.state) c) c).state ≡ false
still_change u c true e on mine = reopened_still c.state
still_change u c false e on mine =
    let f : (not (closed c.state) && eqb c.ue u) ≡ true = ap (λ t. not t && eqb c.ue u) (moves_there c.state on) ∙ same in
    let z : true ≡ false = sym f ∙ e in
    let y : ◌≡◌ {A = ℕ} 0 1 = cc in
    absurd (omega arith)
  where
    same : eqb c.ue u ≡ true
    same = eq-eqb c.ue u mine

module _ {m : Radio} (laws : Laws m) (k : ℕ) (b : Book) (x : State m) (r : Right k b x) where
  start_when : (n u : ℕ) (c : TicketId × ℕ) (o : Option Refusal) → c.0 ≡ next_ticket x → start_refusal n u x ≡ o →
      Right k (cond (is_ok (answer o c))
      (record { rabs = take_reports 0 [] (unless_refused o (start u x) x).reports b.rabs; tickets = start_noted (ticket_answered (of_start (answer o c))) (unless_refused o (start u x) x).reports b.tickets }) b)
      (unless_refused o (start u x) x).state
  start_when n u c (Some f) q e = r
  start_when n u c None q e =
      let n₁ = no_reason (short n) (refusal reason.ShortList 0) _ e in
      let n₂ = no_reason (ue_relocating u x) (refusal reason.UeRelocating 0) _ n₁.1 in
      let n₃ = no_reason (not (any_connection (of_ue u) x.connections)) (refusal reason.UeAbsent 0) _ n₂.1 in
      let n₄ = no_reason (any_ticket u x.tickets) (refusal reason.TicketOut 0) _ n₃.1 in
      let n₅ = no_reason (leb 16 (free_ticket x)) (refusal reason.TicketsGone 0) None n₄.1 in
      subst (λ t. Right k (record { rabs = take_reports 0 [] (start u x).reports b.rabs; tickets = hand_out t (start u x).reports b.tickets }) (start u x).state) (sym q)
      (started k b x r u (not-false (any_connection (of_ue u) x.connections) n₃.0) n₄.0 (leb-false 16 (free_ticket x) n₅.0))

  start_right : (n u : ℕ) → Right k (note (entry (to_start n u) x) b) (step (to_start n u) x).state
  start_right n u = start_when n u (next_ticket x, length (step (to_start n u) x).reports) (start_refusal n u x) refl refl

  -- the tickets after an Iu release: a running relocation at the place is lost, then the place is closed
  lost_or_still : (p : ℕ) → p < length x.connections → (t : Bool) → moves (state_at p x) ≡ t →
      let y = (cond t (failure p x) (silent x)).state in
      Ticks (loss_at p b.tickets) (set y.connections p vacant) y.tickets
  lost_or_still p low true on =
      let cs = x.connections in
      let u = ue_at p x in
      ticks_close (loss_at p b.tickets) (changed u reopened cs) (failure p x).state.tickets (ticks_loss b.tickets cs x.tickets r.ticks p (moves_there (state_at p x) on)) p
      (subst (λ n. p < n) (sym (length-map cs (change u reopened))) low)
      (ap (λ c. moves c.state) (seat_changed u reopened cs p) ∙ still_change u (seat cs p) (of_ue u (seat cs p)) refl on refl)
  lost_or_still p low false off =
      ticks_close (loss_at p b.tickets) x.connections x.tickets (ticks_still b.tickets x.connections x.tickets r.ticks p off) p low off

  -- what an Iu release leaves of the rest
  released_rest : (p : ℕ) → rest (iu_release p x).state ≡ ((end_if_running p x).state.number, set (end_if_running p x).state.connections p vacant, (end_if_running p x).state.tickets)
  unfolding iu_release
  released_rest p =
      let y = (end_if_running p x).state in
      let z = (fail_all cause.IuReleased (waits_at p) y).state in
      let w = (drop_place p z).state in
      rest_serve (close p w) ∙ ap (λ t. (t.0, set t.1 p vacant, t.2)) (rest_drop p z)

  ended_rest : (p : ℕ) (t : Bool) → ((cond t (failure p x) (silent x)).state.number ≡ x.number) × (length (cond t (failure p x) (silent x)).state.connections ≡ length x.connections)
  ended_rest p true = (refl, length-map x.connections (change (ue_at p x) reopened))
  ended_rest p false = (refl, refl)

  handled_right : (g : Message) → repeats (items_of g) ≡ None → place_of g < length x.connections → (wants_preparing g && not (preparing (state_at (place_of g) x))) ≡ false →
      Right k (record { rabs = rabs_handled g (handled g x).reports b.rabs; tickets = tickets_handled g b.tickets }) (handled g x).state
  handled_right (rab_assignment_request p is) once low on =
      let e = rest_assignment p is x in
      record {
        number = ap (λ t. t.0) e ∙ r.number;
        wide = ap (λ t. length t.1) e ∙ r.wide;
        rabs = rabs_assignment laws p is b.rabs x r.rabs once;
        ticks = subst (λ t. Ticks b.tickets t.1 t.2) (sym e) r.ticks;
      }
  handled_right (iu_release_command p) once low on =
      let e = released_rest p in
      let t = moves (state_at p x) in
      let f = ended_rest p t in
      record {
        number = ap (λ t. t.0) e ∙ f.0 ∙ r.number;
        wide = ap (λ t. length t.1) e ∙ length-set (end_if_running p x).state.connections p vacant ∙ f.1 ∙ r.wide;
        rabs = rabs_release laws p [] p b.rabs x r.rabs low;
        ticks = subst (λ t. Ticks (loss_at p b.tickets) t.1 t.2) (sym e) (lost_or_still p low t refl);
      }
  handled_right (relocation_command p) once low on =
      let prep : preparing (state_at p x) ≡ true = not-false (preparing (state_at p x)) on in
      record {
        number = r.number;
        wide = length-set x.connections p (moved_to Prepared (at_place p x)) ∙ r.wide;
        rabs = rabs_commanded p b.rabs x r.rabs low prep;
        ticks = ticks_command b.tickets x.connections x.tickets r.ticks p low prep;
      }
  handled_right (relocation_preparation_failure p) once low on =
      let prep : preparing (state_at p x) ≡ true = not-false (preparing (state_at p x)) on in
      record {
        number = r.number;
        wide = length-map x.connections (change (ue_at p x) reopened) ∙ r.wide;
        rabs = rabs_failure laws p [] p b.rabs x r.rabs;
        ticks = ticks_loss b.tickets x.connections x.tickets r.ticks p (preparing_moves (state_at p x) prep).1;
      }

  frame_when : (n c : ℕ) (rd : Result Message Refusal) (o : Option Refusal) → ((g : Message) → rd ≡ Ok g → repeats (items_of g) ≡ None) → frame_refusal n rd x ≡ o →
      Right k (cond (is_ok (answer o c)) (record { rabs = rabs_received rd (unless_refused o (handled_of rd x) x).reports b.rabs; tickets = tickets_received rd b.tickets }) b) (unless_refused o (handled_of rd x) x).state
  frame_when n c rd (Some f) once e = r
  frame_when n c (Err f) None once e =
      let n₁ = no_reason (short n) (refusal reason.ShortList 0) _ e in
      let h = n₁.1 in
      let z : ◌≡◌ {A = ℕ} 0 1 = cc in
      absurd (omega arith)
  frame_when n c (Ok g) None once e =
      let n₁ = no_reason (short n) (refusal reason.ShortList 0) _ e in
      let n₂ = no_reason (bad_place (place_of g) x) (refusal reason.BadPlace (place_of g)) _ n₁.1 in
      let n₃ = no_reason (wants_preparing g && not (preparing (state_at (place_of g) x))) (refusal reason.NotRunning (place_of g)) None n₂.1 in
      handled_right g (once g refl) (low_place (place_of g) x.connections r.wide (or_parts (ltb 15 (place_of g)) (closed (state_at (place_of g) x)) n₂.0).0) n₃.0

  frame_right : (n : ℕ) (bs : List ℕ) → Right k (note (entry (to_frame n bs) x) b) (step (to_frame n bs) x).state
  frame_right n bs = frame_when n (length (step (to_frame n bs) x).reports) (received bs) (frame_refusal n (received bs) x) (received_once bs) refl

  -- every call
  call_right : (c : Call) → Right k (note (entry c x) b) (step c x).state
  call_right (to_open p u d) = open_right k b x r p u d
  call_right (to_frame n bs) = frame_right n bs
  call_right (to_expiry n p t) = expiry_right k b x r n p t
  call_right (to_start n u) = start_right n u
  call_right (to_execute t) = execute_right k b x r t
  call_right (to_withdraw n t) = withdraw_right k b x r n t

-- every list of calls
pub run_right : {m : Radio} → Laws m → (k : ℕ) (cs : List Call) (b : Book) (x : State m) → Right k b x → Right k (book (log cs x) b) (end cs x)
run_right laws k [] b x r = r
run_right laws k (c ∷ cs) b x r = run_right laws k cs (note (entry c x) b) (step c x).state (call_right laws k b x r c)

pub every_run : EveryRun
every_run m laws k y ok cs = right_told k (book (log cs (new_state m k y)) blank) (end cs (new_state m k y)) (run_right laws k cs blank (new_state m k y) (new_right laws k y ok))
