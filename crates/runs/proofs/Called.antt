-- Each call keeps the book right: open, expiry, execute, withdraw and start.
use Rattle.std.proofs.Common.{◌≡◌, ℕ, ◌<◌, Bool, true, false, cond, not, ◌&&◌, eqb, ltb, List, [], ◌∷◌, ◌++◌, map, length, Some, None, filter, Option, sym, refl, ap, ◌∙◌, subst, arith, length-set}
use lib.ListN.{length-map}
use Rattle.std.proofs.lemmas.Bool.Decides.{nat_tests}
use Rattle.std.proofs.lemmas.Bool.{not-true, not-false, or_parts, ltb-false}
use Rattle.rules.specs.Radio.{Radio}
use Rattle.rules.specs.State.{State, Outcome, silent}
use Rattle.rules.specs.Tables.{is_some, waits_at}
use Rattle.rules.specs.Connections.{closed, of_ue, any_connection, state_at, reopened, places_of}
use Rattle.rules.specs.Numbers.{domain_number, domain_of, timer_of, timer_number}
use Rattle.rules.specs.Actions.{failed}
use Rattle.rules.specs.Relocation.{required, asked_by, start, ue_at, ticket_at, free_ticket, ready, execute, execute_of, withdraw, withdraw_of, cancel_all}
use Rattle.rules.specs.Refusals.{refusal, short, bad_place, ue_relocating, open_refusal, expiry_refusal, foreign, execute_refusal, withdraw_refusal, any_ticket}
use Rattle.rules.specs.Calls.{answer, unless_refused, next_ticket, opens}
use Rattle.rules.specs.Timers.{timer_runs, expires}
use Rattle.rules.specs.declared.bearer.Request.{Request}
use Rattle.rules.specs.declared.connection.Connection.{Connection}
use Rattle.rules.specs.declared.connection.ConnectionState.TheVariants.{Preparing, Executed}
use Rattle.rules.specs.declared.connection.TicketId.{TicketId}
use Rattle.rules.specs.declared.connection.TicketRecord.{TicketRecord}
use Rattle.rules.specs.declared.refusal.Refusal.{Refusal}
use Rattle.rules.specs.declared.refusal.Reason.TheVariants as reason
use Rattle.rules.specs.declared.report.Cause.{Cause}
use Rattle.rules.specs.declared.report.Cause.TheVariants as cause
use Rattle.rules.specs.declared.connection.Domain.{Domain}
use Rattle.rules.specs.declared.connection.Timer.{Timer}
use Rattle.rules.specs.declared.connection.Timer.TheVariants.{Tqueuing, Trelocprep}
use Rattle.bearers.proofs.Waiting.{nothing_there}
use Rattle.runs.specs.Runs.{to_open, to_expiry, to_execute, to_withdraw, step, entry}
use Rattle.runs.specs.Ledger.{take_reports}
use Rattle.runs.specs.Tickets.{required_places, hand_out, loss_at, take_back}
use Rattle.runs.specs.Book.{Book, note, is_ok}
use Rattle.runs.proofs.Inserts.{first_passes}
use Rattle.runs.proofs.Conns.{change}
use Rattle.runs.proofs.Rabs.{rabs_fail_all, rabs_start}
use Rattle.runs.proofs.Obeyed.{rabs_open, rabs_execute, rabs_withdraw, rabs_cancel_all}
use Rattle.runs.proofs.Moves.{preparing_moves}
use Rattle.runs.proofs.Losses.{ticks_open, ticks_loss}
use Rattle.runs.proofs.Hands.{ticks_start}
use Rattle.runs.proofs.Spent.{ticks_execute, ticks_withdraw}
use Rattle.runs.proofs.Right.{Right}

-- no reason applies
pub no_reason : (t : Bool) (f : Refusal) (o : Option Refusal) → cond t (Some f) o ≡ None → (t ≡ false) × (o ≡ None)
no_reason true f o e = let z : ◌≡◌ {A = ℕ} 0 1 = cc in absurd (omega arith)
no_reason false f o e = (refl, e)

-- no place over 15
pub low_place : (p : ℕ) (cs : List Connection) → length cs ≡ 16 → ltb 15 p ≡ false → p < length cs
low_place p cs wide e = let l = ltb-false 15 p e in omega arith

module _ {m : Radio} (k : ℕ) (b : Book) (x : State m) (r : Right k b x) where
  opens_right : (p u : ℕ) (w : Option Domain) → is_some w ≡ true → p < length x.connections → closed (state_at p x) ≡ true → ue_relocating u x ≡ false →
      Right k (record { rabs = take_reports 0 [] (opens w p u x).reports b.rabs; tickets = b.tickets }) (opens w p u x).state
  opens_right p u None there low shut still = let z : ◌≡◌ {A = ℕ} 0 1 = cc in absurd (omega arith)
  opens_right p u (Some d) there low shut still = record {
    number = r.number;
    wide = length-set x.connections p _ ∙ r.wide;
    rabs = rabs_open p u d b.rabs x r.rabs low;
    ticks = ticks_open b.tickets x.connections x.tickets r.ticks p u d low shut still;
  }

  open_when : (p u d : ℕ) (o : Option Refusal) → open_refusal p u d x ≡ o →
      let out : Outcome m = opens (domain_of d) p u x in
      Right k (cond (is_ok (answer {A = Unit {0}} o tt)) (record { rabs = take_reports 0 [] (unless_refused o out x).reports b.rabs; tickets = b.tickets }) b) (unless_refused o out x).state
  open_when p u d (Some f) e = r
  open_when p u d None e =
      let n = no_reason (ltb 15 p) (refusal reason.BadPlace p) _ e in
      let n₂ = no_reason (not (closed (state_at p x))) (refusal reason.PlaceTaken p) _ n.1 in
      let n₃ = no_reason (any_connection (λ c. of_ue u c && eqb (domain_number c.domain) d) x.connections) (refusal reason.DomainTaken p) _ n₂.1 in
      let n₄ = no_reason (not (is_some (domain_of d))) (refusal reason.BadCode p) _ n₃.1 in
      let n₅ = no_reason (ue_relocating u x) (refusal reason.UeRelocating p) None n₄.1 in
      opens_right p u (domain_of d) (not-false (is_some (domain_of d)) n₄.0) (low_place p x.connections r.wide n.0) (not-false (closed (state_at p x)) n₂.0) n₅.0

  pub open_right : (p u d : ℕ) → Right k (note (entry (to_open p u d) x) b) (step (to_open p u d) x).state
  open_right p u d = open_when p u d (open_refusal p u d x) refl

  -- what the expiry of a running timer does; the book goes by the code
  expires_right : (p : ℕ) (t : Timer) → timer_runs (Some t) p x ≡ true →
      Right k (record { rabs = take_reports 0 [] (expires (Some t) p x).reports b.rabs; tickets = cond (eqb (timer_number t) 2) (loss_at p b.tickets) b.tickets }) (expires (Some t) p x).state
  expires_right p Tqueuing on = record {
    number = r.number;
    wide = r.wide;
    rabs = rabs_fail_all 0 [] cause.TqueuingExpiry refl (waits_at p) b.rabs x r.rabs;
    ticks = r.ticks;
  }
  expires_right p Trelocprep on = record {
    number = r.number;
    wide = length-map x.connections (change (ue_at p x) reopened) ∙ r.wide;
    rabs = rabs_cancel_all 0 [] cause.TrelocprepExpiry (ue_at p x) b.rabs x r.rabs;
    ticks = ticks_loss b.tickets x.connections x.tickets r.ticks p (preparing_moves (state_at p x) on).1;
  }

  -- a code is that of its timer
  timer_code : (t : ℕ) (w : Timer) (g h : Bool) → eqb t 1 ≡ g → eqb t 2 ≡ h → cond g (Some Tqueuing) (cond h (Some Trelocprep) None) ≡ Some w → timer_number w ≡ t
  timer_code t w true h e f s = let same : Tqueuing ≡ w = cc in ap timer_number (sym same) ∙ grind (arith, nat_tests)
  timer_code t w false true e f s = let same : Trelocprep ≡ w = cc in ap timer_number (sym same) ∙ grind (arith, nat_tests)
  timer_code t w false false e f s = let z : ◌≡◌ {A = ℕ} 0 1 = cc in absurd (omega arith)

  expires_when : (p t : ℕ) (w : Option Timer) → timer_of t ≡ w → is_some w ≡ true → timer_runs w p x ≡ true →
      Right k (record { rabs = take_reports 0 [] (expires w p x).reports b.rabs; tickets = cond (eqb t 2) (loss_at p b.tickets) b.tickets }) (expires w p x).state
  expires_when p t None e there on = let z : ◌≡◌ {A = ℕ} 0 1 = cc in absurd (omega arith)
  expires_when p t (Some w) e there on =
      subst
      (λ n. Right k (record { rabs = take_reports 0 [] (expires (Some w) p x).reports b.rabs; tickets = cond (eqb n 2) (loss_at p b.tickets) b.tickets }) (expires (Some w) p x).state)
      (timer_code t w (eqb t 1) (eqb t 2) refl refl e) (expires_right p w on)

  expiry_when : (n p t : ℕ) (c : ℕ) (o : Option Refusal) → expiry_refusal n p t x ≡ o →
      let out : Outcome m = expires (timer_of t) p x in
      Right k (cond (is_ok (answer o c)) (record { rabs = take_reports 0 [] (unless_refused o out x).reports b.rabs; tickets = cond (eqb t 2) (loss_at p b.tickets) b.tickets }) b) (unless_refused o out x).state
  expiry_when n p t c (Some f) e = r
  expiry_when n p t c None e =
      let n₁ = no_reason (short n) (refusal reason.ShortList 0) _ e in
      let n₂ = no_reason (bad_place p x) (refusal reason.BadPlace p) _ n₁.1 in
      let n₃ = no_reason (not (is_some (timer_of t))) (refusal reason.BadCode p) _ n₂.1 in
      let n₄ = no_reason (not (timer_runs (timer_of t) p x)) (refusal reason.NotRunning p) None n₃.1 in
      expires_when p t (timer_of t) refl (not-false (is_some (timer_of t)) n₃.0) (not-false (timer_runs (timer_of t) p x) n₄.0)

  pub expiry_right : (n p t : ℕ) → Right k (note (entry (to_expiry n p t) x) b) (step (to_expiry n p t) x).state
  expiry_right n p t = expiry_when n p t (length (step (to_expiry n p t) x).reports) (expiry_refusal n p t x) refl

  -- a ticket that is not foreign is out
  out_there : (t : TicketId) → foreign t x ≡ false → is_some (ticket_at t.number x) ≡ true
  out_there t e = not-false (is_some (ticket_at t.number x)) (or_parts (not (eqb t.controller x.number)) (not (is_some (ticket_at t.number x))) e).1

  executed_rest : (o : Option TicketRecord) → ((execute_of o x).number ≡ x.number) × (length (execute_of o x).connections ≡ length x.connections)
  executed_rest None = (refl, refl)
  executed_rest (Some t) = (refl, length-map x.connections (change t.ue (λ _. Executed)))

  execute_when : (t : TicketId) (o : Option Refusal) → execute_refusal t x ≡ o →
      let out : Outcome m = silent (execute t.number x) in
      Right k (cond (is_ok (answer {A = Unit {0}} o tt)) (record { rabs = take_reports 0 [] (unless_refused o out x).reports b.rabs; tickets = take_back t b.tickets }) b) (unless_refused o out x).state
  execute_when t (Some f) e = r
  execute_when t None e =
      let n = no_reason (foreign t x) (refusal reason.ForeignTicket 0) _ e in
      let n₂ = no_reason (not (ready (ticket_at t.number x) x)) (refusal reason.NotPrepared 0) None n.1 in
      let s = executed_rest (ticket_at t.number x) in
      record {
        number = s.0 ∙ r.number;
        wide = s.1 ∙ r.wide;
        rabs = rabs_execute t.number b.rabs x r.rabs (not-false (ready (ticket_at t.number x) x) n₂.0);
        ticks = ticks_execute b.tickets x r.ticks t (out_there t n.0);
      }

  pub execute_right : (t : TicketId) → Right k (note (entry (to_execute t) x) b) (step (to_execute t) x).state
  execute_right t = execute_when t (execute_refusal t x) refl

  withdrawn_cond : (u : ℕ) (g : Bool) →
      ((cond g (cancel_all cause.RelocationCancelled u x) (silent x)).state.number ≡ x.number) × (length (cond g (cancel_all cause.RelocationCancelled u x) (silent x)).state.connections ≡ length x.connections)
  withdrawn_cond u true = (refl, length-map x.connections (change u reopened))
  withdrawn_cond u false = (refl, refl)

  withdrawn_rest : (o : Option TicketRecord) → ((withdraw_of o x).state.number ≡ x.number) × (length (withdraw_of o x).state.connections ≡ length x.connections)
  withdrawn_rest None = (refl, refl)
  withdrawn_rest (Some t) = withdrawn_cond t.ue t.running

  withdraw_when : (n : ℕ) (t : TicketId) (c : Bool × ℕ) (o : Option Refusal) → withdraw_refusal n t x ≡ o →
      let out : Outcome m = withdraw t.number x in
      Right k (cond (is_ok (answer o c)) (record { rabs = take_reports 0 [] (unless_refused o out x).reports b.rabs; tickets = take_back t b.tickets }) b) (unless_refused o out x).state
  withdraw_when n t c (Some f) e = r
  withdraw_when n t c None e =
      let n₁ = no_reason (short n) (refusal reason.ShortList 0) _ e in
      let n₂ = no_reason (foreign t x) (refusal reason.ForeignTicket 0) None n₁.1 in
      let s = withdrawn_rest (ticket_at t.number x) in
      record {
        number = s.0 ∙ r.number;
        wide = s.1 ∙ r.wide;
        rabs = rabs_withdraw 0 [] t.number b.rabs x r.rabs;
        ticks = ticks_withdraw b.tickets x r.ticks t (out_there t n₂.0);
      }

  pub withdraw_right : (n : ℕ) (t : TicketId) → Right k (note (entry (to_withdraw n t) x) b) (step (to_withdraw n t) x).state
  withdraw_right n t = withdraw_when n t _ (withdraw_refusal n t x) refl

-- the places given kind 8 by a start
required_map : (ps : List ℕ) → required_places (map required ps) ≡ ps
required_map [] = refl
required_map (p ∷ ps) = ap (λ z. p ∷ z) (required_map ps)

required_after : (c : Cause) (ws : List Request) (ps : List ℕ) → required_places (map (failed c) ws ++ map required ps) ≡ ps
required_after c [] ps = required_map ps
required_after c (w ∷ ws) ps = required_after c ws ps

module _ {m : Radio} (k : ℕ) (b : Book) (x : State m) (r : Right k b x) where
  -- an accepted start
  pub started : (u : ℕ) → any_connection (of_ue u) x.connections ≡ true → any_ticket u x.tickets ≡ false → free_ticket x < 16 →
      Right k (record { rabs = take_reports 0 [] (start u x).reports b.rabs; tickets = hand_out (next_ticket x) (start u x).reports b.tickets }) (start u x).state
  unfolding start
  started u some none low =
      let f = first_passes (λ i. not (is_some (ticket_at i x))) 0 16 (omega arith) in
      record {
        number = r.number;
        wide = length-map x.connections (change u (λ _. Preparing)) ∙ r.wide;
        rabs = rabs_start 0 [] u b.rabs x r.rabs;
        ticks = ticks_start b.tickets x.connections x.tickets r.ticks (free_ticket x) u low (nothing_there (ticket_at (free_ticket x) x) (not-true (is_some (ticket_at (free_ticket x) x)) f)) none some
            (required_places (start u x).reports) (required_after cause.RelocationTriggered (filter (asked_by u x) x.queue) (places_of u x));
      }
