-- The tickets after an execute and a withdraw.
use Rattle.std.proofs.Common.{◌≡◌, ℕ, ◌+◌, Bool, true, false, cond, eqb, List, map, get_or, set, Some, None, Option, sym, refl, ap, ◌∙◌, subst, arith}
use lib.ListN.{length-map, get_or-map}
use Rattle.std.proofs.lemmas.Bool.{ne_eqb}
use Rattle.rules.specs.Radio.{Radio}
use Rattle.rules.specs.State.{State, silent}
use Rattle.rules.specs.Tables.{is_some}
use Rattle.rules.specs.Connections.{changed, reopened}
use Rattle.rules.specs.Relocation.{stopped, ticket_at, execute_of, execute, withdraw_of, withdraw, cancel_all}
use Rattle.rules.specs.declared.connection.Connection.{Connection}
use Rattle.rules.specs.declared.connection.ConnectionState.{ConnectionState}
use Rattle.rules.specs.declared.connection.ConnectionState.TheVariants.{Executed}
use Rattle.rules.specs.declared.connection.TicketId.{TicketId}
use Rattle.rules.specs.declared.connection.TicketRecord.{TicketRecord}
use Rattle.rules.specs.declared.report.Cause.TheVariants as cause
use Rattle.runs.specs.Tickets.{Tickets, take_back}
use Rattle.runs.proofs.Ticks.{Slot, Ticks, slot_like}
use Rattle.runs.proofs.Moves.{running_other, one_stopped, out_stopped}
use Rattle.runs.proofs.Hands.{ticks_back}

-- another UE's ticket is not stopped
stopped_other : (u : ℕ) (o : Option TicketRecord) → ((s : TicketRecord) → o ≡ Some s → s.ue ≡ u → ⊥) → stopped u o ≡ o
stopped_other u None h = refl
stopped_other u (Some s) h = ap (λ t. Some (cond t (record { ue = s.ue; running = false }) s)) (ne_eqb s.ue u (h s refl))

module _ (b : Tickets) (cs : List Connection) (ts : List (Option TicketRecord)) (h : Ticks b cs ts) (n : TicketId) (t : TicketRecord) (out : get_or ts n.number None ≡ Some t) where
  -- the other tickets are other UEs'
  other_ue : (j : ℕ) → (j ≡ n.number → ⊥) → (s : TicketRecord) → get_or ts j None ≡ Some s → s.ue ≡ t.ue → ⊥
  other_ue j off s e q = off (h.one_each j n.number s t e out q)

  others_run : (f : ConnectionState → ConnectionState) (j : ℕ) → (j ≡ n.number → ⊥) → Slot (b.out j) (get_or ts j None) (changed t.ue f cs)
  others_run f j off = slot_like (b.out j) (get_or ts j None) cs (changed t.ue f cs) (h.slots j) (λ s a e on r. running_other s.ue t.ue f a cs (other_ue j off s e) r)

  spent_executed : Ticks (take_back n b) (changed t.ue (λ _. Executed) cs) (set ts n.number None)
  spent_executed = ticks_back b (changed t.ue (λ _. Executed) cs) ts n t out (others_run (λ _. Executed)) h.one_each h.count h.wide

  spent_called_off : Ticks (take_back n b) (changed t.ue reopened cs) (set (map (stopped t.ue) ts) n.number None)
  spent_called_off =
      let u = t.ue in
      ticks_back b (changed u reopened cs) (map (stopped u) ts) n (cond (eqb t.ue u) (record { ue = t.ue; running = false }) t)
      (get_or-map (stopped u) ts n.number None ∙ ap (stopped u) out)
      (λ j off. subst (λ o. Slot (b.out j) o (changed u reopened cs)) (sym (get_or-map (stopped u) ts j None ∙ stopped_other u (get_or ts j None) (other_ue j off))) (others_run reopened j off))
      (one_stopped u ts h.one_each) (h.count ∙ ap (λ z. b.given_back + z) (sym (out_stopped u ts))) (length-map ts (stopped u) ∙ h.wide)

  spent_only : Ticks (take_back n b) cs (set ts n.number None)
  spent_only = ticks_back b cs ts n t out (λ j off. h.slots j) h.one_each h.count h.wide

module _ {m : Radio} (b : Tickets) (x : State m) (h : Ticks b x.connections x.tickets) (n : TicketId) where
  execute_when : (o : Option TicketRecord) → ticket_at n.number x ≡ o → is_some o ≡ true → Ticks (take_back n b) (execute_of o x).connections (set (execute_of o x).tickets n.number None)
  execute_when None e f = let z : ◌≡◌ {A = ℕ} 0 1 = cc in absurd (omega arith)
  execute_when (Some t) e f = spent_executed b x.connections x.tickets h n t e

  pub ticks_execute : is_some (ticket_at n.number x) ≡ true → Ticks (take_back n b) (execute n.number x).connections (execute n.number x).tickets
  ticks_execute e = execute_when (ticket_at n.number x) refl e

  withdraw_cond : (t : TicketRecord) → ticket_at n.number x ≡ Some t → (g : Bool) →
      Ticks (take_back n b) (cond g (cancel_all cause.RelocationCancelled t.ue x) (silent x)).state.connections
      (set (cond g (cancel_all cause.RelocationCancelled t.ue x) (silent x)).state.tickets n.number None)
  withdraw_cond t e true = spent_called_off b x.connections x.tickets h n t e
  withdraw_cond t e false = spent_only b x.connections x.tickets h n t e

  withdraw_when : (o : Option TicketRecord) → ticket_at n.number x ≡ o → is_some o ≡ true → Ticks (take_back n b) (withdraw_of o x).state.connections (set (withdraw_of o x).state.tickets n.number None)
  withdraw_when None e f = let z : ◌≡◌ {A = ℕ} 0 1 = cc in absurd (omega arith)
  withdraw_when (Some t) e f = withdraw_cond t e t.running

  pub ticks_withdraw : is_some (ticket_at n.number x) ≡ true → Ticks (take_back n b) (withdraw n.number x).state.connections (withdraw n.number x).state.tickets
  ticks_withdraw e = withdraw_when (ticket_at n.number x) refl e
