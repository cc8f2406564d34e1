-- No call makes more than 288 reports, in every state with at most 64 set-up RABs, 64 waiting requests and 16 places.
use Rattle.std.proofs.Common.{ℕ, suc, ◌*◌, ◌≤◌, Bool, true, false, cond, not, ◌||◌, eqb, List, [], ◌∷◌, map, length, Some, None, Option, arith, length-append}
use lib.ListN.{length-map}
use Rattle.rules.specs.Radio.{Radio}
use Rattle.rules.specs.State.{State, Outcome, then, silent}
use Rattle.rules.specs.Tables.{waits_at}
use Rattle.rules.specs.Connections.{preparing, prepared, places_from, places_of, of_ue, state_at}
use Rattle.rules.specs.Actions.{fail_all}
use Rattle.rules.specs.Queue.{serve}
use Rattle.rules.specs.Message.{Message, rab_assignment_request, iu_release_command, relocation_command, relocation_preparation_failure, items_of}
use Rattle.rules.specs.Events.{end_if_running, drop_place, close, iu_release, handled}
use Rattle.rules.specs.Timers.{expires}
use Rattle.rules.specs.Relocation.{required, cancel, others, failure, ue_at, asked_by, relocation_runs, start, cancel_all, ticket_at, withdraw_of, withdraw}
use Rattle.rules.specs.declared.connection.Connection.{Connection}
use Rattle.rules.specs.declared.connection.TicketRecord.{TicketRecord}
use Rattle.rules.specs.declared.connection.Timer.{Timer}
use Rattle.rules.specs.declared.connection.Timer.TheVariants.{Tqueuing, Trelocprep}
use Rattle.rules.specs.declared.report.Cause.{Cause}
use Rattle.rules.specs.declared.report.Cause.TheVariants as cause
use Rattle.bounds.specs.Weights.{Costs, Small}
use Rattle.bounds.specs.Bounds.{ReportsWithin}
use Rattle.bounds.proofs.Leavers.{kept_few}
use Rattle.bounds.proofs.Steps.{costs_then, costs_cond, costs_fail_all, costs_drop_place, costs_serve}
use Rattle.bounds.proofs.Turns.{costs_assignment}

places_few : (test : Connection → Bool) (i : ℕ) (cs : List Connection) → length (places_from test i cs) ≤ length cs
places_few test i [] = omega arith
places_few test i (c ∷ cs) = at (test c) (places_few test (suc i) cs)
  where
    at : (t : Bool) → length (places_from test (suc i) cs) ≤ length cs → length (cond t (i ∷ places_from test (suc i) cs) (places_from test (suc i) cs)) ≤ suc (length cs)
    at true l = omega arith
    at false l = omega arith

module _ {m : Radio} (x : State m) where
  -- a UE has at most as many connections as there are places
  pub ue_few : (u : ℕ) → length (places_of u x) ≤ length x.connections
  ue_few u = places_few (of_ue u) 0 x.connections

  pub costs_failure : (p : ℕ) → Costs (length x.connections) x (failure p x)
  costs_failure p =
      let k = kept_few (λ k. not (eqb k p)) (places_of (ue_at p x) x) in
      let l = ue_few (ue_at p x) in
      let n = length-map (others p (places_of (ue_at p x) x)) (cancel cause.RelocationCancelled) in
      omega arith

  pub costs_cancel_all : (c : Cause) (u : ℕ) → Costs (length x.connections) x (cancel_all c u x)
  costs_cancel_all c u = let l = ue_few u in let n = length-map (places_of u x) (cancel c) in omega arith

  pub costs_end : (p : ℕ) → Costs (length x.connections) x (end_if_running p x)
  costs_end p = costs_cond (length x.connections) x (preparing (state_at p x) || prepared (state_at p x)) (failure p x) (silent x) (costs_failure p) (omega arith)

  pub costs_iu_release : (p : ℕ) → Costs (length x.connections) x (iu_release p x)
  unfolding iu_release
  costs_iu_release p =
      let n = length x.connections in
      let o = end_if_running p x in
      let o₂ = fail_all cause.IuReleased (waits_at p) o.state in
      let o₃ = drop_place p o₂.state in
      let f₃ : Costs 0 o₃.state (serve (close p o₃.state)) = costs_serve (close p o₃.state) in
      costs_then n 0 n x o (λ y. then (fail_all cause.IuReleased (waits_at p) y) λ z. then (drop_place p z) λ w. serve (close p w)) (costs_end p)
      (costs_then 0 0 0 o.state o₂ (λ z. then (drop_place p z) λ w. serve (close p w)) (costs_fail_all cause.IuReleased (waits_at p) o.state)
      (costs_then 0 0 0 o₂.state o₃ (λ w. serve (close p w)) (costs_drop_place p o₂.state) f₃ (omega arith)) (omega arith)) (omega arith)

  pub costs_start : (u : ℕ) → Costs (length x.connections) x (start u x)
  unfolding start
  costs_start u =
      let n = length x.connections in
      let o = fail_all cause.RelocationTriggered (asked_by u x) x in
      costs_then 0 n n x o (λ y. record { reports = map required (places_of u y); state = relocation_runs u y }) (costs_fail_all cause.RelocationTriggered (asked_by u x) x)
      (let l = ue_few u in let k = length-map (places_of u x) required in omega arith) (omega arith)

  withdrawn : (o : Option TicketRecord) → length (withdraw_of o x).reports ≤ length x.connections
  withdrawn None = omega arith
  withdrawn (Some t) = at t.running
    where
      at : (g : Bool) → length (cond g (cancel_all cause.RelocationCancelled t.ue x) (silent x)).reports ≤ length x.connections
      at true = let l = ue_few t.ue in let n = length-map (places_of t.ue x) (cancel cause.RelocationCancelled) in omega arith
      at false = omega arith

  module _ (h : Small x) where
    -- what costs at most 96 makes at most 288 reports
    pub bounded : (c : ℕ) (o : Outcome m) → c ≤ 96 → Costs c x o → length o.reports ≤ 288
    bounded c o l f = let b = h.bearers in let q = h.queue in omega arith

    bounded_places : (o : Outcome m) → Costs (length x.connections) x o → length o.reports ≤ 288
    bounded_places o f = let w = h.connections in bounded (length x.connections) o (omega arith) f

    pub handled_few : (g : Message) → length (items_of g) ≤ 32 → length (handled g x).reports ≤ 288
    handled_few (rab_assignment_request p is) l = bounded (3 * length is) (handled (rab_assignment_request p is) x) (omega arith) (costs_assignment p is x)
    handled_few (iu_release_command p) l = bounded_places (iu_release p x) (costs_iu_release p)
    handled_few (relocation_command p) l = omega arith
    handled_few (relocation_preparation_failure p) l = bounded_places (failure p x) (costs_failure p)

    pub expires_few : (t : Option Timer) (p : ℕ) → length (expires t p x).reports ≤ 288
    expires_few None p = omega arith
    expires_few (Some Tqueuing) p = bounded 0 (expires (Some Tqueuing) p x) (omega arith) (costs_fail_all cause.TqueuingExpiry (waits_at p) x)
    expires_few (Some Trelocprep) p = bounded_places (expires (Some Trelocprep) p x) (costs_cancel_all cause.TrelocprepExpiry (ue_at p x))

    pub start_few : (u : ℕ) → length (start u x).reports ≤ 288
    start_few u = bounded_places (start u x) (costs_start u)

    pub withdraw_few : (i : ℕ) → length (withdraw i x).reports ≤ 288
    withdraw_few i =
        let l = withdrawn (ticket_at i x) in
        let k = length-append (withdraw_of (ticket_at i x) x).reports [] in
        let w = h.connections in
        omega arith

-- the bound, of every pool
pub reports_within : (m : Radio) → ReportsWithin m
reports_within m = record { frame = handled_few; expiry = expires_few; start = start_few; withdraw = withdraw_few }
