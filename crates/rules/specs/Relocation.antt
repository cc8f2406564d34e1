-- Relocation: how one starts, is commanded, ends and is executed.
use Rattle.std.specs.Prelude.{ℕ, Bool, true, false, cond, not, ◌&&◌, List, map, Some, None, filter, Option, ◌==◌, slice_index_or, slice_set}
use Rattle.rules.specs.Radio.{Radio}
use Rattle.rules.specs.State.{State, Outcome, silent, then, at_connections, at_tickets}
use Rattle.rules.specs.Tables.{is_some, first_from}
use Rattle.rules.specs.Connections.{of_ue, changed, reopened, at_place, places_of, moved_to, prepared, each_of_ue}
use Rattle.rules.specs.Actions.{report, fail_all}
use Rattle.rules.specs.declared.bearer.Request.{Request}
use Rattle.rules.specs.declared.connection.ConnectionState.TheVariants.{Preparing, Prepared, Executed}
use Rattle.rules.specs.declared.connection.TicketRecord.{TicketRecord}
use Rattle.rules.specs.declared.report.Report.{Report}
use Rattle.rules.specs.declared.report.Cause.{Cause}
use Rattle.rules.specs.declared.report.ReportKind.TheVariants as kind
use Rattle.rules.specs.declared.report.Cause.TheVariants as cause

-- kind 8 and kind 9 have RAB ID 0
abbrev pub required : ℕ → Report
required p = report kind.RelocationRequired p 0 cause.NoCause

-- kind 9 at a place
abbrev pub cancel : Cause → ℕ → Report
cancel c p = report kind.RelocationCancel p 0 c

-- whether a ticket is out and is a UE's
abbrev pub ticket_of : ℕ → Option TicketRecord → Bool
ticket_of u None = false
ticket_of u (Some t) = t.ue == u

-- a ticket whose relocation has ended if it is the UE's
abbrev pub stopped : ℕ → Option TicketRecord → Option TicketRecord
stopped u None = None
stopped u (Some t) = Some (cond (t.ue == u) (record { ue = t.ue; running = false }) t)

-- whether a ticket's relocation runs
abbrev pub runs : Option TicketRecord → Bool
runs None = false
runs (Some t) = t.running

-- all places but one
abbrev pub others : ℕ → List ℕ → List ℕ
others p ps = filter (λ k. not (k == p)) ps

module _ {m : Radio} where
  -- what the controller keeps of a ticket's number
  abbrev pub ticket_at : ℕ → State m → Option TicketRecord
  ticket_at i x = slice_index_or x.tickets i None

  -- the smallest number that no ticket out has
  abbrev pub free_ticket : State m → ℕ
  free_ticket x = first_from (λ i. not (is_some (ticket_at i x))) 0 16

  -- a UE's relocation has ended: its connections are open, its ticket still out
  abbrev pub ended : ℕ → State m → State m
  ended u x = at_tickets (at_connections x (changed u reopened x.connections)) (map (stopped u) x.tickets)

  -- a request on a connection of the UE
  abbrev pub asked_by : ℕ → State m → Request → Bool
  asked_by u x q = of_ue u (at_place q.place x)

  -- its connections are preparing and its ticket is out, under the smallest number
  abbrev pub relocation_runs : ℕ → State m → State m
  relocation_runs u x =
      at_tickets (at_connections x (changed u (λ _. Preparing) x.connections)) (slice_set x.tickets (free_ticket x) (Some (record { ue = u; running = true })))

  -- waiting requests fail with cause 3, by arrival; then kind 8 on each connection by place
  unfoldable pub start : ℕ → State m → Outcome m
  start u x = then (fail_all cause.RelocationTriggered (asked_by u x) x) (λ y. record { reports = map required (places_of u y); state = relocation_runs u y })

  -- a RELOCATION COMMAND makes a connection prepared
  abbrev pub commanded : ℕ → State m → Outcome m
  commanded p x = silent (at_connections x (slice_set x.connections p (moved_to Prepared (at_place p x))))

  -- the UE at a place
  abbrev pub ue_at : ℕ → State m → ℕ
  ue_at p x = (at_place p x).ue

  -- a failure ends the relocation, with kind 9, cause 5, on the ticket's other connection
  abbrev pub failure : ℕ → State m → Outcome m
  failure p x = record { reports = map (cancel cause.RelocationCancelled) (others p (places_of (ue_at p x) x)); state = ended (ue_at p x) x }

  -- a relocation ends with kind 9 on each of its connections by place
  abbrev pub cancel_all : Cause → ℕ → State m → Outcome m
  cancel_all c u x = record { reports = map (cancel c) (places_of u x); state = ended u x }

  -- TRELOCprep has run out
  abbrev pub preparation_expires : ℕ → State m → Outcome m
  preparation_expires p x = cancel_all cause.TrelocprepExpiry (ue_at p x) x

  -- a ticket is given back
  abbrev pub give_back : ℕ → State m → State m
  give_back i x = at_tickets x (slice_set x.tickets i None)

  -- whether each connection of a ticket is prepared and its relocation has not ended
  abbrev pub ready : Option TicketRecord → State m → Bool
  ready None x = false
  ready (Some t) x = t.running && each_of_ue t.ue prepared x.connections

  -- the ticket's connections are executed
  abbrev pub execute_of : Option TicketRecord → State m → State m
  execute_of None x = x
  execute_of (Some t) x = at_connections x (changed t.ue (λ _. Executed) x.connections)

  -- a ticket is executed, and given back
  abbrev pub execute : ℕ → State m → State m
  execute i x = give_back i (execute_of (ticket_at i x) x)

  -- what runs is called off with cause 5
  abbrev pub withdraw_of : Option TicketRecord → State m → Outcome m
  withdraw_of None x = silent x
  withdraw_of (Some t) x = cond t.running (cancel_all cause.RelocationCancelled t.ue x) (silent x)

  -- a ticket is withdrawn, and given back
  abbrev pub withdraw : ℕ → State m → Outcome m
  withdraw i x = then (withdraw_of (ticket_at i x) x) (λ y. silent (give_back i y))
