-- The state of a controller over any radio pool, and what an action gives: reports, and the state after it.
use Rattle.std.specs.Prelude.{ℕ, List, [], ◌∷◌, ◌++◌, Option}
use Rattle.rules.specs.Radio.{Radio}
use Rattle.rules.specs.declared.bearer.Bearer.{Bearer}
use Rattle.rules.specs.declared.bearer.Request.{Request}
use Rattle.rules.specs.declared.connection.Connection.{Connection}
use Rattle.rules.specs.declared.connection.TicketRecord.{TicketRecord}
use Rattle.rules.specs.declared.report.Report.{Report}

-- everything that a controller knows
pub record State (m : Radio) : Type 0 where
  pub number : ℕ
  -- places 0 to 15
  pub connections : List Connection
  -- set-up RABs by place and RAB ID
  pub bearers : List Bearer
  -- waiting requests by arrival
  pub queue : List Request
  -- tickets 0 to 15, those that are out
  pub tickets : List (Option TicketRecord)
  pub pool : m.State

-- what is reported, in order, and the state after it
pub record Outcome (m : Radio) : Type 0 where
  pub reports : List Report
  pub state : State m

module _ {m : Radio} where
  -- nothing is reported
  abbrev pub silent : State m → Outcome m
  silent x = record { reports = []; state = x }

  -- one thing is reported
  abbrev pub tell : Report → State m → Outcome m
  tell r x = record { reports = r ∷ []; state = x }

  -- one thing after the other
  abbrev pub then : Outcome m → (State m → Outcome m) → Outcome m
  then o f = let p = f o.state in record { reports = o.reports ++ p.reports; state = p.state }

  -- the same for each of a list, in its order
  abbrev pub each : {X : Type 0} → (X → State m → Outcome m) → List X → State m → Outcome m
  each f [] x = silent x
  each f (a ∷ as') x = then (f a x) (each f as')

  -- the state with other connections
  abbrev pub at_connections : State m → List Connection → State m
  at_connections x v = record { number = x.number; connections = v; bearers = x.bearers; queue = x.queue; tickets = x.tickets; pool = x.pool }

  -- the state with another table of set-up RABs
  abbrev pub at_bearers : State m → List Bearer → State m
  at_bearers x v = record { number = x.number; connections = x.connections; bearers = v; queue = x.queue; tickets = x.tickets; pool = x.pool }

  -- the state with another queue
  abbrev pub at_queue : State m → List Request → State m
  at_queue x v = record { number = x.number; connections = x.connections; bearers = x.bearers; queue = v; tickets = x.tickets; pool = x.pool }

  -- the state with another ticket table
  abbrev pub at_tickets : State m → List (Option TicketRecord) → State m
  at_tickets x v = record { number = x.number; connections = x.connections; bearers = x.bearers; queue = x.queue; tickets = v; pool = x.pool }

  -- the state with another pool state
  abbrev pub at_pool : State m → m.State → State m
  at_pool x v = record { number = x.number; connections = x.connections; bearers = x.bearers; queue = x.queue; tickets = x.tickets; pool = v }
