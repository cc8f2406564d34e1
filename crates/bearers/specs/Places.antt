-- The connection places and the tickets as lists.
use Rattle.std.specs.Prelude.{List, Option}
use Rattle.rules.specs.declared.connection.Connection.{Connection}
use Rattle.rules.specs.declared.connection.TicketRecord.{TicketRecord}
use Rattle.bearers.specs.declared.connections.Connections.{Connections}
use Rattle.bearers.specs.declared.tickets.Tickets.{Tickets}

-- what stands at the places 0 to 15
abbrev pub connections_of : Connections → List Connection
connections_of t = t.all

-- the tickets 0 to 15, those that are out
abbrev pub tickets_of : Tickets → List (Option TicketRecord)
tickets_of t = t.all
