-- The tickets that are held beside a controller: one for each number that is out.
use Rattle.std.specs.Prelude.{◌≡◌, ℕ, cond, List, Some, None, Option, slice_index_or}
use Rattle.std.specs.Option.{option_map}
use Rattle.bearers.specs.Places.{tickets_of}
use Rattle.controller.specs.Tickets.{id_of}
use Rattle.controller.specs.declared.controller.Controller.{Controller}
use Rattle.controller.specs.declared.ticket.Ticket.{Ticket}
use Rattle.rules.specs.Tables.{is_some}
use Rattle.rules.specs.declared.connection.TicketId.{TicketId}
use Rattle.rules.specs.declared.connection.TicketRecord.{TicketRecord}

-- what the ticket held under a number is known by, if there is one
abbrev pub held_as : List (Option Ticket) → ℕ → Option TicketId
held_as ts i = option_map id_of (slice_index_or ts i None)

-- what a ticket is known by, if it is out under a number
abbrev pub out_as : ℕ → List (Option TicketRecord) → ℕ → Option TicketId
out_as k ts i = cond (is_some (slice_index_or ts i None)) (Some (record { controller = k; number = i })) None

-- the tickets held are those that are out
abbrev pub HoldsAll : {P : Type 0} → List (Option Ticket) → Controller P → Type 0
HoldsAll ts c = (i : ℕ) → held_as ts i ≡ out_as c.number (tickets_of c.tickets) i
