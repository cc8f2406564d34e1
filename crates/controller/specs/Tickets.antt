-- Tickets as values: what they are known by, and the answers that carry them.
use Rattle.std.specs.Prelude.{ℕ, Ok, Err, Result}
use Rattle.rules.specs.declared.connection.TicketId.{TicketId}
use Rattle.rules.specs.declared.refusal.Refusal.{Refusal}
use Rattle.controller.specs.declared.ticket.Ticket.{Ticket}

-- the number of its controller and its own
abbrev pub id_of : Ticket → TicketId
id_of t = t.id

-- what a start answers, with its ticket by what that is known by
abbrev pub by_id : Result (Ticket × ℕ) Refusal → Result (TicketId × ℕ) Refusal
by_id (Ok a) = Ok (id_of a.0, a.1)
by_id (Err f) = Err f

-- a refusal hands the very ticket back
abbrev pub handing_back : {A : Type 0} → Ticket → Result A Refusal → Result A (Ticket × Refusal)
handing_back t (Ok a) = Ok a
handing_back t (Err f) = Err (t, f)
