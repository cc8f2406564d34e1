-- Refused calls: every reason that applies counts, and the first of the order in which they are listed wins.
-- That order is the order of the numbers, but it is given by the lists below and not by the numbers,
-- so that a reason with a new number can stand between two old ones.
use Rattle.std.specs.Prelude.{ℕ, Bool, false, cond, not, ◌&&◌, ◌||◌, List, [], ◌∷◌, Some, None, Ok, Err, Option, Result, ◌==◌, nat_le, nat_lt}
use Rattle.rules.specs.Radio.{Radio}
use Rattle.rules.specs.Numbers.{domain_number, domain_of, timer_of}
use Rattle.rules.specs.State.{State}
use Rattle.rules.specs.Tables.{is_some}
use Rattle.rules.specs.Connections.{closed, preparing, relocating, of_ue, any_connection, state_at}
use Rattle.rules.specs.Timers.{timer_runs}
use Rattle.rules.specs.Message.{Message, place_of, wants_preparing}
use Rattle.rules.specs.Relocation.{ticket_at, ticket_of, free_ticket, ready}
use Rattle.rules.specs.declared.connection.TicketId.{TicketId}
use Rattle.rules.specs.declared.connection.TicketRecord.{TicketRecord}
use Rattle.rules.specs.declared.refusal.Reason.{Reason}
use Rattle.rules.specs.declared.refusal.Reason.TheVariants as reason
use Rattle.rules.specs.declared.refusal.Refusal.{Refusal}

-- a refusal, with the place that the call names, or 0
abbrev pub refusal : Reason → ℕ → Refusal
refusal r p = record { reason = r; place = p }

-- reasons in their order, each with the test whether it applies: the first that does
abbrev pub first_reason : List (Bool × Reason) → ℕ → Option Refusal
first_reason [] p = None
first_reason (r ∷ rs) p = cond r.0 (Some (refusal r.1 p)) (first_reason rs p)

-- a report list of under 288 records
abbrev pub short : ℕ → Bool
short n = nat_lt n 288

-- a short list wins over everything, and its place is 0
abbrev pub unless_short : ℕ → Option Refusal → Option Refusal
unless_short n o = cond (short n) (Some (refusal reason.ShortList 0)) o

-- some ticket is out and is the UE's
abbrev pub any_ticket : ℕ → List (Option TicketRecord) → Bool
any_ticket u [] = false
any_ticket u (t ∷ ts) = ticket_of u t || any_ticket u ts

module _ {m : Radio} where
  -- a place over 15, or closed
  abbrev pub bad_place : ℕ → State m → Bool
  bad_place p x = nat_lt 15 p || closed (state_at p x)

  -- a connection of the UE is preparing, prepared or executed
  abbrev pub ue_relocating : ℕ → State m → Bool
  ue_relocating u x = any_connection (λ c. of_ue u c && relocating c.state) x.connections

  -- open: place, UE, domain
  abbrev pub open_refusal : ℕ → ℕ → ℕ → State m → Option Refusal
  open_refusal p u d x =
      first_reason (
      (nat_lt 15 p, reason.BadPlace) ∷
      (not (closed (state_at p x)), reason.PlaceTaken) ∷
      (any_connection (λ c. of_ue u c && domain_number c.domain == d) x.connections, reason.DomainTaken) ∷
      (not (is_some (domain_of d)), reason.BadCode) ∷
      (ue_relocating u x, reason.UeRelocating) ∷
      []) p

  -- a message that names no RAB twice
  abbrev pub message_refusal : Message → State m → Option Refusal
  message_refusal g x =
      first_reason (
      (bad_place (place_of g) x, reason.BadPlace) ∷
      (wants_preparing g && not (preparing (state_at (place_of g) x)), reason.NotRunning) ∷
      []) (place_of g)

  -- what the reader and the message check refused, else what the controller has against the message
  abbrev pub received_refusal : Result Message Refusal → State m → Option Refusal
  received_refusal (Err f) x = Some f
  received_refusal (Ok g) x = message_refusal g x

  -- frame: length of the list, and what was received: a checked message, or a refusal
  abbrev pub frame_refusal : ℕ → Result Message Refusal → State m → Option Refusal
  frame_refusal n rd x = unless_short n (received_refusal rd x)

  -- expiry: length of the list, place, timer
  abbrev pub expiry_refusal : ℕ → ℕ → ℕ → State m → Option Refusal
  expiry_refusal n p t x =
      unless_short n (first_reason (
      (bad_place p x, reason.BadPlace) ∷
      (not (is_some (timer_of t)), reason.BadCode) ∷
      (not (timer_runs (timer_of t) p x), reason.NotRunning) ∷
      []) p)

  -- start: length of the list, UE
  abbrev pub start_refusal : ℕ → ℕ → State m → Option Refusal
  start_refusal n u x =
      unless_short n (first_reason (
      (ue_relocating u x, reason.UeRelocating) ∷
      (not (any_connection (of_ue u) x.connections), reason.UeAbsent) ∷
      (any_ticket u x.tickets, reason.TicketOut) ∷
      (nat_le 16 (free_ticket x), reason.TicketsGone) ∷
      []) 0)

  -- a ticket of another controller's number, or not out
  abbrev pub foreign : TicketId → State m → Bool
  foreign t x = not (t.controller == x.number) || not (is_some (ticket_at t.number x))

  -- execute: ticket
  abbrev pub execute_refusal : TicketId → State m → Option Refusal
  execute_refusal t x =
      first_reason (
      (foreign t x, reason.ForeignTicket) ∷
      (not (ready (ticket_at t.number x) x), reason.NotPrepared) ∷
      []) 0

  -- withdraw: length of the list, ticket
  abbrev pub withdraw_refusal : ℕ → TicketId → State m → Option Refusal
  withdraw_refusal n t x = unless_short n (first_reason ((foreign t x, reason.ForeignTicket) ∷ []) 0)

  -- question: place
  abbrev pub question_refusal : ℕ → State m → Option Refusal
  question_refusal p x = first_reason ((bad_place p x, reason.BadPlace) ∷ []) p
