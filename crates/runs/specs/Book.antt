-- The book of a run. It sees the arguments, the answers and the counted reports, and never the controller's state.
use Rattle.std.specs.Prelude.{Bool, true, false, cond, List, [], ◌∷◌, Some, None, Ok, Err, Option, Result, ◌==◌}
use Rattle.rules.specs.Message.{Message, rab_assignment_request, iu_release_command, relocation_command, relocation_preparation_failure}
use Rattle.rules.specs.Frame.{received}
use Rattle.rules.specs.declared.connection.TicketId.{TicketId}
use Rattle.rules.specs.declared.refusal.Refusal.{Refusal}
use Rattle.rules.specs.declared.report.Report.{Report}
use Rattle.runs.specs.Runs.{Call, to_open, to_frame, to_expiry, to_start, to_execute, to_withdraw, Answer, of_open, of_frame, of_expiry, of_start, of_execute, of_withdraw, Entry}
use Rattle.runs.specs.Ledger.{Ledger, no_rabs, take_reports, count_requests}
use Rattle.runs.specs.Tickets.{Tickets, no_tickets, command_at, loss_at, hand_out, take_back}

-- an account kept beside the controller
pub record Book : Type 0 where
  -- what was noted of RABs
  pub rabs : Ledger
  -- what was noted of tickets
  pub tickets : Tickets

-- the book is empty at first
abbrev pub blank : Book
blank = record { rabs = no_rabs; tickets = no_tickets }

-- whether there is a result, and no refusal
abbrev pub is_ok : {X Y : Type 0} → Result X Y → Bool
is_ok (Ok a) = true
is_ok (Err f) = false

-- whether a call was accepted, by its answer
abbrev pub accepted : Answer → Bool
accepted (of_open r) = is_ok r
accepted (of_frame r) = is_ok r
accepted (of_expiry r) = is_ok r
accepted (of_start r) = is_ok r
accepted (of_execute r) = is_ok r
accepted (of_withdraw r) = is_ok r

-- the ticket that an accepted start answers
abbrev pub ticket_answered : Answer → Option TicketId
ticket_answered (of_open r) = None
ticket_answered (of_frame r) = None
ticket_answered (of_expiry r) = None
ticket_answered (of_start r) = elim r [ Ok a ↦ Some a.0 | Err f ↦ None ]
ticket_answered (of_execute r) = None
ticket_answered (of_withdraw r) = None

-- what an accepted frame means for the RABs: kind 1 makes requests, and then all have their reports taken
abbrev pub rabs_handled : Message → List Report → Ledger → Ledger
rabs_handled (rab_assignment_request p is) rs b = take_reports p is rs (count_requests p is b)
rabs_handled (iu_release_command p) rs b = take_reports p [] rs b
rabs_handled (relocation_command p) rs b = take_reports p [] rs b
rabs_handled (relocation_preparation_failure p) rs b = take_reports p [] rs b

-- what an accepted frame means for the tickets: kind 3 is a command, kind 4 a failure, kind 2 a release
abbrev pub tickets_handled : Message → Tickets → Tickets
tickets_handled (rab_assignment_request p is) b = b
tickets_handled (iu_release_command p) b = loss_at p b
tickets_handled (relocation_command p) b = command_at p b
tickets_handled (relocation_preparation_failure p) b = loss_at p b

-- the same for the RABs, of what its bytes say
abbrev pub rabs_received : Result Message Refusal → List Report → Ledger → Ledger
rabs_received (Err f) rs b = b
rabs_received (Ok g) rs b = rabs_handled g rs b

-- the same for the tickets, of what its bytes say
abbrev pub tickets_received : Result Message Refusal → Tickets → Tickets
tickets_received (Err f) b = b
tickets_received (Ok g) b = tickets_handled g b

-- what an accepted call means for the RABs; but for a frame there are no items
abbrev pub note_rabs : Call → List Report → Ledger → Ledger
note_rabs (to_open p u d) rs b = take_reports 0 [] rs b
note_rabs (to_frame n bs) rs b = rabs_received (received bs) rs b
note_rabs (to_expiry n p t) rs b = take_reports 0 [] rs b
note_rabs (to_start n u) rs b = take_reports 0 [] rs b
note_rabs (to_execute t) rs b = take_reports 0 [] rs b
note_rabs (to_withdraw n t) rs b = take_reports 0 [] rs b

-- the ticket that a start answers goes out
abbrev pub start_noted : Option TicketId → List Report → Tickets → Tickets
start_noted None rs b = b
start_noted (Some t) rs b = hand_out t rs b

-- what an accepted call means for the tickets; an expiry of timer 2 is a running out
abbrev pub note_tickets : Call → Answer → List Report → Tickets → Tickets
note_tickets (to_open p u d) a rs b = b
note_tickets (to_frame n bs) a rs b = tickets_received (received bs) b
note_tickets (to_expiry n p t) a rs b = cond (t == 2) (loss_at p b) b
note_tickets (to_start n u) a rs b = start_noted (ticket_answered a) rs b
note_tickets (to_execute t) a rs b = take_back t b
note_tickets (to_withdraw n t) a rs b = take_back t b

-- one entry of the log is noted; a refused call changes nothing
abbrev pub note : Entry → Book → Book
note e b =
    let after : Book = record { rabs = note_rabs e.call e.reports b.rabs; tickets = note_tickets e.call e.answer e.reports b.tickets } in
    cond (accepted e.answer) after b

-- a book, with the entries of a log noted in their order
abbrev pub book : List Entry → Book → Book
book [] b = b
book (e ∷ es) b = book es (note e b)
