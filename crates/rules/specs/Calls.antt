-- The six calls and the question: what is answered, reported and changed, for every input.
use Rattle.std.specs.Prelude.{ℕ, zero, suc, Bool, true, false, [], length, replicate, Some, None, Ok, Err, Option, Result, slice_set}
use Rattle.rules.specs.Radio.{Radio, after_give}
use Rattle.rules.specs.State.{State, Outcome, silent, at_connections}
use Rattle.rules.specs.Tables.{is_some, set_up_as, waits_as}
use Rattle.rules.specs.Connections.{vacant}
use Rattle.rules.specs.Events.{handled}
use Rattle.rules.specs.Timers.{expires}
use Rattle.rules.specs.Numbers.{domain_of, timer_of}
use Rattle.rules.specs.Message.{Message}
use Rattle.rules.specs.Relocation.{start, execute, withdraw, ticket_at, free_ticket, runs}
use Rattle.rules.specs.Refusals.{open_refusal, frame_refusal, expiry_refusal, start_refusal, execute_refusal, withdraw_refusal, question_refusal}
use Rattle.rules.specs.declared.bearer.Bearer.{Bearer}
use Rattle.rules.specs.declared.bearer.RabState.{RabState}
use Rattle.rules.specs.declared.bearer.RabState.TheVariants.{Unknown, Waiting, SetUp, SetUpWaiting}
use Rattle.rules.specs.declared.connection.ConnectionState.TheVariants.{Open}
use Rattle.rules.specs.declared.connection.Domain.{Domain}
use Rattle.rules.specs.declared.connection.TicketId.{TicketId}
use Rattle.rules.specs.declared.refusal.Refusal.{Refusal}

-- what a call answers: its refusal, or what it has to say
abbrev pub answer : {A : Type 0} → Option Refusal → A → Result A Refusal
answer None a = Ok a
answer (Some f) a = Err f

-- what a RAB's question is told, by whether it waits and how it is set up
abbrev pub rab_state : Bool → Option ℕ → RabState
rab_state false None = Unknown
rab_state true None = Waiting
rab_state false (Some s) = SetUp s
rab_state true (Some s) = SetUpWaiting s

-- the size in use, if the RAB is set up
abbrev pub size_in_use : Option Bearer → Option ℕ
size_in_use None = None
size_in_use (Some b) = Some b.size

module _ {m : Radio} where
  -- a refusal leaves the state and reports nothing
  abbrev pub unless_refused : Option Refusal → Outcome m → State m → Outcome m
  unless_refused None o x = o
  unless_refused (Some f) o x = silent x

  -- the place gets an open connection of the UE in a domain
  abbrev pub opens : Option Domain → ℕ → ℕ → State m → Outcome m
  opens None p u x = silent x
  opens (Some d) p u x = silent (at_connections x (slice_set x.connections p (record { state = Open; ue = u; domain = d })))

  -- open: place, UE, code of the domain
  abbrev pub open_outcome : ℕ → ℕ → ℕ → State m → Outcome m
  open_outcome p u d x = unless_refused (open_refusal p u d x) (opens (domain_of d) p u x) x

  -- open answers nothing but that it was obeyed
  abbrev pub open_answer : ℕ → ℕ → ℕ → State m → Result (Unit {0}) Refusal
  open_answer p u d x = answer (open_refusal p u d x) tt

  -- what a received frame does; one that was refused does nothing
  abbrev pub handled_of : Result Message Refusal → State m → Outcome m
  handled_of (Err f) x = silent x
  handled_of (Ok g) x = handled g x

  -- frame: length of the list, and what was received
  abbrev pub frame_outcome : ℕ → Result Message Refusal → State m → Outcome m
  frame_outcome n rd x = unless_refused (frame_refusal n rd x) (handled_of rd x) x

  -- frame answers the count of its reports
  abbrev pub frame_answer : ℕ → Result Message Refusal → State m → Result ℕ Refusal
  frame_answer n rd x = answer (frame_refusal n rd x) (length (frame_outcome n rd x).reports)

  -- expiry: length of the list, place, code of the timer
  abbrev pub expiry_outcome : ℕ → ℕ → ℕ → State m → Outcome m
  expiry_outcome n p t x = unless_refused (expiry_refusal n p t x) (expires (timer_of t) p x) x

  -- expiry answers the count of its reports
  abbrev pub expiry_answer : ℕ → ℕ → ℕ → State m → Result ℕ Refusal
  expiry_answer n p t x = answer (expiry_refusal n p t x) (length (expiry_outcome n p t x).reports)

  -- the ticket that a start hands out
  abbrev pub next_ticket : State m → TicketId
  next_ticket x = record { controller = x.number; number = free_ticket x }

  -- start: length of the list, UE
  abbrev pub start_outcome : ℕ → ℕ → State m → Outcome m
  start_outcome n u x = unless_refused (start_refusal n u x) (start u x) x

  -- start answers the ticket and the count of its reports
  abbrev pub start_answer : ℕ → ℕ → State m → Result (TicketId × ℕ) Refusal
  start_answer n u x = answer (start_refusal n u x) (next_ticket x, length (start_outcome n u x).reports)

  -- execute: the ticket; it reports nothing
  abbrev pub execute_outcome : TicketId → State m → Outcome m
  execute_outcome t x = unless_refused (execute_refusal t x) (silent (execute t.number x)) x

  -- a refusal hands the ticket back
  abbrev pub execute_answer : TicketId → State m → Result (Unit {0}) Refusal
  execute_answer t x = answer (execute_refusal t x) tt

  -- withdraw: length of the list, ticket
  abbrev pub withdraw_outcome : ℕ → TicketId → State m → Outcome m
  withdraw_outcome n t x = unless_refused (withdraw_refusal n t x) (withdraw t.number x) x

  -- whether the relocation ran, and the count
  abbrev pub withdraw_answer : ℕ → TicketId → State m → Result (Bool × ℕ) Refusal
  withdraw_answer n t x = answer (withdraw_refusal n t x) (runs (ticket_at t.number x), length (withdraw_outcome n t x).reports)

  -- the question for the RAB at a place
  abbrev pub question : ℕ → ℕ → State m → Result RabState Refusal
  question p r x =
      answer (question_refusal p x) (rab_state (is_some (waits_as p r x.queue)) (size_in_use (set_up_as p r x.bearers)))

-- the grants below n given back, from 0 upward
unfoldable pub given_back : (m : Radio) → ℕ → m.State → m.State
given_back m zero y = y
given_back m (suc n) y = after_give m (given_back m n y) n

-- a new controller, which first gives back every grant that its pool holds
abbrev pub new_state : (m : Radio) → ℕ → m.State → State m
new_state m k y = record {
  number = k;
  connections = replicate 16 vacant;
  bearers = [];
  queue = [];
  tickets = replicate 16 None;
  pool = given_back m 64 y;
}
