-- A run: a list of calls, what the controller answers and reports to each, and the state at the end.
use Rattle.std.specs.Prelude.{ℕ, Bool, List, [], ◌∷◌, Result}
use Rattle.rules.specs.Radio.{Radio}
use Rattle.rules.specs.State.{State, Outcome}
use Rattle.rules.specs.Frame.{received}
use Rattle.rules.specs.Calls.{open_outcome, open_answer, frame_outcome, frame_answer, expiry_outcome, expiry_answer, start_outcome, start_answer, execute_outcome, execute_answer, withdraw_outcome, withdraw_answer}
use Rattle.rules.specs.declared.connection.TicketId.{TicketId}
use Rattle.rules.specs.declared.refusal.Refusal.{Refusal}
use Rattle.rules.specs.declared.report.Report.{Report}

-- a call with all its arguments: of a report list its length, of a ticket its two numbers
pub data Call : Type 0 where
  -- place, UE, code of the domain
  to_open : ℕ → ℕ → ℕ → Call
  -- length of the list, bytes of the frame
  to_frame : ℕ → List ℕ → Call
  -- length of the list, place, code of the timer
  to_expiry : ℕ → ℕ → ℕ → Call
  -- length of the list, UE
  to_start : ℕ → ℕ → Call
  -- ticket
  to_execute : TicketId → Call
  -- length of the list, ticket
  to_withdraw : ℕ → TicketId → Call

-- what a call answers
pub data Answer : Type 0 where
  -- nothing more than that it was accepted
  of_open : Result (Unit {0}) Refusal → Answer
  -- the count of the reports
  of_frame : Result ℕ Refusal → Answer
  -- the count of the reports
  of_expiry : Result ℕ Refusal → Answer
  -- the ticket and the count of the reports
  of_start : Result (TicketId × ℕ) Refusal → Answer
  -- nothing more than that it was accepted
  of_execute : Result (Unit {0}) Refusal → Answer
  -- whether the relocation ran, and the count of the reports
  of_withdraw : Result (Bool × ℕ) Refusal → Answer

-- an entry of the log: a call with its answer and its counted reports
pub record Entry : Type 0 where
  -- the call with its arguments
  pub call : Call
  -- what it answered
  pub answer : Answer
  -- the reports that it counted, in their order
  pub reports : List Report

module _ {m : Radio} where
  -- what the controller answers to a call
  abbrev pub answered : Call → State m → Answer
  answered (to_open p u d) x = of_open (open_answer p u d x)
  answered (to_frame n bs) x = of_frame (frame_answer n (received bs) x)
  answered (to_expiry n p t) x = of_expiry (expiry_answer n p t x)
  answered (to_start n u) x = of_start (start_answer n u x)
  answered (to_execute t) x = of_execute (execute_answer t x)
  answered (to_withdraw n t) x = of_withdraw (withdraw_answer n t x)

  -- what the controller reports to a call, and its state after it
  abbrev pub step : Call → State m → Outcome m
  step (to_open p u d) x = open_outcome p u d x
  step (to_frame n bs) x = frame_outcome n (received bs) x
  step (to_expiry n p t) x = expiry_outcome n p t x
  step (to_start n u) x = start_outcome n u x
  step (to_execute t) x = execute_outcome t x
  step (to_withdraw n t) x = withdraw_outcome n t x

  -- the entry that a call makes in the log
  abbrev pub entry : Call → State m → Entry
  entry c x = record { call = c; answer = answered c x; reports = (step c x).reports }

  -- the log of a run from a state
  abbrev pub log : List Call → State m → List Entry
  log [] x = []
  log (c ∷ cs) x = entry c x ∷ log cs (step c x).state

  -- the state at the end of a run
  abbrev pub end : List Call → State m → State m
  end [] x = x
  end (c ∷ cs) x = end cs (step c x).state
