-- Refused calls: of all reasons that apply, the one with the smallest number is given.
use Rattle.std.specs.Prelude.{◌≡◌, ℕ, ◌<◌, Bool, true, false, not, ◌&&◌, List, [], ◌∷◌, Some, None, Ok, Err, Option, Result, ◌==◌, nat_le, nat_lt}
use Rattle.rules.specs.Radio.{Radio}
use Rattle.rules.specs.Numbers.{reason_number, domain_number, domain_of, timer_of}
use Rattle.rules.specs.State.{State}
use Rattle.rules.specs.Tables.{is_some}
use Rattle.rules.specs.Connections.{closed, preparing, of_ue, any_connection, state_at}
use Rattle.rules.specs.Timers.{timer_runs}
use Rattle.rules.specs.Message.{Message, place_of, wants_preparing}
use Rattle.rules.specs.Frame.{received}
use Rattle.rules.specs.Relocation.{ticket_at, free_ticket, ready}
use Rattle.rules.specs.Refusals.{first_reason, short, any_ticket, bad_place, ue_relocating, foreign, open_refusal, frame_refusal, expiry_refusal, start_refusal, execute_refusal, withdraw_refusal, question_refusal}
use Rattle.rules.specs.declared.connection.TicketId.{TicketId}
use Rattle.rules.specs.declared.refusal.Reason.{Reason}
use Rattle.rules.specs.declared.refusal.Reason.TheVariants as reason
use Rattle.rules.specs.declared.refusal.Refusal.{Refusal}
use Rattle.laws.specs.Lists.{Among}

-- what a call may be refused for: reasons, each with whether it applies
abbrev pub Reasons : Type 0
Reasons = List (Bool × Reason)

-- a call is refused exactly if a reason applies, and then for the one with the smallest number
pub record SmallestWins (rs : Reasons) (o : Option Refusal) : Type 0 where
  -- the reason that is given applies
  pub applies : (f : Refusal) → o ≡ Some f → Among (true, f.reason) rs
  -- none with a smaller number does
  pub smallest : (f : Refusal) → o ≡ Some f → (r : Bool × Reason) → Among r rs → reason_number r.1 < reason_number f.reason → r.0 ≡ false
  -- where none is given, none applies
  pub accepted : o ≡ None → (r : Bool × Reason) → Among r rs → r.0 ≡ false

-- a reason has a smaller number than the first of a list
abbrev pub below : Bool × Reason → Reasons → Bool
below r [] = true
below r (s ∷ ss) = nat_lt (reason_number r.1) (reason_number s.1)

-- the reasons are listed by number, the smallest first
abbrev pub rising : Reasons → Bool
rising [] = true
rising (r ∷ rs) = below r rs && rising rs

-- whether the reader or the message check refused a frame for a reason
abbrev pub refused_for : Reason → Result Message Refusal → Bool
refused_for r (Ok g) = false
refused_for r (Err f) = reason_number f.reason == reason_number r

module _ {m : Radio} where
  -- a message that was received names a place over 15, or a closed one
  abbrev pub bad_place_of : Result Message Refusal → State m → Bool
  bad_place_of (Ok g) x = bad_place (place_of g) x
  bad_place_of (Err f) x = false

  -- a command or a failure for a connection that is not preparing
  abbrev pub out_of_turn : Result Message Refusal → State m → Bool
  out_of_turn (Ok g) x = wants_preparing g && not (preparing (state_at (place_of g) x))
  out_of_turn (Err f) x = false

  -- open: place, UE, domain
  abbrev pub open_reasons : ℕ → ℕ → ℕ → State m → Reasons
  open_reasons p u d x =
      (nat_lt 15 p, reason.BadPlace) ∷
      (not (closed (state_at p x)), reason.PlaceTaken) ∷
      (any_connection (λ c. of_ue u c && domain_number c.domain == d) x.connections, reason.DomainTaken) ∷
      (not (is_some (domain_of d)), reason.BadCode) ∷
      (ue_relocating u x, reason.UeRelocating) ∷
      []

  -- frame: length of the list, and what was received
  abbrev pub frame_reasons : ℕ → Result Message Refusal → State m → Reasons
  frame_reasons n rd x =
      (short n, reason.ShortList) ∷
      (refused_for reason.BrokenFrame rd, reason.BrokenFrame) ∷
      (refused_for reason.RepeatedRab rd, reason.RepeatedRab) ∷
      (bad_place_of rd x, reason.BadPlace) ∷
      (out_of_turn rd x, reason.NotRunning) ∷
      []

  -- expiry: length of the list, place, timer
  abbrev pub expiry_reasons : ℕ → ℕ → ℕ → State m → Reasons
  expiry_reasons n p t x =
      (short n, reason.ShortList) ∷
      (bad_place p x, reason.BadPlace) ∷
      (not (is_some (timer_of t)), reason.BadCode) ∷
      (not (timer_runs (timer_of t) p x), reason.NotRunning) ∷
      []

  -- start: length of the list, UE
  abbrev pub start_reasons : ℕ → ℕ → State m → Reasons
  start_reasons n u x =
      (short n, reason.ShortList) ∷
      (ue_relocating u x, reason.UeRelocating) ∷
      (not (any_connection (of_ue u) x.connections), reason.UeAbsent) ∷
      (any_ticket u x.tickets, reason.TicketOut) ∷
      (nat_le 16 (free_ticket x), reason.TicketsGone) ∷
      []

  -- execute: ticket
  abbrev pub execute_reasons : TicketId → State m → Reasons
  execute_reasons t x =
      (foreign t x, reason.ForeignTicket) ∷
      (not (ready (ticket_at t.number x) x), reason.NotPrepared) ∷
      []

  -- withdraw: length of the list, ticket
  abbrev pub withdraw_reasons : ℕ → TicketId → State m → Reasons
  withdraw_reasons n t x =
      (short n, reason.ShortList) ∷
      (foreign t x, reason.ForeignTicket) ∷
      []

  -- question: place
  abbrev pub question_reasons : ℕ → State m → Reasons
  question_reasons p x = (bad_place p x, reason.BadPlace) ∷ []

-- refusals over a kind of pool, in every state
pub record SmallestReasonWins (m : Radio) : Type 0 where
  -- the first that applies, of any reasons listed by number
  pub listed : (rs : Reasons) (p : ℕ) → rising rs ≡ true → SmallestWins rs (first_reason rs p)
  -- so it is for each call and for the question
  pub opens : (p u d : ℕ) (x : State m) → SmallestWins (open_reasons p u d x) (open_refusal p u d x)
  pub frames : (n : ℕ) (bs : List ℕ) (x : State m) → SmallestWins (frame_reasons n (received bs) x) (frame_refusal n (received bs) x)
  pub expiries : (n p t : ℕ) (x : State m) → SmallestWins (expiry_reasons n p t x) (expiry_refusal n p t x)
  pub starts : (n u : ℕ) (x : State m) → SmallestWins (start_reasons n u x) (start_refusal n u x)
  pub executes : (t : TicketId) (x : State m) → SmallestWins (execute_reasons t x) (execute_refusal t x)
  pub withdraws : (n : ℕ) (t : TicketId) (x : State m) → SmallestWins (withdraw_reasons n t x) (withdraw_refusal n t x)
  pub questions : (p : ℕ) (x : State m) → SmallestWins (question_reasons p x) (question_refusal p x)
