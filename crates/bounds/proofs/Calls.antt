-- The bound of 288 reports for the calls as they are answered, refused ones too.
use Rattle.std.proofs.Common.{◌≡◌, ℕ, ◌≤◌, List, length, Some, None, Ok, Err, Option, Result, refl, arith}
use Rattle.rules.specs.Radio.{Radio}
use Rattle.rules.specs.State.{State, Outcome, silent}
use Rattle.rules.specs.Message.{Message, items_of}
use Rattle.rules.specs.Frame.{received}
use Rattle.rules.specs.Numbers.{domain_of, timer_of}
use Rattle.rules.specs.Timers.{expires}
use Rattle.rules.specs.Relocation.{start, execute, withdraw}
use Rattle.rules.specs.Refusals.{open_refusal, frame_refusal, expiry_refusal, start_refusal, execute_refusal, withdraw_refusal}
use Rattle.rules.specs.Calls.{unless_refused, opens, handled_of, open_outcome, frame_outcome, expiry_outcome, start_outcome, execute_outcome, withdraw_outcome}
use Rattle.rules.specs.declared.connection.Domain.{Domain}
use Rattle.rules.specs.declared.connection.TicketId.{TicketId}
use Rattle.rules.specs.declared.refusal.Refusal.{Refusal}
use Rattle.bounds.specs.Weights.{Small}
use Rattle.bounds.proofs.Frames.{received_few}
use Rattle.bounds.proofs.Bound.{handled_few, expires_few, start_few, withdraw_few}

module _ {m : Radio} (x : State m) where
  -- a refused call reports nothing
  unless_few : (f : Option Refusal) (o : Outcome m) → length o.reports ≤ 288 → length (unless_refused f o x).reports ≤ 288
  unless_few None o l = l
  unless_few (Some f) o l = omega arith

  opens_few : (d : Option Domain) (p u : ℕ) → length (opens d p u x).reports ≤ 288
  opens_few None p u = omega arith
  opens_few (Some d) p u = omega arith

  pub open_within : (p u d : ℕ) → length (open_outcome p u d x).reports ≤ 288
  open_within p u d = unless_few (open_refusal p u d x) (opens (domain_of d) p u x) (opens_few (domain_of d) p u)

  pub execute_within : (t : TicketId) → length (execute_outcome t x).reports ≤ 288
  execute_within t = unless_few (execute_refusal t x) (silent (execute t.number x)) (omega arith)

  module _ (h : Small x) where
    handled_of_few : (rd : Result Message Refusal) → ((g : Message) → rd ≡ Ok g → length (items_of g) ≤ 32) → length (handled_of rd x).reports ≤ 288
    handled_of_few (Err f) l = omega arith
    handled_of_few (Ok g) l = handled_few x h g (l g refl)

    pub frame_within : (n : ℕ) (bs : List ℕ) → length (frame_outcome n (received bs) x).reports ≤ 288
    frame_within n bs = unless_few (frame_refusal n (received bs) x) (handled_of (received bs) x) (handled_of_few (received bs) (received_few bs))

    pub expiry_within : (n p t : ℕ) → length (expiry_outcome n p t x).reports ≤ 288
    expiry_within n p t = unless_few (expiry_refusal n p t x) (expires (timer_of t) p x) (expires_few x h (timer_of t) p)

    pub start_within : (n u : ℕ) → length (start_outcome n u x).reports ≤ 288
    start_within n u = unless_few (start_refusal n u x) (start u x) (start_few x h u)

    pub withdraw_within : (n : ℕ) (t : TicketId) → length (withdraw_outcome n t x).reports ≤ 288
    withdraw_within n t = unless_few (withdraw_refusal n t x) (withdraw t.number x) (withdraw_few x h t.number)
