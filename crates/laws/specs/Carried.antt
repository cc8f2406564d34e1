-- The states of one pool carried into another, which answers there as the one did: so does the controller over it.
use Rattle.std.specs.Prelude.{◌≡◌, ℕ, Bool, Result}
use Rattle.rules.specs.Radio.{Radio, after_take, after_give}
use Rattle.rules.specs.State.{State, Outcome}
use Rattle.rules.specs.Message.{Message}
use Rattle.rules.specs.Calls.{open_answer, open_outcome, frame_answer, frame_outcome, expiry_answer, expiry_outcome, start_answer, start_outcome, execute_answer, execute_outcome, withdraw_answer, withdraw_outcome, question, new_state}
use Rattle.rules.specs.declared.connection.TicketId.{TicketId}
use Rattle.rules.specs.declared.refusal.Refusal.{Refusal}

module _ (own whole : Radio) (into : own.State → whole.State) where
  -- a controller's state with its pool carried, all else being as it is
  abbrev pub carried : State own → State whole
  carried x = record { number = x.number; connections = x.connections; bearers = x.bearers; queue = x.queue; tickets = x.tickets; pool = into x.pool }

  -- the same reports, and the state carried
  abbrev pub carried_outcome : Outcome own → Outcome whole
  carried_outcome o = record { reports = o.reports; state = carried o.state }

  -- a carried pool answers as it did, and what a take and a give leave is carried too
  pub record PoolsAlike : Type 0 where
    pub held : (y : own.State) (g : ℕ) → whole.holds (into y) g ≡ own.holds y g
    pub admitted : (y : own.State) (n : ℕ → Bool) (s : ℕ) → whole.admits (into y) n s ≡ own.admits y n s
    pub take_leaves : (y : own.State) (g s : ℕ) → after_take whole (into y) g s ≡ into (after_take own y g s)
    pub give_leaves : (y : own.State) (g : ℕ) → after_give whole (into y) g ≡ into (after_give own y g)

  -- a call to a carried state is answered as it was, and does what it did, carried
  pub record CallsAlike : Type 0 where
    -- open: place, UE, code of the domain
    pub open_answered : (p u d : ℕ) (x : State own) → open_answer p u d (carried x) ≡ open_answer p u d x
    pub open_does : (p u d : ℕ) (x : State own) → open_outcome p u d (carried x) ≡ carried_outcome (open_outcome p u d x)
    -- frame: length of the list, and what was received
    pub frame_answered : (n : ℕ) (rd : Result Message Refusal) (x : State own) → frame_answer n rd (carried x) ≡ frame_answer n rd x
    pub frame_does : (n : ℕ) (rd : Result Message Refusal) (x : State own) → frame_outcome n rd (carried x) ≡ carried_outcome (frame_outcome n rd x)
    -- expiry: length of the list, place, code of the timer
    pub expiry_answered : (n p t : ℕ) (x : State own) → expiry_answer n p t (carried x) ≡ expiry_answer n p t x
    pub expiry_does : (n p t : ℕ) (x : State own) → expiry_outcome n p t (carried x) ≡ carried_outcome (expiry_outcome n p t x)
    -- start: length of the list, UE
    pub start_answered : (n u : ℕ) (x : State own) → start_answer n u (carried x) ≡ start_answer n u x
    pub start_does : (n u : ℕ) (x : State own) → start_outcome n u (carried x) ≡ carried_outcome (start_outcome n u x)
    -- execute: the ticket
    pub execute_answered : (t : TicketId) (x : State own) → execute_answer t (carried x) ≡ execute_answer t x
    pub execute_does : (t : TicketId) (x : State own) → execute_outcome t (carried x) ≡ carried_outcome (execute_outcome t x)
    -- withdraw: length of the list, ticket
    pub withdraw_answered : (n : ℕ) (t : TicketId) (x : State own) → withdraw_answer n t (carried x) ≡ withdraw_answer n t x
    pub withdraw_does : (n : ℕ) (t : TicketId) (x : State own) → withdraw_outcome n t (carried x) ≡ carried_outcome (withdraw_outcome n t x)
    -- the question for the RAB at a place
    pub rab_answered : (p r : ℕ) (x : State own) → question p r (carried x) ≡ question p r x
    -- a new controller: its number, and the pool that it is given
    pub made : (k : ℕ) (y : own.State) → new_state whole k (into y) ≡ carried (new_state own k y)

-- two kinds of pool: however the states of one are carried into the other, if the pools answer alike, all calls do
abbrev pub CarriedAlike : Radio → Radio → Type 0
CarriedAlike own whole = (into : own.State → whole.State) → PoolsAlike own whole into → CallsAlike own whole into
