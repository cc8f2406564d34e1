-- The law of runs: what the book of a run says of the controller's state after it.
use Rattle.std.specs.Prelude.{◌≡◌, ℕ, ◌+◌, ◌<◌, ◌≤◌, Bool, true, false, cond, ◌&&◌, List, length, Some, None, Ok, Err, filter, Option, ◌==◌}
use Rattle.rules.specs.Grants.{nothing, added}
use Rattle.rules.specs.Radio.{Radio, Lawful, Taken, Given, takes, gives}
use Rattle.rules.specs.State.{State}
use Rattle.rules.specs.Tables.{is_some}
use Rattle.rules.specs.Calls.{question, rab_state, execute_answer, new_state}
use Rattle.rules.specs.Refusals.{refusal}
use Rattle.rules.specs.declared.bearer.RabState.{RabState}
use Rattle.rules.specs.declared.connection.TicketId.{TicketId}
use Rattle.rules.specs.declared.refusal.Reason.TheVariants.{ForeignTicket}
use Rattle.runs.specs.Runs.{Call, step, log, end}
use Rattle.runs.specs.Ledger.{Ledger}
use Rattle.runs.specs.Tickets.{Tickets, Account, may_execute}
use Rattle.runs.specs.Book.{Book, blank, book, is_ok}

-- the size in use, by the book
abbrev pub size_booked : Option (ℕ × ℕ) → Option ℕ
size_booked None = None
size_booked (Some o) = Some o.1

-- the admission set of a waiting request, by the book: the RAB's own number if it is set up
abbrev pub number_booked : Option (ℕ × ℕ) → ℕ → Bool
number_booked None = nothing
number_booked (Some o) = added nothing o.0

-- what a question for a RAB should answer, by the book
abbrev pub state_booked : Ledger → ℕ → ℕ → RabState
state_booked b p r = rab_state (is_some (b.waiting p r)) (size_booked (b.bearing p r))

-- requests and outcomes
pub record AccountsHold {m : Radio} (b : Ledger) (x : State m) : Type 0 where
  -- for each RAB, requests = final outcomes, plus 1 exactly if it waits
  pub each_answered : (p r : ℕ) → b.requests p r ≡ b.outcomes p r + cond (is_some (b.waiting p r)) 1 0
  -- every question that is not refused answers what the book says
  pub questions : (p r : ℕ) (s : RabState) → question p r x ≡ Ok s → s ≡ state_booked b p r

-- the radio pool
pub record RadioHolds {m : Radio} (b : Ledger) (x : State m) : Type 0 where
  -- for each set-up RAB, the pool holds its number with its size
  pub held : (p r g s : ℕ) → b.bearing p r ≡ Some (g, s) → (0 < s) × (m.holds x.pool g ≡ s)
  -- no two RABs have the same number
  pub apart : (p r p' r' g s s' : ℕ) → b.bearing p r ≡ Some (g, s) → b.bearing p' r' ≡ Some (g, s') → (p ≡ p') × (r ≡ r')
  -- the pool holds no other grant
  pub no_other : (g : ℕ) → 0 < m.holds x.pool g → (p : ℕ) × (r : ℕ) × (b.bearing p r ≡ Some (g, m.holds x.pool g))
  -- no waiting request would be admitted, with the RAB's own number in the admission set if it is set up
  pub none_admitted : (p r s : ℕ) → b.waiting p r ≡ Some s → m.admits x.pool (number_booked (b.bearing p r)) s ≡ false
  -- at no point was a modification to the size in use or less queued, or failed with cause 6
  pub none_denied : b.denied ≡ 0

-- the tickets of a controller with number k
pub record TicketsHold {m : Radio} (k : ℕ) (b : Tickets) (x : State m) : Type 0 where
  -- an execute of a ticket that is out would be accepted exactly if each connection had its command, and none a failure, a release or a running out
  pub execute_accepted : (i : ℕ) (a : Account) → b.out i ≡ Some a → is_ok (execute_answer (record { controller = k; number = i }) x) ≡ may_execute a
  -- an execute of any other ticket would be refused with reason 13
  pub execute_foreign : (t : TicketId) → (t.controller == k && is_some (b.out t.number)) ≡ false → execute_answer t x ≡ Err (refusal ForeignTicket 0)
  -- handed out = given back + those that the controller keeps as out
  pub none_missing : b.handed_out ≡ b.given_back + length (filter is_some x.tickets)

-- what a book says of a state is so, in all three parts; k is the controller's number
pub record Told {m : Radio} (k : ℕ) (b : Book) (x : State m) : Type 0 where
  -- of requests, outcomes and questions
  pub accounts : AccountsHold b.rabs x
  -- of the pool's grants and of room for waiting requests
  pub radio : RadioHolds b.rabs x
  -- of the tickets that are out, handed out and given back
  pub tickets : TicketsHold k b.tickets x

-- the law, of a controller in a state: it holds after every list of calls
abbrev pub LawOfRuns : (m : Radio) → State m → Type 0
LawOfRuns m x = (cs : List Call) → Told x.number (book (log cs x) blank) (end cs x)

-- the laws that every pool shows
pub record Laws (m : Radio) : Type 0 where
  -- what a sound state holds and admits
  pub lawful : (y : m.State) → m.sound y → Lawful m y
  -- what a take does
  pub taken : (y : m.State) (g s : ℕ) → m.sound y → takes m y g s ≡ true → Taken m y g s
  -- what a give does
  pub given : (y : m.State) (g : ℕ) → m.sound y → gives m y g ≡ true → Given m y g

-- the law over a kind of pool: of every new controller, with any number and any sound pool
abbrev pub LawOver : Radio → Type 0
LawOver m = (k : ℕ) (y : m.State) → m.sound y → LawOfRuns m (new_state m k y)

-- the law over every lawful pool
abbrev pub EveryRun : Type 1
EveryRun = (m : Radio) → Laws m → LawOver m

-- no call of a run makes more than 288 reports
abbrev pub ReportsBounded : Radio → Type 0
ReportsBounded m = (k : ℕ) (y : m.State) → m.sound y → (cs : List Call) (c : Call) → length (step c (end cs (new_state m k y))).reports ≤ 288
