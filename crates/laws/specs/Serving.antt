-- Serving the queue: who is next, what a turn does, and where it ends.
use Rattle.std.specs.Prelude.{◌≡◌, suc, ◌<◌, ◌≤◌, true, false, List, [], ◌∷◌, ◌++◌, length, Some, None}
use Rattle.rules.specs.Radio.{Radio}
use Rattle.rules.specs.State.{State, at_queue}
use Rattle.rules.specs.Tables.{without_request}
use Rattle.rules.specs.Preemption.{admitted}
use Rattle.rules.specs.Queue.{next, serve_one, serve}
use Rattle.rules.specs.declared.bearer.Request.{Request}
use Rattle.rules.specs.declared.report.Report.{Report}
use Rattle.bearers.specs.Order.{apart}
use Rattle.laws.specs.Lists.{Among}
use Rattle.laws.specs.Done.{DoneAlone}

module _ {m : Radio} where
  -- no waiting request would be admitted
  abbrev pub Quiet : State m → Type 0
  Quiet x = (w : Request) → Among w x.queue → admitted x w ≡ false

  -- the first by level, then arrival, of those that would be admitted
  pub record First (x : State m) (q : Request) : Type 0 where
    -- it waits, some having come before it and some behind it
    pub came_before : List Request
    pub came_behind : List Request
    pub waits : x.queue ≡ came_before ++ q ∷ came_behind
    pub fits : admitted x q ≡ true
    -- those before it that would be admitted have a larger level number
    pub before : (w : Request) → Among w came_before → admitted x w ≡ true → q.priority.level < w.priority.level
    -- those behind it that would be admitted have no smaller one
    pub behind : (w : Request) → Among w came_behind → admitted x w ≡ true → q.priority.level ≤ w.priority.level

  -- a turn: the first leaves the queue, and is done with nobody pre-empted
  pub record Turn (x : State m) (q : Request) (rs : List Report) (y : State m) : Type 0 where
    pub first : First x q
    -- it is done in the state without its request
    pub done : DoneAlone q (at_queue x (without_request q.place q.rab x.queue)) (record { reports = rs; state = y })
    -- the queue has one less
    pub fewer : length x.queue ≡ suc (length y.queue)
    -- where no RAB waits twice, those before it and those behind it go on waiting
    pub leaves : apart x.queue ≡ true → y.queue ≡ first.came_before ++ first.came_behind
    -- and this is the whole state
    pub after : y ≡ (serve_one q x).state

  -- turn by turn, until no waiting request would be admitted
  pub data Serves : State m → List Report → State m → Type 0 where
    over : {x : State m} → Quiet x → Serves x [] x
    turn : {x y z : State m} {q : Request} {rs ss : List Report} → Turn x q rs y → Serves y ss z → Serves x (rs ++ ss) z

-- serving over a kind of pool, in every state
pub record QueueInOrder (m : Radio) : Type 0 where
  -- the one that is next is the first by level, then arrival
  pub first : (x : State m) (q : Request) → next x ≡ Some q → First x q
  -- where none is next, none would be admitted
  pub none : (x : State m) → next x ≡ None → Quiet x
  -- the queue is served turn by turn
  pub turns : (x : State m) → Serves x (serve x).reports (serve x).state
  -- after it no waiting request would be admitted
  pub quiet : (x : State m) → Quiet (serve x).state
