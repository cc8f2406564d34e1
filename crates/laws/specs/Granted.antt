-- Room that was asked for is room that is had: what a request that is done leaves in the pool, in the table and in the queue.
use Rattle.std.specs.Prelude.{◌≡◌, ℕ, ◌<◌, Bool, true, false, cond, not, ◌||◌, List, [], ◌∷◌, Some, None, filter, ◌≢◌}
use Rattle.rules.specs.Grants.{nothing}
use Rattle.rules.specs.Radio.{Radio, put}
use Rattle.rules.specs.State.{State, at_queue}
use Rattle.rules.specs.Tables.{asks_for, set_up_as, without_request}
use Rattle.rules.specs.Preemption.{own, own_grant, victims}
use Rattle.rules.specs.Request.{done}
use Rattle.rules.specs.Queue.{serve_one}
use Rattle.rules.specs.declared.bearer.Bearer.{Bearer}
use Rattle.rules.specs.declared.bearer.Request.{Request}
use Rattle.bearers.specs.Order.{ascending, apart}
use Rattle.laws.specs.Lists.{Among}
use Rattle.laws.specs.Victims.{with_grants}
use Rattle.laws.specs.Serving.{First}

-- a grant of a size is taken under the smallest number that is not held, and no other changes
pub record TakesSmallest (m : Radio) (before : m.State) (g s : ℕ) (after : m.State) : Type 0 where
  pub number : g < 64
  pub free : m.holds before g ≡ 0
  pub smallest : (k : ℕ) → k < g → 0 < m.holds before k
  pub held : (k : ℕ) → m.holds after k ≡ put (m.holds before) g s k

-- a request of one of some RABs
abbrev pub asks_for_one : List Bearer → Request → Bool
asks_for_one [] w = false
asks_for_one (v ∷ vs) w = asks_for v.place v.rab w || asks_for_one vs w

module _ {m : Radio} where
  -- a request is done with its victims
  pub record DoneWith (q : Request) (vs : List Bearer) (x y : State m) : Type 0 where
    -- first the grants of the admission set are given back, and no other
    pub between : m.State
    pub emptied : (k : ℕ) → m.holds between k ≡ cond (with_grants (own_grant (own q x)) vs k) 0 (m.holds x.pool k)
    -- then there is room for the request, and nothing more has to go
    pub room : m.admits between nothing q.size ≡ true
    -- its RAB gets a grant of its size, where any number is free
    pub bearer : Bearer
    pub size : bearer.size ≡ q.size
    pub priority : bearer.priority ≡ q.priority
    pub grant : (k : ℕ) → k < 64 → m.holds between k ≡ 0 → TakesSmallest m between bearer.grant q.size y.pool
    pub sound : m.sound y.pool
    -- in a table that is in order it is set up so, its victims are not set up, and all others are as they were
    pub set_up : ascending x.bearers ≡ true → set_up_as q.place q.rab y.bearers ≡ Some bearer
    pub gone : ascending x.bearers ≡ true → (v : Bearer) → Among v vs → set_up_as v.place v.rab y.bearers ≡ None
    pub others : ascending x.bearers ≡ true → (p r : ℕ) → (p ≡ q.place → r ≢ q.rab) → ((v : Bearer) → Among v vs → p ≡ v.place → r ≢ v.rab) →
        set_up_as p r y.bearers ≡ set_up_as p r x.bearers
    -- where no RAB waits twice, what waited on a victim waits no more, and all else waits on by arrival
    pub queue : apart x.queue ≡ true → y.queue ≡ filter (λ w. not (asks_for_one vs w)) x.queue
    -- connections and tickets are as they were
    pub connections : y.connections ≡ x.connections
    pub tickets : y.tickets ≡ x.tickets

-- requests that are done over a kind of pool, from every state with a sound pool
pub record RoomIsHad (m : Radio) : Type 0 where
  -- one that is done at its turn
  pub at_once : (q : Request) (x : State m) (vs : List Bearer) → m.sound x.pool → victims q x ≡ Some vs → DoneWith q vs x (done q vs x).state
  -- one that waited
  pub served : (q : Request) (x : State m) → m.sound x.pool → First x q →
      DoneWith q [] (at_queue x (without_request q.place q.rab x.queue)) (serve_one q x).state
