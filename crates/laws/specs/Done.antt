-- What a request that is done leaves behind.
use Rattle.std.specs.Prelude.{◌≡◌, ℕ, true, [], ◌∷◌, Some, ◌≢◌}
use Rattle.rules.specs.Radio.{Radio}
use Rattle.rules.specs.State.{State, Outcome}
use Rattle.rules.specs.Tables.{set_up_as}
use Rattle.rules.specs.Actions.{done_report}
use Rattle.rules.specs.declared.bearer.Bearer.{Bearer}
use Rattle.rules.specs.declared.bearer.Request.{Request}
use Rattle.bearers.specs.Order.{ascending}

module _ {m : Radio} where
  -- a RAB is set up with the size and the priority that were asked for
  abbrev pub SetUpWith : Request → State m → Type 0
  SetUpWith q y = (b : Bearer) × (set_up_as q.place q.rab y.bearers ≡ Some b) × (b.size ≡ q.size) × (b.priority ≡ q.priority)

  -- all other RABs are set up as they were, or still not
  abbrev pub OthersAsBefore : Request → State m → State m → Type 0
  OthersAsBefore q x y = (p r : ℕ) → (p ≡ q.place → r ≢ q.rab) → set_up_as p r y.bearers ≡ set_up_as p r x.bearers

  -- a request is done, and nobody is pre-empted
  pub record DoneAlone (q : Request) (x : State m) (o : Outcome m) : Type 0 where
    -- the one report, with the size that was asked for
    pub report : o.reports ≡ done_report q.place q.rab q.size ∷ []
    -- what is set up afterwards, if the table was in order
    pub set_up : ascending x.bearers ≡ true → SetUpWith q o.state
    pub others : ascending x.bearers ≡ true → OthersAsBefore q x o.state
    -- queue, connections and tickets are as they were
    pub queue : o.state.queue ≡ x.queue
    pub connections : o.state.connections ≡ x.connections
    pub tickets : o.state.tickets ≡ x.tickets
