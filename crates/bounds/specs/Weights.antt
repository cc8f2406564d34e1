-- What reports are paid with: what leaves the tables, and what the items of a frame allow.
use Rattle.std.specs.Prelude.{ℕ, ◌+◌, ◌*◌, ◌≤◌, length}
use Rattle.rules.specs.Radio.{Radio}
use Rattle.rules.specs.State.{State, Outcome}

-- two for each waiting request and one for each set-up RAB
abbrev pub weight : {m : Radio} → State m → ℕ
weight x = 2 * length x.queue + length x.bearers

-- an outcome's reports and the weight after it are at most d over the weight before it
abbrev pub Costs : {m : Radio} → ℕ → State m → Outcome m → Type 0
Costs d x o = length o.reports + weight o.state ≤ weight x + d

-- tables of at most the controller's sizes
pub record Small {m : Radio} (x : State m) : Type 0 where
  -- at most 64 set-up RABs
  pub bearers : length x.bearers ≤ 64
  -- at most 64 waiting requests
  pub queue : length x.queue ≤ 64
  -- at most 16 places
  pub connections : length x.connections ≤ 16
