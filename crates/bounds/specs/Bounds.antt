-- No call makes more than 288 reports, whatever the tables hold, as long as they have at most their sizes.
use Rattle.std.specs.Prelude.{◌≡◌, ℕ, ◌≤◌, List, length, Ok, Option}
use Rattle.rules.specs.Radio.{Radio}
use Rattle.rules.specs.State.{State}
use Rattle.rules.specs.Message.{Message, items_of}
use Rattle.rules.specs.Frame.{received}
use Rattle.rules.specs.Events.{handled}
use Rattle.rules.specs.Timers.{expires}
use Rattle.rules.specs.Relocation.{start, withdraw}
use Rattle.rules.specs.declared.connection.Timer.{Timer}
use Rattle.bounds.specs.Weights.{Small}

-- a frame that was received has at most 32 items
abbrev pub ItemsBounded : Type 0
ItemsBounded = (bs : List ℕ) (g : Message) → received bs ≡ Ok g → length (items_of g) ≤ 32

-- what each call that reports does, of every state with tables of at most their sizes
pub record ReportsWithin (m : Radio) : Type 0 where
  -- an accepted frame with at most 32 items
  pub frame : (x : State m) → Small x → (g : Message) → length (items_of g) ≤ 32 → length (handled g x).reports ≤ 288
  -- the expiry of a timer at a place
  pub expiry : (x : State m) → Small x → (t : Option Timer) (p : ℕ) → length (expires t p x).reports ≤ 288
  -- the start of a UE's relocation
  pub start : (x : State m) → Small x → (u : ℕ) → length (start u x).reports ≤ 288
  -- the withdrawal of a ticket
  pub withdraw : (x : State m) → Small x → (i : ℕ) → length (withdraw i x).reports ≤ 288
