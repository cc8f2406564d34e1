-- Connection places: what state they are in, and whose they are.
use Rattle.std.specs.Prelude.{ℕ, suc, Bool, true, false, cond, not, ◌&&◌, ◌||◌, List, [], ◌∷◌, map, ◌==◌, slice_index_or}
use Rattle.rules.specs.Radio.{Radio}
use Rattle.rules.specs.State.{State}
use Rattle.rules.specs.declared.connection.Connection.{Connection}
use Rattle.rules.specs.declared.connection.ConnectionState.{ConnectionState}
use Rattle.rules.specs.declared.connection.ConnectionState.TheVariants.{Closed, Open, Preparing, Prepared, Executed}
use Rattle.rules.specs.declared.connection.Domain.TheVariants.{Cs}

-- no connection stands at the place
abbrev pub closed : ConnectionState → Bool
closed Closed = true
closed Open = false
closed Preparing = false
closed Prepared = false
closed Executed = false

-- an open connection: its RABs may be asked for and pre-empted
abbrev pub opened : ConnectionState → Bool
opened Closed = false
opened Open = true
opened Preparing = false
opened Prepared = false
opened Executed = false

-- a relocation waits for this connection's RELOCATION COMMAND
abbrev pub preparing : ConnectionState → Bool
preparing Closed = false
preparing Open = false
preparing Preparing = true
preparing Prepared = false
preparing Executed = false

-- this connection has had its RELOCATION COMMAND
abbrev pub prepared : ConnectionState → Bool
prepared Closed = false
prepared Open = false
prepared Preparing = false
prepared Prepared = true
prepared Executed = false

-- preparing, prepared or executed
abbrev pub relocating : ConnectionState → Bool
relocating Closed = false
relocating Open = false
relocating Preparing = true
relocating Prepared = true
relocating Executed = true

-- the state of a connection whose relocation has ended
abbrev pub reopened : ConnectionState → ConnectionState
reopened Closed = Closed
reopened Open = Open
reopened Preparing = Open
reopened Prepared = Open
reopened Executed = Executed

-- a closed place
abbrev pub vacant : Connection
vacant = record { state = Closed; ue = 0; domain = Cs }

-- a connection in another state
abbrev pub moved_to : ConnectionState → Connection → Connection
moved_to s c = record { state = s; ue = c.ue; domain = c.domain }

-- a connection of a UE
abbrev pub of_ue : ℕ → Connection → Bool
of_ue u c = not (closed c.state) && c.ue == u

-- the places, counted from i, whose connections pass
abbrev pub places_from : (Connection → Bool) → ℕ → List Connection → List ℕ
places_from test i [] = []
places_from test i (c ∷ cs) = cond (test c) (i ∷ places_from test (suc i) cs) (places_from test (suc i) cs)

-- the connections of a UE changed, the others as they are
abbrev pub changed : ℕ → (ConnectionState → ConnectionState) → List Connection → List Connection
changed u f cs = map (λ c. cond (of_ue u c) (moved_to (f c.state) c) c) cs

-- some connection passes
abbrev pub any_connection : (Connection → Bool) → List Connection → Bool
any_connection test [] = false
any_connection test (c ∷ cs) = test c || any_connection test cs

-- no connection of a UE fails the test
abbrev pub each_of_ue : ℕ → (ConnectionState → Bool) → List Connection → Bool
each_of_ue u test cs = not (any_connection (λ c. of_ue u c && not (test c.state)) cs)

module _ {m : Radio} where
  -- what stands at a place; over 15 it is closed
  abbrev pub at_place : ℕ → State m → Connection
  at_place p x = slice_index_or x.connections p vacant

  -- the state of what stands at a place
  abbrev pub state_at : ℕ → State m → ConnectionState
  state_at p x = (at_place p x).state

  -- the places of a UE's connections, upward
  abbrev pub places_of : ℕ → State m → List ℕ
  places_of u x = places_from (of_ue u) 0 x.connections
