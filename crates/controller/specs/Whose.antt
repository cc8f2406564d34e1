-- Whose waiting requests are meant: a test of the connections and of the place on which a request waits.
use Rattle.std.specs.Prelude.{◌≡◌, ℕ, Bool, List}
use Rattle.std.specs.Borrow.{Bor}
use Rattle.bearers.specs.Places.{connections_of}
use Rattle.bearers.specs.declared.connections.Connections.{Connections}
use Rattle.rules.specs.Actions.{fail_all}
use Rattle.rules.specs.Radio.{Radio}
use Rattle.rules.specs.State.{State, Outcome}
use Rattle.rules.specs.declared.bearer.Request.{Request}
use Rattle.rules.specs.declared.connection.Connection.{Connection}
use Rattle.rules.specs.declared.report.Cause.{Cause}

-- each call of a closure gives what the test gives
abbrev pub Tests : (Bor Connections → Bor Request → Bool → Type 0) → (List Connection → ℕ → Bool) → Type 0
Tests post t = (cs : Bor Connections) (q : Bor Request) (r : Bool) → post cs q r → r ≡ t (connections_of cs.now) q.now.place

-- all that are meant fail, by arrival
abbrev pub fail_meant : {m : Radio} → Cause → (List Connection → ℕ → Bool) → State m → Outcome m
fail_meant c t x = fail_all c (λ q. t x.connections q.place) x
