-- What the calls of a closure give.
use Rattle.std.specs.Prelude.{◌≡◌, ℕ, Bool, false, MatchBool}
use Rattle.rules.specs.Connections.{of_ue, moved_to}
use Rattle.rules.specs.declared.connection.Connection.{Connection}
use Rattle.rules.specs.declared.connection.ConnectionState.{ConnectionState}

-- each call gives what a function gives
abbrev pub Gives : {A R : Type 0} → (A → R → Type 0) → (A → R) → Type 0
Gives post f = (a : _) (r : _) → post a r → r ≡ f a

-- what a test may answer at a connection of the UE; at another it is false
abbrev pub AnswersOfUe : ℕ → (Connection → Bool → Type 0) → Connection → Bool → Type 0
AnswersOfUe u may k answer = MatchBool (of_ue u k) (may k answer) (answer ≡ false)

-- a connection of the UE has moved to a state that a step may give; another is as it was
abbrev pub StepsOfUe : ℕ → (ConnectionState → ConnectionState → Type 0) → Connection → Connection → Type 0
StepsOfUe u gives old new = MatchBool (of_ue u old) ((s : ConnectionState) × gives old.state s × (new ≡ moved_to s old)) (new ≡ old)
