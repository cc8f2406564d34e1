-- A list to which the code adds what a word gives.
use Rattle.script.specs.Saying.{Agrees}
use Rattle.script.specs.Script.{and_then}
use Rattle.script.specs.declared.error.Error.{Error}
use Rattle.script.specs.declared.said.Fault.{Fault}
use Rattle.std.specs.Prelude.{List, Ok, Result, ℕ}

-- the list was `old` and is `new`, after what a word gives was added; or the word has a fault, or memory ran out
abbrev pub Adds : Result (List ℕ) Fault → List ℕ → Result (Unit {0}) Error → List ℕ → Type 0
Adds given old result new = Agrees (λ _. new) result (and_then (Ok old) given)
