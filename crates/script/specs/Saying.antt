-- What a line can say, as a value of the definitions, and the code's answers read as such values.
use Rattle.std.specs.Prelude.{◌≡◌, ℕ, List, Ok, Err, vec_items, Result, ⊤}
use Rattle.script.specs.declared.error.Error.{Error}
use Rattle.script.specs.declared.error.Error.TheVariants as error
use Rattle.script.specs.declared.said.Fault.{Fault}
use Rattle.script.specs.declared.said.Line.{Line}
use Rattle.script.specs.declared.said.Line.TheVariants as line
use Rattle.script.specs.declared.said.Pool.{Pool}

pub data Saying : Type 0 where
  skips : Saying
  makes : (number : ℕ) (pool : Pool) → Saying
  opens : (place ue domain : ℕ) → Saying
  hands : (bytes : List ℕ) → Saying
  expires : (place timer : ℕ) → Saying
  starts : (ue : ℕ) → Saying
  executes : (ticket : ℕ) → Saying
  withdraws : (ticket : ℕ) → Saying
  asks_rab : (place rab : ℕ) → Saying
  asks_grant : (grant : ℕ) → Saying
  asks_room : (size : ℕ) (named : List ℕ) → Saying
  shows : Saying

abbrev pub said : Line → Saying
said line.Skipped = skips
said (line.Cabinet number pool) = makes number pool
said (line.Open place ue domain) = opens place ue domain
said (line.Frame bytes) = hands (vec_items bytes)
said (line.Expiry place timer) = expires place timer
said (line.Start ue) = starts ue
said (line.Execute ticket) = executes ticket
said (line.Withdraw ticket) = withdraws ticket
said (line.Rab place rab) = asks_rab place rab
said (line.Grant grant) = asks_grant grant
said (line.Room size named) = asks_room size (vec_items named)
said line.Show = shows

abbrev pub heard : Result Line Fault → Result Saying Fault
heard (Ok l) = Ok (said l)
heard (Err f) = Err f

-- unless memory ran out, the result is what is meant, where `view` says what a value leads to
abbrev pub LeadsTo : {X Y : Type 0} → (X → Result Y Fault) → Result X Error → Result Y Fault → Type 0
LeadsTo view (Ok x) meant = view x ≡ meant
LeadsTo view (Err (error.Fault f)) meant = Err f ≡ meant
LeadsTo view (Err error.NoMemory) meant = ⊤

-- unless memory ran out, the result, seen by `view`, is what is meant
abbrev pub Agrees : {X Y : Type 0} → (X → Y) → Result X Error → Result Y Fault → Type 0
Agrees view result meant = LeadsTo (λ x. Ok (view x)) result meant
