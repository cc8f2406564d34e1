-- Decimal numbers.
use Rattle.std.specs.List.{list_all}
use Rattle.std.specs.Prelude.{ℕ, ◌+◌, ◌-◌, ◌*◌, Bool, false, cond, ◌&&◌, List, [], ◌∷◌, Some, None, Ok, Err, Option, Result, nat_le}
use Rattle.script.specs.declared.said.Argument.{Argument}
use Rattle.script.specs.declared.said.Argument.TheVariants.{Number, Capacity, Place, Ue, Domain, Timer, Ticket, Rab, Grant, Size}
use Rattle.script.specs.declared.said.Fault.{Fault}
use Rattle.script.specs.declared.said.Fault.TheVariants.{NotDecimal, OutOfRange}

-- the largest number that an argument may be
abbrev pub most_of : Argument → ℕ
most_of Number = 65535
most_of Capacity = 65535
most_of Place = 255
most_of Ue = 4294967295
most_of Domain = 255
most_of Timer = 255
most_of Ticket = 255
most_of Rab = 255
most_of Grant = 255
most_of Size = 255

-- the digits `0` to `9` are the bytes 48 to 57
abbrev pub digit : ℕ → Bool
digit b = nat_le 48 b && nat_le b 57

abbrev pub all_digits : List ℕ → Bool
all_digits bs = list_all digit bs

-- one or more digits
abbrev pub decimal : List ℕ → Bool
decimal [] = false
decimal (b ∷ bs) = all_digits (b ∷ bs)

-- the value of digits after others of the value `n`
abbrev pub value_from : ℕ → List ℕ → ℕ
value_from n [] = n
value_from n (b ∷ bs) = value_from (n * 10 + (b - 48)) bs

abbrev pub value : List ℕ → ℕ
value bs = value_from 0 bs

abbrev pub value_up_to : ℕ → List ℕ → Option ℕ
value_up_to most bs = cond (nat_le (value bs) most) (Some (value bs)) None

-- the number that a word gives for an argument
abbrev pub number_of : Argument → List ℕ → Result ℕ Fault
number_of a w = cond (decimal w) (cond (nat_le (value w) (most_of a)) (Ok (value w)) (Err (OutOfRange a))) (Err (NotDecimal a))
