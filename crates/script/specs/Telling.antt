-- The words for what is wrong with a line: what was expected instead.
use Rattle.script.specs.Numbers.{most_of}
use Rattle.script.specs.declared.error.Error.{Error}
use Rattle.script.specs.declared.error.Error.TheVariants as error
use Rattle.script.specs.declared.said.Argument.{Argument}
use Rattle.script.specs.declared.said.Argument.TheVariants.{Number, Capacity, Place, Ue, Domain, Timer, Ticket, Rab, Grant, Size}
use Rattle.script.specs.declared.said.Fault.{Fault}
use Rattle.script.specs.declared.said.Fault.TheVariants.{UnknownWord, Missing, NotDecimal, OutOfRange, MissingPool, UnknownPool, NotHex, OddHex, Extra}
use Rattle.std.specs.Fmt.{decimal}
use Rattle.std.specs.Prelude.{ℕ, List, ◌++◌, codes}

abbrev pub name : Argument → List ℕ
name Number = codes "NUMBER"
name Capacity = codes "CAPACITY"
name Place = codes "PLACE"
name Ue = codes "UE"
name Domain = codes "DOMAIN"
name Timer = codes "TIMER"
name Ticket = codes "TICKET"
name Rab = codes "RAB"
name Grant = codes "GRANT"
name Size = codes "SIZE"

-- an argument with its range
abbrev pub argument_text : Argument → List ℕ
argument_text a = name a ++ codes ", a decimal number 0.." ++ decimal (most_of a)

abbrev pub fault_text : Fault → List ℕ
fault_text UnknownWord = codes "expected cabinet, open, frame, expiry, start, execute, withdraw, rab, grant, room or show"
fault_text (Missing a) = codes "expected " ++ argument_text a ++ codes ", and the line ends"
fault_text (NotDecimal a) = codes "expected " ++ argument_text a ++ codes ", and the word is none"
fault_text (OutOfRange a) = codes "expected " ++ argument_text a ++ codes ", and the number is larger"
fault_text MissingPool = codes "expected rate or tree, and the line ends"
fault_text UnknownPool = codes "expected rate or tree"
fault_text NotHex = codes "expected hex digits, 0..9, a..f or A..F"
fault_text OddHex = codes "expected two hex digits for each byte, and one is left over"
fault_text Extra = codes "expected the end of the line, and a word follows"

abbrev pub error_text : Error → List ℕ
error_text (error.Fault f) = fault_text f
error_text error.NoMemory = codes "expected a line that fits into memory"
