-- The second part of a start: what is told once no request of the UE waits.
use Rattle.std.specs.Prelude.{ℕ, map}
use Rattle.rules.specs.Connections.{places_of}
use Rattle.rules.specs.Radio.{Radio}
use Rattle.rules.specs.Relocation.{required, relocation_runs}
use Rattle.rules.specs.State.{State, Outcome}

-- kind 8 on each of the UE's connections by place, and its relocation runs
abbrev pub required_on : {m : Radio} → ℕ → State m → Outcome m
required_on u x = record { reports = map required (places_of u x); state = relocation_runs u x }
