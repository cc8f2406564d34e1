-- The timers TQUEUING and TRELOCprep: when they run, and what their expiry does.
use Rattle.std.specs.Prelude.{ℕ, Bool, false, Some, None, Option}
use Rattle.rules.specs.Radio.{Radio}
use Rattle.rules.specs.Tables.{waits_at, any_request}
use Rattle.rules.specs.State.{State, Outcome, silent}
use Rattle.rules.specs.Connections.{preparing, state_at}
use Rattle.rules.specs.Actions.{fail_all}
use Rattle.rules.specs.Relocation.{preparation_expires}
use Rattle.rules.specs.declared.connection.Timer.{Timer}
use Rattle.rules.specs.declared.connection.Timer.TheVariants.{Tqueuing, Trelocprep}
use Rattle.rules.specs.declared.report.Cause.TheVariants as cause

module _ {m : Radio} where
  -- TQUEUING runs on a connection exactly while a RAB waits there
  abbrev pub queuing_runs : ℕ → State m → Bool
  queuing_runs p x = any_request (waits_at p) x.queue

  -- TRELOCprep runs exactly while the connection is preparing
  abbrev pub preparation_runs : ℕ → State m → Bool
  preparation_runs p x = preparing (state_at p x)

  -- whether a timer runs at a place; one that there is not never does
  abbrev pub timer_runs : Option Timer → ℕ → State m → Bool
  timer_runs None p x = false
  timer_runs (Some Tqueuing) p x = queuing_runs p x
  timer_runs (Some Trelocprep) p x = preparation_runs p x

  -- TQUEUING has run out: all that wait there fail with cause 2, by arrival
  abbrev pub queuing_expires : ℕ → State m → Outcome m
  queuing_expires p x = fail_all cause.TqueuingExpiry (waits_at p) x

  -- what the expiry of a timer does
  abbrev pub expires : Option Timer → ℕ → State m → Outcome m
  expires None p x = silent x
  expires (Some Tqueuing) p x = queuing_expires p x
  expires (Some Trelocprep) p x = preparation_expires p x
