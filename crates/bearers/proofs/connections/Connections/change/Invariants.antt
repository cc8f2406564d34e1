use Rattle.bearers.proofs.connections.Connections.change.Given as goal
use Rattle.bearers.proofs.Mapped.{UpTo}
use Rattle.bearers.specs.Closures.{Gives, StepsOfUe}
use Rattle.rules.specs.Connections.{changed, vacant}
use Rattle.rules.specs.declared.connection.ConnectionState.{ConnectionState}
use Rattle.std.proofs.Common.{◌≡◌, ◌++◌, length, take, drop}

-- the first connections are changed, the others as they were
abbrev pub invariant-loop-c : goal.invariant-loop-c
invariant-loop-c g l = record {
  long : length l.c-items ≡ 16;
  by_function : (step : ConnectionState → ConnectionState) → Gives (goal.F-post g l.step) step → l.c-items ≡ changed l.ue step (take l.c-index l.initial.c-items) ++ drop l.c-index l.initial.c-items;
  each : UpTo (StepsOfUe l.ue (goal.F-post g l.step)) vacant l.c-index l.initial.c-items l.c-items;
}
