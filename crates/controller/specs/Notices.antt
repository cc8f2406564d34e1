-- What is told on a UE's connections by place.
use Rattle.std.specs.Prelude.{ℕ, Bool, false, not, ◌&&◌, List, map, Some, None, filter, Option, ◌==◌}
use Rattle.rules.specs.Actions.{report}
use Rattle.rules.specs.Connections.{of_ue, places_from}
use Rattle.rules.specs.declared.connection.Connection.{Connection}
use Rattle.rules.specs.declared.report.Cause.{Cause}
use Rattle.rules.specs.declared.report.Report.{Report}
use Rattle.rules.specs.declared.report.ReportKind.{ReportKind}

-- whether a place is left out
abbrev pub spared : Option ℕ → ℕ → Bool
spared None k = false
spared (Some p) k = k == p

-- whether a place is told
abbrev pub told : Option ℕ → ℕ → ℕ → Connection → Bool
told o u k c = of_ue u c && not (spared o k)

-- a report of no RAB on each connection of a UE by place, from place i on
abbrev pub notices_from : ReportKind → Cause → Option ℕ → ℕ → ℕ → List Connection → List Report
notices_from n c o u i cs = map (λ p. report n p 0 c) (filter (λ k. not (spared o k)) (places_from (of_ue u) i cs))
