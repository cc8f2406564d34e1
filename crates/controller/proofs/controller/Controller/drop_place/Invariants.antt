use Rattle.bearers.specs.View.{bearers_of}
use Rattle.controller.proofs.Gaves.{Toward}
use Rattle.controller.proofs.controller.Controller.drop_place.Given as goal
use Rattle.controller.specs.View.{view}
use Rattle.rules.specs.Events.{drop_place}
use Rattle.std.proofs.Common.{length}

-- dropping those that are left leads to the outcome of the whole
abbrev pub invariant-loop-b : goal.invariant-loop-b
invariant-loop-b g l =
    let m = g.P.RadioPool.radio in
    let s = g.P.RadioPool.state in
    Toward (drop_place l.place (view m s l.self)) l.sheet (drop_place l.place (view m s l.initial.self)) l.initial.sheet

-- each turn takes one out of the table
abbrev pub decreases-loop-b : goal.decreases-loop-b
decreases-loop-b g l = length (bearers_of l.self.rabs)
