use Rattle.controller.proofs.Gaves.{Toward}
use Rattle.controller.proofs.controller.Controller.pre_empt_all.Given as goal
use Rattle.controller.specs.View.{view}
use Rattle.rules.specs.Request.{pre_empt}
use Rattle.rules.specs.State.{each}
use Rattle.std.proofs.Common.{drop}

-- the victims that are left lead to the outcome of all
abbrev pub invariant-loop-b : goal.invariant-loop-b
invariant-loop-b g l =
    let m = g.P.RadioPool.radio in
    let s = g.P.RadioPool.state in
    Toward (each pre_empt (drop l.b-index l.victims) (view m s l.self)) l.sheet
    (each pre_empt l.victims (view m s l.initial.self)) l.initial.sheet
