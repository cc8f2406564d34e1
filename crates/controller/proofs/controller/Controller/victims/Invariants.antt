use Rattle.admission.specs.Member.{member}
use Rattle.controller.proofs.Fronts.{Front, left}
use Rattle.controller.proofs.controller.Controller.victims.Given as goal
use Rattle.controller.specs.View.{view}
use Rattle.rules.specs.Preemption.{candidates_from}
use Rattle.std.proofs.Common.{drop}

-- the levels to come are left
abbrev pub invariant-levels : goal.invariant-levels
invariant-levels g l =
    let x = view g.P.RadioPool.radio g.P.RadioPool.state l.self in
    Front l.q x l.victims.items (member l.given) (candidates_from l.level l.q x)

-- the RABs of this level that are not yet looked at, and the levels below are left
abbrev pub invariant-table : goal.invariant-table
invariant-table g l =
    let x = view g.P.RadioPool.radio g.P.RadioPool.state l.self in
    Front l.q x l.victims.items (member l.given) (left l.q x l.level (drop l.b-index l.b-items))
