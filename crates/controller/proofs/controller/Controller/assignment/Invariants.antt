use Rattle.controller.proofs.Gaves.{Toward}
use Rattle.controller.proofs.Turns.{is_release, turn}
use Rattle.controller.proofs.controller.Controller.assignment.Given as goal
use Rattle.controller.specs.View.{view}
use Rattle.rules.specs.State.{each}
use Rattle.std.proofs.Common.{not, drop, filter}

-- the turns of the releases that are left lead to the outcome of all their turns
abbrev pub invariant-releases : goal.invariant-releases
invariant-releases g l =
    let m = g.P.RadioPool.radio in
    let s = g.P.RadioPool.state in
    Toward (each (turn l.place) (filter is_release (drop l._i l.items)) (view m s l.self)) l.sheet
    (each (turn l.place) (filter is_release l.items) (view m s l.initial.self)) l.initial.sheet

-- the same of the others
abbrev pub invariant-others : goal.invariant-others
invariant-others g l =
    let m = g.P.RadioPool.radio in
    let s = g.P.RadioPool.state in
    Toward (each (turn l.place) (filter (λ i. not (is_release i)) (drop l._i l.items)) (view m s l.self)) l.sheet
    (each (turn l.place) (filter (λ i. not (is_release i)) l.items) (view m s l.initial.self)) l.initial.sheet
