use Rattle.std.proofs.Common.{◌+◌, ◌≤◌, length}
use Rattle.controller.proofs.Gaves.{Toward}
use Rattle.controller.proofs.controller.Controller.serve.Given as goal
use Rattle.controller.specs.View.{view}
use Rattle.rules.specs.Queue.{serve}

-- serving from here on leads to the outcome of the whole, and there are turns enough for those that still wait
abbrev pub invariant-loop-turn : goal.invariant-loop-turn
invariant-loop-turn g l =
    let m = g.P.RadioPool.radio in
    let s = g.P.RadioPool.state in
    let x = view m s l.self in
    Toward (serve x) l.sheet (serve (view m s l.initial.self)) l.initial.sheet × (length x.queue + l.turn ≤ 64)
