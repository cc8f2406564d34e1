use Rattle.bearers.specs.View.{queue_of}
use Rattle.controller.proofs.Gaves.{Toward}
use Rattle.controller.proofs.controller.Controller.fail_all.Given as goal
use Rattle.controller.specs.View.{view}
use Rattle.controller.specs.Whose.{Tests, fail_meant}
use Rattle.rules.specs.declared.connection.Connection.{Connection}
use Rattle.std.proofs.Common.{ℕ, Bool, List, length}

-- failing those that are left leads to the outcome of the whole
abbrev pub invariant-loop-q : goal.invariant-loop-q
invariant-loop-q g l =
    let m = g.P.RadioPool.radio in
    let s = g.P.RadioPool.state in
    (t : List Connection → ℕ → Bool) → Tests (goal.F-post g l.meant) t →
    Toward (fail_meant l.cause t (view m s l.self)) l.sheet (fail_meant l.cause t (view m s l.initial.self)) l.initial.sheet

-- each turn takes one out of the queue
abbrev pub decreases-loop-q : goal.decreases-loop-q
decreases-loop-q g l = length (queue_of l.self.rabs)
