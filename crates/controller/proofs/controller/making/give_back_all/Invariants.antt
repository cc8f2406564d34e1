use Rattle.controller.proofs.controller.making.give_back_all.Given as goal
use Rattle.std.proofs.Common.{◌≡◌, ◌≤◌}
use Rattle.rules.specs.Calls.{given_back}

-- the grants so far are given back
abbrev pub invariant-loop-grant : goal.invariant-loop-grant
invariant-loop-grant g l = (g.P.RadioPool.state l.pool ≡ given_back g.P.RadioPool.radio l.grant (g.P.RadioPool.state l.initial.pool)) × (l.grant ≤ 64)
