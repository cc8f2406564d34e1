use Rattle.controller.proofs.Gaves.{gave_then}
use Rattle.controller.proofs.controller.Controller.begin.Goals as goal
use Rattle.controller.specs.Starts.{required_on}
use Rattle.rules.specs.Connections.{of_ue, vacant}
use Rattle.rules.specs.Relocation.{start}
use Rattle.std.proofs.Common.{get_or, rules, tests}

pub returns : goal.returns
unfolding start
returns g c = gave_then (required_on c.args.ue) (c.fail_all.ensures (λ cs p. of_ue c.args.ue (get_or cs p vacant)) (λ cs q r k. search (rules, tests))) c.require_on.ensures
