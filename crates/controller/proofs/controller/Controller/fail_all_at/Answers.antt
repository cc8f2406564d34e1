use Rattle.controller.proofs.controller.Controller.fail_all_at.Goals as goal
use Rattle.std.proofs.Common.{eqb, rules, tests}

pub returns : goal.returns
returns g c = c.fail_all.ensures (λ cs p. eqb p c.args.place) (λ cs q r k. search (rules, tests))
