use Rattle.controller.proofs.controller.Controller.has_domain.Goals as goal
use Rattle.rules.specs.Numbers.{domain_number}
use Rattle.std.proofs.Common.{eqb, rules, tests}

pub returns : goal.returns
returns g c = c.has.ensures.by_function (λ d. eqb (domain_number d.domain) (domain_number c.args.domain)) (λ d r k. search (rules, tests))
