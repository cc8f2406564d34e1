use Rattle.bearers.specs.Places.{connections_of}
use Rattle.controller.proofs.controller.Controller.is_present.Goals as goal
use Rattle.rules.specs.Connections.{of_ue, any_connection}
use Rattle.std.proofs.Common.{true, ◌∙◌, rules, tests}
use Rattle.std.proofs.Math.Bool.{and-true}

pub returns : goal.returns
returns g c =
    c.has.ensures.by_function (λ d. true) (λ d r k. search (rules, tests)) ∙ (λ i. any_connection (λ d. and-true (of_ue c.args.ue d) i) (connections_of c.args.self.now.connections))
