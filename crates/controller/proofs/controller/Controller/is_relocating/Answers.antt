use Rattle.controller.proofs.controller.Controller.is_relocating.Goals as goal
use Rattle.rules.specs.Connections.{relocating}
use Rattle.std.proofs.Common.{rules, tests}

pub returns : goal.returns
returns g c = c.has.ensures.by_function (λ d. relocating d.state) (λ d r k. search (rules, tests))
