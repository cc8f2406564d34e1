use Rattle.bearers.specs.View.{queue_of}
use Rattle.controller.proofs.Waiters.{first_any}
use Rattle.controller.proofs.controller.Controller.is_queuing.Goals as goal
use Rattle.rules.specs.Tables.{is_some, waits_at}
use Rattle.std.proofs.Common.{ap, ◌∙◌, rules}

pub returns : goal.returns
returns g c =
    let waits = ap is_some c.request_at.ensures ∙ first_any (waits_at c.args.place) (queue_of c.args.self.now.rabs) in
    search rules
