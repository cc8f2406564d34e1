use Rattle.controller.proofs.Gaves.{gave_then}
use Rattle.controller.proofs.controller.Controller.take_turn.Goals as goal
use Rattle.rules.specs.Queue.{serve}

pub returns : goal.returns
returns g c = gave_then serve c.take_item.ensures c.serve.ensures
