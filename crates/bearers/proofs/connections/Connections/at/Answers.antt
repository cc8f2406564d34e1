use Rattle.bearers.proofs.Numbered.{under}
use Rattle.bearers.proofs.connections.Connections.at.Goals as goal
use Rattle.rules.specs.Connections.{vacant}

pub returns : goal.returns
returns c = under vacant c.args.self.now.all c.args.place c.at.result c.at.ensures
