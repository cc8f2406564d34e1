use Rattle.bearers.proofs.Numbered.{under}
use Rattle.bearers.proofs.tickets.Tickets.at.Goals as goal
use Rattle.std.proofs.Common.{None}

pub returns : goal.returns
returns c = under None c.args.self.now.all c.args.number c.at.result c.at.ensures
