use Rattle.std.proofs.Common.{rules}
use Rattle.rules.specs.Connections.{reopened}
use Rattle.bearers.proofs.connections.Connections.reopen.Goals as goal

pub returns : goal.returns
returns c = c.change.ensures.by_function reopened (λ s r p. search rules)
