use Rattle.ranap.proofs.Receipt.{receives}
use Rattle.ranap.proofs.receiver.receive.Goals as goal
use Rattle.ranap.specs.View.{saying}
use Rattle.std.proofs.Common.{Ok, rules}

pub returns-in_err-message-clause-accepted : goal.returns-in_err-message-clause-accepted
returns-in_err-message-clause-accepted c = receives c.args.frame.now _ (search rules)

pub returns-clause-accepted : goal.returns-clause-accepted
returns-clause-accepted c = receives c.args.frame.now (Ok (saying c.in_ok-message.message)) (search rules)
