use Rattle.ranap.proofs.Seen.{checks}
use Rattle.ranap.proofs.checker.check.Goals as goal

pub returns : goal.returns
returns c = record { answer = c.first_repeat.ensures; distinct = checks c.args.items.now _ c.first_repeat.ensures }
