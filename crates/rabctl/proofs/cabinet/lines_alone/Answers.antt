use Rattle.rabctl.proofs.Own.{lines_alone}
use Rattle.rabctl.proofs.cabinet.lines_alone.Goals as goal

pub returns : goal.returns
returns c = lines_alone
