use Rattle.admission.specs.Rate.{rates}
use Rattle.admission.specs.Tree.{codes}
use Rattle.rabctl.proofs.Alone.{both}
use Rattle.rabctl.proofs.cabinet.answers_alone.Goals as goal

pub returns : goal.returns
returns c = both rates codes
