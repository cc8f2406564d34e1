use Rattle.laws.proofs.Outcomes.{items_answered}
use Rattle.laws.proofs.each_item_answered_once.Goals as goal

pub returns : goal.returns
returns g c = items_answered g.P.RadioPool.radio
