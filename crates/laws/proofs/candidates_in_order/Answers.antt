use Rattle.laws.proofs.Fronts.{right_candidates}
use Rattle.laws.proofs.candidates_in_order.Goals as goal

pub returns : goal.returns
returns g c = right_candidates g.P.RadioPool.radio
