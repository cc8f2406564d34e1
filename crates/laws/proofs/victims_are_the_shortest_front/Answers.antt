use Rattle.laws.proofs.Fronts.{right_victims}
use Rattle.laws.proofs.victims_are_the_shortest_front.Goals as goal

pub returns : goal.returns
returns g c = right_victims g.P.RadioPool.radio
