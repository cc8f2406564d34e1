use Rattle.laws.proofs.Reasons.{smallest_wins}
use Rattle.laws.proofs.smallest_reason_wins.Goals as goal

pub returns : goal.returns
returns g c = smallest_wins g.P.RadioPool.radio
