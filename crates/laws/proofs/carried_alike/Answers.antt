use Rattle.laws.proofs.Calls.{carried_alike}
use Rattle.laws.proofs.carried_alike.Goals as goal

pub returns : goal.returns
returns g c = carried_alike g.P.RadioPool.radio g.Q.RadioPool.radio
