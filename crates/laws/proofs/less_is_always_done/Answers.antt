use Rattle.laws.proofs.Less.{less_done}
use Rattle.laws.proofs.less_is_always_done.Goals as goal

pub returns : goal.returns
returns g c = less_done g.P.RadioPool.radio g.met.P.RadioPool.lawful
