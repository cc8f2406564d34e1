use Rattle.laws.proofs.Turns.{queue_in_order}
use Rattle.laws.proofs.queue_in_order.Goals as goal

pub returns : goal.returns
returns g c = queue_in_order g.P.RadioPool.radio
