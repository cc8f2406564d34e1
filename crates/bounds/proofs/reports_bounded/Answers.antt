use Rattle.bounds.proofs.Bound.{reports_within}
use Rattle.bounds.proofs.Frames.{received_few}
use Rattle.bounds.proofs.reports_bounded.Goals as goal

pub returns : goal.returns
returns g c = record { items = received_few; reports = reports_within g.P.RadioPool.radio }
