use Rattle.laws.proofs.Frames.{releases_first}
use Rattle.laws.proofs.releases_come_first.Goals as goal

pub returns : goal.returns
returns g c = releases_first g.P.RadioPool.radio
