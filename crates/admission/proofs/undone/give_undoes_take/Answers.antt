use Rattle.admission.proofs.Undoing.{give_undoes_take}
use Rattle.admission.proofs.undone.give_undoes_take.Goals as goal

pub returns : goal.returns
returns g c = give_undoes_take g.P.RadioPool.radio g.met.P.RadioPool.lawful g.met.P.RadioPool.taken g.met.P.RadioPool.given
