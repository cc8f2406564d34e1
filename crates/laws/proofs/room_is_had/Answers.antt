use Rattle.laws.proofs.Given.{Laws}
use Rattle.laws.proofs.Granted.{room_had}
use Rattle.laws.proofs.room_is_had.Goals as goal

pub returns : goal.returns
returns g c =
    let met = g.met.P.RadioPool in
    let laws : Laws g.P.RadioPool.radio = record { lawful = met.lawful; taken = met.taken; given = met.given } in
    room_had g.P.RadioPool.radio laws
