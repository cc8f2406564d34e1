use Rattle.runs.proofs.Reports.{every_few}
use Rattle.runs.proofs.next_call_bounded.Goals as goal
use Rattle.runs.specs.Law.{Laws}

pub returns : goal.returns
returns g c =
    let met = g.met.P.RadioPool in
    let laws : Laws g.P.RadioPool.radio = record { lawful = met.lawful; taken = met.taken; given = met.given } in
    every_few laws
