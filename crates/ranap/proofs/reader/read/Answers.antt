use Rattle.ranap.proofs.Accepts.{reads}
use Rattle.ranap.proofs.Chain.{frame_after}
use Rattle.ranap.proofs.reader.read.Goals as goal
use Rattle.ranap.specs.Head.{head_of}
use Rattle.ranap.specs.View.{answered, saying}
use Rattle.std.proofs.Common.{◌≡◌, Ok, rules}

pub returns-in_err-head : goal.returns-in_err-head
returns-in_err-head c =
    let bs = c.args.frame.now in
    let after : answered c.from_residual.result ≡ frame_after (head_of bs) bs = search rules in
    let told = reads bs _ after in
    record { answer = told.0; formed = told.1 }

pub returns-in_err-items : goal.returns-in_err-items
returns-in_err-items c =
    let bs = c.args.frame.now in
    let after : answered c.from_residual-in_err-items.result ≡ frame_after (head_of bs) bs = search rules in
    let told = reads bs _ after in
    record { answer = told.0; formed = told.1 }

pub returns : goal.returns
returns c =
    let bs = c.args.frame.now in
    let after : Ok (saying c.message_of.result) ≡ frame_after (head_of bs) bs = search rules in
    let told = reads bs _ after in
    record { answer = told.0; formed = told.1 }
