use Rattle.std.proofs.Common.{◌≤◌, length, None, sym, arith, rules}
use Rattle.bounds.proofs.Bound.{handled_few}
use Rattle.bounds.proofs.Frames.{received_few}
use Rattle.controller.proofs.Obeys.{obeyed, small, long_list, frame_answers}
use Rattle.controller.proofs.controller.Controller.frame.Goals as goal
use Rattle.controller.specs.View.{view}
use Rattle.ranap.specs.View.{saying}
use Rattle.rules.specs.Events.{handled}
use Rattle.rules.specs.Frame.{received}

pub returns : goal.returns
returns g c =
    let m = g.P.RadioPool.radio in
    let s = g.P.RadioPool.state in
    let x = view m s c.args.self.now in
    let l = c.args.reports.now in
    let bs = c.args.bytes.now in
    let h = saying c.in_ok-message.message in
    let is = c.in_ok-message.ensures.answer in
    let few = handled_few x (small m s c.args.self.now) h (received_few bs h (sym is)) in
    let long = long_list (length l) None (c.in_ok-check_list.ensures) in
    let fits : length (handled h x).reports ≤ length l = omega (arith, long, few) in
    let done = frame_answers (received bs) h is long (c.in_ok-check_message.ensures) (obeyed fits c.new-sheet.ensures.page c.handle.ensures c.count.ensures) in
    record { answer = done.answer; state = done.state; list = let told = done.list in search rules }
