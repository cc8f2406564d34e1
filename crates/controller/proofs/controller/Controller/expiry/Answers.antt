use Rattle.std.proofs.Common.{◌≤◌, length, sym, ap, arith, rules}
use Rattle.bounds.proofs.Bound.{expires_few}
use Rattle.controller.proofs.Gaves.{gave_as}
use Rattle.controller.proofs.Obeys.{obeyed, small, answers, long_list}
use Rattle.controller.proofs.controller.Controller.expiry.Goals as goal
use Rattle.controller.specs.View.{view}
use Rattle.rules.specs.Numbers.{timer_of}
use Rattle.rules.specs.Refusals.{expiry_refusal}
use Rattle.rules.specs.Timers.{expires}

pub returns : goal.returns
returns g c =
    let m = g.P.RadioPool.radio in
    let s = g.P.RadioPool.state in
    let x = view m s c.args.self.now in
    let l = c.args.reports.now in
    let p = c.args.place in
    let t = c.args.timer in
    let (none, named) = c.in_ok-timer.ensures in
    let long = long_list (length l) (expiry_refusal 288 p t x) none in
    let few = expires_few x (small m s c.args.self.now) (timer_of t) p in
    let fits : length (expires (timer_of t) p x).reports ≤ length l = omega (arith, long, few) in
    let did = gave_as (ap (λ o. expires o p x) (sym named)) c.expire.ensures in
    let done = answers (λ n. n) (expiry_refusal (length l) p t x) none (obeyed fits c.new-sheet.ensures.page did c.count.ensures) in
    record { answer = done.answer; state = done.state; list = let told = done.list in search rules }
