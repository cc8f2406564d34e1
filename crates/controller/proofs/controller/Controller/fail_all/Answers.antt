use Rattle.std.proofs.Common.{◌≡◌, ◌+◌, ◌<◌, length, sym, ap, ◌∙◌, arith}
use Rattle.controller.proofs.Gaves.{toward_then, toward_end, toward_as}
use Rattle.controller.proofs.Leaving.{fail_turn, fail_shorter, fail_none}
use Rattle.controller.proofs.controller.Controller.fail_all.Goals as goal
use Rattle.controller.specs.View.{view}
use Rattle.controller.specs.Whose.{fail_meant}

pub loop-q-smaller : goal.loop-q-smaller
loop-q-smaller g c =
    let m = g.P.RadioPool.radio in
    let s = g.P.RadioPool.state in
    let x = view m s c.loop-q.self in
    let y = view m s c.fail_waiting.new.self in
    let short : length y.queue + 1 ≡ length x.queue = ap (λ w. length w.queue + 1) c.fail_waiting.ensures.state ∙ fail_shorter c.args.cause x c.in-Some.q c.in-Some.ensures.waits in
    let less : length y.queue < length x.queue = omega (arith, short) in
    less

pub loop-q-preserved : goal.loop-q-preserved
loop-q-preserved g c = λ t gives.
    let x = view g.P.RadioPool.radio g.P.RadioPool.state c.loop-q.self in
    toward_then (fail_meant c.args.cause t)
    (toward_as (fail_turn c.args.cause x t c.in-Some.q (sym (c.in-Some.ensures.first t gives))) (c.loop-q.invariant t gives)) c.fail_waiting.ensures

pub returns : goal.returns
returns g c = λ t gives.
    let x = view g.P.RadioPool.radio g.P.RadioPool.state c.loop-q.self in
    toward_end (toward_as (fail_none c.args.cause x t (sym (c.in_default.ensures.first t gives))) (c.loop-q.invariant t gives))
