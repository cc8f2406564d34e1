use Rattle.std.proofs.Common.{◌≡◌, ◌+◌, ◌<◌, length, sym, ap, ◌∙◌, arith}
use Rattle.controller.proofs.Gaves.{toward_then, toward_end, toward_as}
use Rattle.controller.proofs.Leaving.{drop_turn, drop_shorter, drop_none}
use Rattle.controller.proofs.controller.Controller.drop_place.Goals as goal
use Rattle.controller.specs.View.{view}
use Rattle.rules.specs.Events.{drop_place}

pub loop-b-smaller : goal.loop-b-smaller
loop-b-smaller g c =
    let m = g.P.RadioPool.radio in
    let s = g.P.RadioPool.state in
    let x = view m s c.loop-b.self in
    let y = view m s c.drop_bearer.new.self in
    let short : length y.bearers + 1 ≡ length x.bearers = ap (λ w. length w.bearers + 1) c.drop_bearer.ensures.state ∙ drop_shorter c.args.place x c.in-Some.b (sym c.in-Some.ensures) in
    let less : length y.bearers < length x.bearers = omega (arith, short) in
    less

pub loop-b-preserved : goal.loop-b-preserved
loop-b-preserved g c =
    let x = view g.P.RadioPool.radio g.P.RadioPool.state c.loop-b.self in
    toward_then (drop_place c.args.place) (toward_as (drop_turn c.args.place x c.in-Some.b (sym c.in-Some.ensures)) c.loop-b.invariant) c.drop_bearer.ensures

pub returns : goal.returns
returns g c =
    let x = view g.P.RadioPool.radio g.P.RadioPool.state c.loop-b.self in
    toward_end (toward_as (drop_none c.args.place x (sym c.in_default.ensures)) c.loop-b.invariant)
