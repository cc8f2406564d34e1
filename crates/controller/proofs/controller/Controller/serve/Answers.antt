use Rattle.std.proofs.Common.{◌≡◌, suc, ◌+◌, ◌≤◌, length, sym, refl, ap, ◌∙◌, arith}
use Rattle.bearers.proofs.Known.{waiting_known}
use Rattle.bearers.proofs.Waiting.{apart_from}
use Rattle.bearers.specs.View.{bearers_of, queue_of}
use Rattle.controller.proofs.Gaves.{toward_then, toward_end, toward_as}
use Rattle.controller.proofs.Served.{serve_turn, serve_none, serve_empty, turn_shorter}
use Rattle.controller.proofs.controller.Controller.serve.Goals as goal
use Rattle.controller.specs.View.{view}
use Rattle.rules.specs.Queue.{serve_up_to}

pub loop-turn-init : goal.loop-turn-init
loop-turn-init g c =
    let t = c.args.self.now.rabs in
    let known = waiting_known (bearers_of t) (queue_of t) (apart_from (queue_of t) t.single) in
    let few : length (queue_of t) + 0 ≤ 64 = omega (arith, known, t.few) in
    (record { state = refl; leads = record { page = refl; same = refl } }, few)

pub loop-turn-preserved : goal.loop-turn-preserved
loop-turn-preserved g c =
    let m = g.P.RadioPool.radio in
    let s = g.P.RadioPool.state in
    let x = view m s c.loop-turn.self in
    let y = view m s c.serve_one.new.self in
    let e = sym c.in-Some.ensures in
    let short : length y.queue + 1 ≡ length x.queue = ap (λ w. length w.queue + 1) c.serve_one.ensures.state ∙ turn_shorter x c.in-Some.q e in
    let long : length x.queue ≡ suc (length y.queue) = omega (arith, short) in
    let turn = ap (λ n. serve_up_to n x) long ∙ serve_turn x c.in-Some.q (length y.queue) e in
    let few : length y.queue + (c.loop-turn.turn + 1) ≤ 64 = omega (arith, short, c.loop-turn.invariant.1) in
    (toward_then (serve_up_to (length y.queue)) (toward_as turn c.loop-turn.invariant.0) c.serve_one.ensures, few)

pub returns-in_default : goal.returns-in_default
returns-in_default g c =
    let x = view g.P.RadioPool.radio g.P.RadioPool.state c.loop-turn.self in
    toward_end (toward_as (serve_none x (length x.queue) (sym c.in_default.ensures)) c.loop-turn.invariant.0)

pub returns : goal.returns
returns g c =
    let x = view g.P.RadioPool.radio g.P.RadioPool.state c.loop-turn.self in
    let none : length x.queue ≡ 0 = omega (arith, c.loop-turn-test.false, c.loop-turn.invariant.1) in
    toward_end (toward_as (serve_empty x (length x.queue) none) c.loop-turn.invariant.0)
