use Rattle.controller.proofs.Served.{served_waitable}
use Rattle.controller.proofs.controller.Controller.serve_one.Goals as goal
use Rattle.controller.proofs.controller.Controller.serve_one.Goals.{After-remove_request}
use Rattle.controller.specs.Turn.{Waitable}
use Rattle.controller.specs.View.{view}
use Rattle.rules.specs.State.{State}
use Rattle.rules.specs.Tables.{without_request}
use Rattle.std.proofs.Common.{◌≡◌, sym, subst}

pub carry_out-requires : goal.carry_out-requires
carry_out-requires g c =
    let m = g.P.RadioPool.radio in
    let s = g.P.RadioPool.state in
    let x = view m s c.args.self.now in
    let q = c.args.q.now in
    let t = c.args.self.now.rabs in
    let w = served_waitable x q (record { sorted = t.sorted; single = t.single; few = t.few; ranges = t.ranges }) c.requires in
    let left : ◌≡◌ {A = State m} (record { number = x.number; connections = x.connections; bearers = x.bearers; queue = without_request q.place q.rab x.queue; tickets = x.tickets; pool = x.pool })
    (view m s (record { number = c.args.self.now.number; connections = c.args.self.now.connections; rabs = c.remove_request.new.self; tickets = c.args.self.now.tickets; pool = c.args.self.now.pool })) =
    λ i. record { number = x.number; connections = x.connections; bearers = sym c.remove_request.ensures.bearers i; queue = sym c.remove_request.ensures.queue i; tickets = x.tickets; pool = x.pool }
    in
    subst (Waitable q) left w
