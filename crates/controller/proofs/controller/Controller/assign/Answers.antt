use Rattle.bearers.proofs.Waiting.{apart_from}
use Rattle.bearers.specs.View.{queue_of}
use Rattle.controller.proofs.Gaves.{gave_then}
use Rattle.controller.proofs.Supersedes.{waits_no_more}
use Rattle.controller.proofs.controller.Controller.assign.Goals as goal
use Rattle.controller.specs.View.{view}
use Rattle.rules.specs.Request.{assign_anew, assign}
use Rattle.rules.specs.Tables.{waits_as}
use Rattle.rules.specs.declared.report.Cause.TheVariants.{RequestSuperseded}
use Rattle.std.proofs.Common.{ap, ◌∙◌}

pub assign_anew-requires : goal.assign_anew-requires
assign_anew-requires g c =
    let x = view g.P.RadioPool.radio g.P.RadioPool.state c.args.self.now in
    let t = c.args.self.now.rabs in
    ap (λ y. waits_as c.args.place c.args.a.now.rab y.queue) c.supersede.ensures.state ∙
    waits_no_more RequestSuperseded c.args.place c.args.a.now.rab x (apart_from (queue_of t) t.single)

pub returns : goal.returns
unfolding assign
returns g c = gave_then (assign_anew c.args.place c.args.a.now) c.supersede.ensures c.assign_anew.ensures
