use Rattle.controller.proofs.Gaves.{gave_then, gave_as}
use Rattle.controller.proofs.controller.Controller.release.Goals as goal
use Rattle.controller.specs.View.{view}
use Rattle.rules.specs.Actions.{drop_bearer}
use Rattle.rules.specs.Request.{release_known, release}
use Rattle.rules.specs.declared.report.Cause.TheVariants as cause
use Rattle.rules.specs.declared.report.ReportKind.TheVariants as kind
use Rattle.std.proofs.Common.{ap}

pub returns-in-None : goal.returns-in-None
unfolding release
returns-in-None g c =
    let x = view g.P.RadioPool.radio g.P.RadioPool.state c.args.self.now in
    gave_as (ap (λ o. release_known o c.args.place c.args.rab x) c.in-None.ensures.answer) c.release_unset.ensures

pub returns-in-Some : goal.returns-in-Some
unfolding release
returns-in-Some g c =
    let x = view g.P.RadioPool.radio g.P.RadioPool.state c.args.self.now in
    gave_as (ap (λ o. release_known o c.args.place c.args.rab x) c.in-Some.ensures.answer)
    (gave_then (drop_bearer kind.Released cause.NoCause c.in-Some.b) c.supersede.ensures c.drop_bearer.ensures)
