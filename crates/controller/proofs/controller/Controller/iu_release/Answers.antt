use Rattle.controller.proofs.Gaves.{gave_then}
use Rattle.controller.proofs.controller.Controller.iu_release.Goals as goal
use Rattle.rules.specs.Actions.{fail_all}
use Rattle.rules.specs.Events.{drop_place, close, iu_release}
use Rattle.rules.specs.Queue.{serve}
use Rattle.rules.specs.State.{then}
use Rattle.rules.specs.Tables.{waits_at}
use Rattle.rules.specs.declared.report.Cause.TheVariants.{IuReleased}

pub returns : goal.returns
unfolding iu_release
returns g c =
    let p = c.args.place in
    gave_then (λ y. then (fail_all IuReleased (waits_at p) y) λ z. then (drop_place p z) λ w. serve (close p w)) c.end_if_running.ensures
    (gave_then (λ z. then (drop_place p z) λ w. serve (close p w)) c.fail_all_at.ensures
    (gave_then (λ w. serve (close p w)) c.drop_place.ensures c.close_and_serve.ensures))
