use Rattle.controller.proofs.Notified.{none_spared}
use Rattle.controller.proofs.controller.Controller.cancel_all.Goals as goal
use Rattle.controller.specs.Page.{Wrote}
use Rattle.controller.specs.View.{view}
use Rattle.rules.specs.Connections.{places_of}
use Rattle.rules.specs.Relocation.{cancel}
use Rattle.std.proofs.Common.{map, subst}

pub returns : goal.returns
returns g c =
    let x = view g.P.RadioPool.radio g.P.RadioPool.state c.args.self.now in
    record {
      state = c.end_relocation.ensures;
      wrote = subst (λ ps. Wrote (map (cancel c.args.cause) ps) c.args.sheet.now c.notify_on.new.sheet) (none_spared (places_of c.args.ue x)) c.notify_on.ensures;
    }
