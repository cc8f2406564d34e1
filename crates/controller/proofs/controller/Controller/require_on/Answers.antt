use Rattle.controller.proofs.Notified.{none_spared}
use Rattle.controller.proofs.controller.Controller.require_on.Goals as goal
use Rattle.controller.specs.Page.{Wrote}
use Rattle.controller.specs.View.{view}
use Rattle.rules.specs.Connections.{places_of}
use Rattle.rules.specs.Relocation.{required}
use Rattle.std.proofs.Common.{map, subst}

pub returns : goal.returns
returns g c =
    let x = view g.P.RadioPool.radio g.P.RadioPool.state c.args.self.now in
    record {
      state = c.run_relocation.ensures;
      wrote = subst (λ ps. Wrote (map required ps) c.args.sheet.now c.notify_on.new.sheet) (none_spared (places_of c.args.ue x)) c.notify_on.ensures;
    }
