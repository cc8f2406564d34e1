use Rattle.controller.proofs.controller.Controller.first_of.Goals as goal
use Rattle.controller.specs.Due.{due}
use Rattle.controller.specs.View.{view}
use Rattle.rules.specs.Preemption.{admitted}
use Rattle.std.proofs.Common.{◌∙◌, rules, tests}
use Rattle.std.proofs.lemmas.Iterator.{YieldsList-from_slice}
use Rattle.std.proofs.lemmas.Iterator.Search.{find_from_yields_List}

pub returns : goal.returns
returns g c =
    let x = view g.P.RadioPool.radio g.P.RadioPool.state c.args.self.now in
    c.copied.ensures ∙ find_from_yields_List (due c.args.level (admitted x)) _ _ c.find.result c.find.ensures.ran (YieldsList-from_slice x.queue (cc)) (λ q b f k. search (rules, tests))
