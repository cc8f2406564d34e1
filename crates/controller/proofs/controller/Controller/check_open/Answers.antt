use Rattle.controller.proofs.Domains.{code_of, none_has}
use Rattle.controller.proofs.controller.Controller.check_open.Goals as goal
use Rattle.controller.specs.View.{view}
use Rattle.std.proofs.Common.{rules}

pub returns-in_default : goal.returns-in_default
returns-in_default g c =
    let none = none_has c.args.ue c.args.code (view g.P.RadioPool.radio g.P.RadioPool.state c.args.self.now).connections (c.in_default.ensures).0 in
    search rules

pub returns : goal.returns
returns g c =
    let code = code_of c.args.code c.in-Ok.domain c.in-Ok.ensures in
    search rules
