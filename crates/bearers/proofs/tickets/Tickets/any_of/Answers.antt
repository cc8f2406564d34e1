use Rattle.bearers.proofs.Anys.{any_ticket_is}
use Rattle.bearers.proofs.tickets.Tickets.any_of.Goals as goal
use Rattle.rules.specs.Relocation.{ticket_of}
use Rattle.std.proofs.Common.{rules, arith, ◌∙◌}
use Rattle.std.proofs.lemmas.Grind.{common_steps}
use Rattle.std.proofs.lemmas.Iterator.{YieldsList-from_slice}
use Rattle.std.proofs.lemmas.Iterator.Search.{any_from_yields_List}

pub returns : goal.returns
returns c =
    any_from_yields_List (ticket_of c.args.ue) _ _ _ c.any.ensures.ran (YieldsList-from_slice c.args.self.now.all cc) (λ x b q k. (search rules, grind (arith, common_steps))) ∙ any_ticket_is c.args.ue c.args.self.now.all
