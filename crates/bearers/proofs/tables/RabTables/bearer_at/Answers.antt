use Rattle.bearers.proofs.tables.RabTables.bearer_at.Goals as goal
use Rattle.bearers.specs.View.{bearers_of}
use Rattle.rules.specs.Tables.{stands_at}
use Rattle.std.proofs.Common.{rules, ◌∙◌}
use Rattle.std.proofs.lemmas.Iterator.{YieldsList-from_slice}
use Rattle.std.proofs.lemmas.Iterator.Search.{find_from_yields_List}
use borrow.Author.Tests.{tests}

pub returns : goal.returns
returns c =
    c.copied.ensures ∙ find_from_yields_List (stands_at c.args.place) _ _ c.find.result c.find.ensures.ran (YieldsList-from_slice (bearers_of c.args.self.now) cc) (λ x b q k. search (rules, tests))
