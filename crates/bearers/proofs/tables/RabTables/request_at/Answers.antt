use Rattle.bearers.proofs.tables.RabTables.request_at.Goals as goal
use Rattle.bearers.specs.View.{queue_of}
use Rattle.rules.specs.Tables.{waits_at}
use Rattle.std.proofs.Common.{rules, ◌∙◌}
use Rattle.std.proofs.lemmas.Iterator.{YieldsList-from_slice}
use Rattle.std.proofs.lemmas.Iterator.Search.{find_from_yields_List}
use borrow.Author.Tests.{tests}

pub returns : goal.returns
returns c =
    c.copied.ensures ∙ find_from_yields_List (waits_at c.args.place) _ _ c.find.result c.find.ensures.ran (YieldsList-from_slice (queue_of c.args.self.now) cc) (λ x b q k. search (rules, tests))
