use Rattle.bearers.proofs.Firsts.{waits_first}
use Rattle.bearers.proofs.tables.RabTables.request.Goals as goal
use Rattle.bearers.specs.View.{queue_of}
use Rattle.rules.specs.Tables.{asks_for}
use Rattle.std.proofs.Common.{rules, sym, ◌∙◌}
use Rattle.std.proofs.lemmas.Iterator.{YieldsList-from_slice}
use Rattle.std.proofs.lemmas.Iterator.Search.{find_from_yields_List}
use borrow.Author.Tests.{tests}

pub returns : goal.returns
returns c =
    c.copied.ensures ∙ find_from_yields_List (asks_for c.args.place c.args.rab) _ _ c.find.result c.find.ensures.ran (YieldsList-from_slice (queue_of c.args.self.now) cc) (λ x b q k. search (rules, tests)) ∙
    sym (waits_first c.args.place c.args.rab (queue_of c.args.self.now))
