use Rattle.bearers.proofs.tables.RabTables.known.Goals as goal
use Rattle.bearers.specs.View.{bearers_of, queue_of}
use Rattle.rules.specs.Tables.{fresh}
use Rattle.std.proofs.Common.{◌≡◌, length, filter, rules, arith}
use Rattle.std.proofs.lemmas.Iterator.{YieldsList-from_slice}
use Rattle.std.proofs.lemmas.Iterator.Consumers.{count_from_yields_List, YieldsList-from_filter, YieldsList-at}
use borrow.Author.Tests.{tests}

pub returns : goal.returns
returns c =
    let bs = bearers_of c.args.self.now in
    let qs = queue_of c.args.self.now in
    let new : c.count.result ≡ length (filter (fresh bs) qs) = count_from_yields_List _ _ c.count.ensures.ran (YieldsList-from_filter _ (fresh bs) (YieldsList-at c.filter-waiting.ensures.source (YieldsList-from_slice qs (cc))) c.filter-waiting.ensures.closure (λ x b q k. search (rules, tests))) in
    omega (arith, new, c.len.ensures)
