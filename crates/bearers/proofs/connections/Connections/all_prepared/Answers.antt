use Rattle.bearers.proofs.Anys.{each_is}
use Rattle.bearers.proofs.connections.Connections.all_prepared.Goals as goal
use Rattle.rules.specs.Connections.{of_ue, prepared}
use Rattle.std.proofs.Common.{rules, ◌∙◌}
use Rattle.std.proofs.lemmas.Iterator.{YieldsList-from_slice}
use Rattle.std.proofs.lemmas.Iterator.Consumers.{YieldsList-from_filter, YieldsList-at}
use Rattle.std.proofs.lemmas.Iterator.Search.{all_from_yields_List}
use borrow.Author.Tests.{tests}

pub returns : goal.returns
returns c =
    let own = of_ue c.args.ue in
    all_from_yields_List (λ k. prepared k.state) _ _ c.all.result c.all.ensures.ran
    (YieldsList-from_filter _ own (YieldsList-at c.filter.ensures.source (YieldsList-from_slice c.args.self.now.all cc)) c.filter.ensures.closure (λ x b q k. search (rules, tests)))
    (λ x b q k. search (rules, tests)) ∙ each_is c.args.ue prepared c.args.self.now.all
