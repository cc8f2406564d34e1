use Rattle.std.proofs.Common.{ap, ◌∙◌}
use Rattle.admission.specs.Views.{tree_of}
use Rattle.admission.proofs.TreeRules.{cleared}
use Rattle.admission.proofs.tree.CodeTreeRadioPool.give.Goals as goal

pub returns-clause-rule : goal.returns-clause-rule
returns-clause-rule c =
    let rule = cleared (tree_of c.args.self.now) c.args.grant in
    λ _. record { free = λ i e. ap (λ f. f i) c.move_out.ensures.owner ∙ rule.free i e; others = λ i ne. ap (λ f. f i) c.move_out.ensures.owner ∙ rule.others i ne }
