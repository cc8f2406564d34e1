use Rattle.std.proofs.Common.{ap, ◌∙◌, sym, inr}
use Rattle.admission.specs.Rate.{rates}
use Rattle.admission.specs.Tree.{codes}
use Rattle.admission.specs.Views.{tree_of}
use Rattle.rabctl.specs.Cabinets.{pools, pool_of}
use Rattle.rabctl.proofs.Alone.{second}
use Rattle.rabctl.proofs.cabinet.PoolRadioPool.take.Goals as goal
use Rattle.rules.specs.Radio.{after_take}

pub returns-in-Tree-clause-state : goal.returns-in-Tree-clause-state
returns-in-Tree-clause-state c =
    ap inr c.take-in-Tree.ensures.state ∙
    sym ((second rates codes).take_leaves (tree_of c.in-Tree.tree) c.args.grant c.args.size) ∙
    ap (λ p. after_take pools (pool_of p) c.args.grant c.args.size) (sym c.in-Tree.is)
