use Rattle.admission.specs.Member.{member}
use Rattle.rabctl.proofs.Naming.{one_more, at_start, at_end}
use Rattle.rabctl.proofs.grants.named_set.Goals as goal
use Rattle.std.proofs.Common.{sym, ◌∙◌}

pub loop-grant-init : goal.loop-grant-init
loop-grant-init c = at_start _ c.args.named.now c.empty-set.ensures

pub loop-grant-preserved : goal.loop-grant-preserved
loop-grant-preserved c =
    one_more (member c.loop-grant.set) (member c.insert.new.self) c.args.named.now c.loop-grant.grant-index
    c.loop-grant-test.true c.insert.ensures ∙ c.loop-grant.invariant

pub returns : goal.returns
returns c =
    sym (at_end (member c.loop-grant.set) c.args.named.now c.loop-grant.grant-index c.loop-grant-test.false) ∙
    c.loop-grant.invariant
