use Rattle.admission.specs.Member.{member}
use Rattle.rabctl.proofs.Naming.{with_named}
use Rattle.rabctl.proofs.grants.named_set.Given as goal
use Rattle.rabctl.specs.Grants.{named_set}
use Rattle.std.proofs.Common.{◌≡◌, drop}

abbrev pub invariant-loop-grant : goal.invariant-loop-grant
invariant-loop-grant l = with_named (member l.set) (drop l.grant-index l.named) ≡ named_set l.named
