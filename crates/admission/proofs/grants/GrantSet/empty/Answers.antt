use mathlib.Core.Path.{fun_ext}
use Rattle.std.proofs.Common.{false}
use Rattle.admission.proofs.Arrays.{same_throughout}
use Rattle.admission.proofs.grants.GrantSet.empty.Goals as goal

pub returns : goal.returns
returns c = fun_ext (same_throughout false 64)
