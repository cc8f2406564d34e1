use mathlib.Core.Path.{fun_ext}
use Rattle.admission.proofs.Arrays.{same_throughout}
use Rattle.admission.proofs.sizes.Sizes.empty.Goals as goal

pub returns : goal.returns
returns c = fun_ext (same_throughout 0 64)
