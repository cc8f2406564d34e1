use Rattle.std.proofs.Common.{refl}
use Rattle.admission.specs.Ranges.{all_from, first_from}
use Rattle.admission.specs.Sums.{total}
use Rattle.shown.proofs.shown_pools.Goals as goal

pub returns : goal.returns
unfolding all_from first_from total
returns c = record {
  four_held = refl;
  four_32 = refl;
  four_33 = refl;
  sixteen_1 = refl;
  gaps_16 = refl;
  gaps_17 = refl;
  ten_2 = refl;
  ten_3 = refl;
  ten_named_3 = refl;
}
