use Rattle.std.proofs.Common.{refl}
use Rattle.rules.specs.Rulebook.{rulebook}
use Rattle.admission.specs.Ranges.{all_from, first_from}
use Rattle.admission.specs.Sums.{total}
use Rattle.shown.proofs.shown_pitfalls.Goals as goal

pub returns : goal.returns
unfolding rulebook all_from first_from total
returns c = record {
  filled = refl;
  both_wait = refl;
  swept = refl;
  served = refl;
  served_in_all = refl;
  served_held = refl;
  served_from = refl;
  level_15_by_14 = refl;
  level_15_by_1 = refl;
  level_14_by_13 = refl;
  crowd_known = refl;
  crowd_waits = refl;
  another = refl;
  the_same = refl;
}
