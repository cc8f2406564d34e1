use Rattle.std.proofs.Common.{refl}
use Rattle.rules.specs.Rulebook.{rulebook}
use Rattle.admission.specs.Ranges.{all_from, first_from}
use Rattle.admission.specs.Sums.{total}
use Rattle.shown.proofs.shown_runs.Goals as goal

pub returns : goal.returns
unfolding rulebook all_from first_from total
returns c = record {
  run_1_asks = refl;
  run_1 = refl;
  run_1_held = refl;
  run_2_small = refl;
  run_2_small_held = refl;
  run_2_large = refl;
  run_2_waits = refl;
  run_3 = refl;
  run_3_held = refl;
  run_4 = refl;
  run_4_waits = refl;
  run_5_higher = refl;
  run_5_higher_held = refl;
  run_5_equal = refl;
  run_6_fits = refl;
  run_6_not = refl;
  run_7_read = refl;
  run_7_told = refl;
  run_7_refused = refl;
  run_7_nothing = refl;
}
