use Rattle.std.proofs.Common.{ℕ, ◌^◌, ◌∙◌, arith, rules, tests}
use Rattle.std.specs.List.{range_with_len}
use Rattle.std.proofs.lemmas.Iterator.{YieldsList-from_range, YieldsList-from_map}
use Rattle.std.proofs.lemmas.Iterator.Adapters.{at_most_from_yields_List, fits_from_length}
use Rattle.std.proofs.lemmas.Iterator.Consumers.{YieldsList-at, sum_by_from_yields_List}
use Rattle.admission.specs.Member.{member}
use Rattle.admission.specs.Sums.{without}
use Rattle.admission.specs.Views.{size_of}
use Rattle.admission.proofs.Loads.{sum_is_total}
use Rattle.admission.proofs.rate.RatePool.load.Goals as goal

-- at most 64 sizes, each a byte
pub sum-requires-clause-fits : goal.sum-requires-clause-fits
sum-requires-clause-fits c =
    fits_from_length _ _ 64 (2 ^ 16) (at_most_from_yields_List (YieldsList-from_range 0 64 64 (cc) (omega arith)) (omega arith)) c.map.ensures.closure (omega arith)
    (λ x r q k. search (rules, tests))

pub returns : goal.returns
returns c =
    let left : ℕ → ℕ = without (member c.args.given.now) (size_of c.args.self.now.sizes) in
    sum_by_from_yields_List left (range_with_len 0 64) c.map.result c.sum.result c.sum.ensures.ran
    (YieldsList-from_map _ left
    (YieldsList-at c.map.ensures.source (YieldsList-from_range 0 64 64 (cc) (omega arith)))
    c.map.ensures.closure (λ x r q k. search (rules, tests))) ∙ sum_is_total left 64
