use Rattle.std.proofs.Common.{◌≡◌, sym, subst, arith}
use Rattle.admission.specs.Rate.{Rate, Within, fresh}
use Rattle.admission.specs.Views.{size_of}
use Rattle.admission.specs.RateLaws.{fresh_within}
use Rattle.admission.proofs.rate.RatePool.new.Goals as goal

pub returns : goal.returns
returns c =
    let capacity : c.clamp.result ≡ (fresh c.args.capacity).capacity = omega (arith, c.clamp.ensures) in
    let e : ◌≡◌ {A = Rate} (record { capacity = c.clamp.result; sizes = size_of c.empty.result }) (fresh c.args.capacity) = λ i. record { capacity = capacity i; sizes = c.empty.ensures i } in
    record { state = e; sound = subst Within (sym e) (fresh_within c.args.capacity) }
