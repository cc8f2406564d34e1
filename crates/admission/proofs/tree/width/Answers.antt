use Rattle.std.proofs.Common.{◌≡◌, ◌^◌, ◌∙◌, arith}
use Rattle.admission.specs.Tree.{rounded}
use Rattle.admission.specs.Widths.{power_is_rounded}
use Rattle.admission.proofs.tree.width.Goals as goal

pub returns : goal.returns
returns c =
    let r = c.next_power_of_two.result in
    let k = c.next_power_of_two.ensures.power.0 in
    let p : r ≡ 2 ^ k = c.next_power_of_two.ensures.power.1 in
    let e : r ≡ rounded c.args.size = p ∙ power_is_rounded c.args.size k (omega arith) (omega arith) (grind arith) in
    record { value = e; some = omega arith }
