use Rattle.script.proofs.Values.{tried}
use Rattle.std.proofs.lemmas.Bool.Decides.{nat_tests}
use Rattle.std.proofs.lemmas.Iterator.{YieldsList-from_slice}
use Rattle.std.proofs.Common.{◌^◌, ◌<◌, arith, rules}
use Rattle.script.proofs.number.value_up_to.Goals as goal

pub returns : goal.returns
returns c =
    let word = c.args.word.now in
    let whole = tried _ _ (λ f n x v f' k. search rules) _ _ _ c.try_fold.result word (YieldsList-from_slice word cc) c.try_fold.ensures.ran in
    let fits : c.args.most < 2 ^ 32 = search rules in
    grind (arith, nat_tests)
