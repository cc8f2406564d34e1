use Rattle.controller.proofs.controller.making.give_back_all.Goals as goal
use Rattle.std.proofs.Common.{sym, refl, ap, ◌∙◌, add-one, arith}
use Rattle.rules.specs.Calls.{given_back}
use Rattle.rules.specs.Radio.{after_give}

pub loop-grant-init : goal.loop-grant-init
unfolding given_back
loop-grant-init g c = (refl, omega arith)

pub loop-grant-preserved : goal.loop-grant-preserved
unfolding given_back
loop-grant-preserved g c =
    let m = g.P.RadioPool.radio in
    let k = c.loop-grant.grant in
    let y = g.P.RadioPool.state c.args.pool.now in (
      c.give.ensures.state ∙ ap (λ z. after_give m z k) c.loop-grant.invariant.0 ∙ ap (λ n. given_back m n y) (sym (add-one k)),
      omega (arith, c.loop-grant-test.true),
    )
