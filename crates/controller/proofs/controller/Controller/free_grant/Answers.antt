use Rattle.bearers.proofs.Frees.{free_found}
use Rattle.controller.proofs.controller.Controller.free_grant.Goals as goal
use Rattle.std.proofs.Common.{◌≡◌, ℕ, true, false, eqb, ◌∙◌, rules, tests}
use Rattle.std.proofs.lemmas.Iterator.{first_from_Range}

pub returns-clause-answer : goal.returns-clause-answer
returns-clause-answer g c =
    let x = g.P.RadioPool.state c.args.self.now.pool in
    let free = λ (k : ℕ). eqb (g.P.RadioPool.radio.holds x k) 0 in
    c.unwrap_or.ensures ∙ free_found free 63 c.find.result
    (first_from_Range _ _ _ _ (λ i. free i ≡ true) (λ i. free i ≡ false) c.find.ensures.ran (λ k q f. search (rules, tests)) (λ k q f. search (rules, tests)))
