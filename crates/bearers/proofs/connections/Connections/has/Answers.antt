use Rattle.std.proofs.Common.{rules, ◌&&◌, ◌∙◌, Bool, true, false, arith}
use Rattle.rules.specs.Connections.{of_ue}
use Rattle.bearers.proofs.Anys.{any_connection_is}
use Rattle.bearers.specs.Closures.{AnswersOfUe}
use Rattle.bearers.proofs.connections.Connections.has.Goals as goal
use Rattle.rules.specs.declared.connection.Connection.{Connection}
use Rattle.std.proofs.lemmas.Iterator.{YieldsList-from_slice, cases_from_any}
use Rattle.std.proofs.lemmas.Iterator.Search.{any_from_yields_List}
use Rattle.std.proofs.lemmas.Grind.{common_steps}
use Rattle.std.specs.Fn.{FnReturnsAt}
use borrow.Author.Tests.{tests}

pub returns-clause-by_function : goal.returns-clause-by_function
returns-clause-by_function g c = λ t computes. any_from_yields_List (λ k. of_ue c.args.ue k && t k) _ _ _ c.any.ensures.ran (YieldsList-from_slice c.args.self.now.all cc) (λ x b q k. (search (rules, tests), grind (arith, common_steps, computes))) ∙ (any_connection_is (λ k. of_ue c.args.ue k && t k) c.args.self.now.all)

pub returns-clause-each : goal.returns-clause-each
returns-clause-each g c =
    let answers : Connection → Bool → Type 0 = AnswersOfUe c.args.ue (FnReturnsAt g.F.Fn c.args.test) in
    cases_from_any _ _ c.any.result (λ k. answers k true) (λ k. answers k false) c.any.ensures.ran (YieldsList-from_slice c.args.self.now.all cc) (λ x q k. search (rules, tests)) (λ x q k. (search (rules, tests), search (rules, tests)))
