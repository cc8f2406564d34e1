use Rattle.bearers.proofs.Frees.{free_found}
use Rattle.bearers.proofs.tickets.Tickets.free.Goals as goal
use Rattle.rules.specs.Tables.{is_some}
use Rattle.rules.specs.declared.connection.TicketRecord.{TicketRecord}
use Rattle.std.proofs.Common.{◌≡◌, ℕ, Bool, true, false, not, List, get_or, None, Option, rules}
use Rattle.std.proofs.lemmas.Iterator.{first_from_Range}
use borrow.Author.Tests.{tests}

-- no ticket out has the number
abbrev unused : List (Option TicketRecord) → ℕ → Bool
unused ts i = not (is_some (get_or ts i None))

pub returns-clause-answer : goal.returns-clause-answer
returns-clause-answer c =
    let ts = c.args.self.now.all in
    free_found (unused ts) 16 c.find.result (first_from_Range _ _ _ _ (λ i. unused ts i ≡ true) (λ i. unused ts i ≡ false) c.find.ensures.ran (λ x q k. search (rules, tests)) (λ x q k. search (rules, tests)))
