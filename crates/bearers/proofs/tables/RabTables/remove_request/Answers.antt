use Rattle.bearers.proofs.Firsts.{one_passes, waits_first, requests_but}
use Rattle.bearers.proofs.Keeps.{Kept, held, keeps_left}
use Rattle.bearers.proofs.Waiting.{apart_from, gone_without}
use Rattle.bearers.proofs.tables.RabTables.remove_request.Goals as goal
use Rattle.bearers.proofs.tables.RabTables.remove_request.Goals.{After-retain}
use Rattle.bearers.specs.View.{bearers_of, queue_of}
use Rattle.rules.specs.Tables.{asks_for, without_request}
use Rattle.std.proofs.Common.{◌≡◌, None, find, not, sym, ap, ◌∙◌, subst, rules}
use Rattle.std.proofs.lemmas.Fn.{filter_same}
use borrow.Author.Tests.{tests}

-- the queue after it
after : (c : goal.After-retain) → c.retain.new.self.items ≡ without_request c.args.place c.args.rab (queue_of c.args.self.now)
after c =
    let p = c.args.place in
    let r = c.args.rab in
    let qs = queue_of c.args.self.now in
    let one : find (asks_for p r) (without_request p r qs) ≡ None = sym (waits_first p r (without_request p r qs)) ∙ gone_without p r qs (apart_from qs c.args.self.now.single) in
    filter_same _ (λ q. not (asks_for p r q)) _ (λ x b f' k. search (rules, tests)) _ _ c.retain.ensures.filtered ∙
    one_passes (asks_for p r) qs (ap (find (asks_for p r)) (sym (requests_but p r qs)) ∙ one) ∙
    sym (requests_but p r qs)

pub invariant_of-self : goal.invariant_of-self
invariant_of-self c =
    let t = c.args.self.now in
    let h : Kept (bearers_of t) c.retain.new.self.items = subst (λ qs. Kept (bearers_of t) qs) (sym (after c)) (keeps_left (bearers_of t) (queue_of t) (held t) c.args.place c.args.rab) in
    search rules

pub returns-clause-queue : goal.returns-clause-queue
returns-clause-queue c = after (goal.at.returns-clause-queue c).After-retain
