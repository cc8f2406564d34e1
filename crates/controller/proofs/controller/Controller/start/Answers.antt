use Rattle.std.proofs.Common.{◌≡◌, ◌≤◌, length, Ok, ap, ◌∙◌, arith, rules}
use Rattle.bounds.proofs.Bound.{start_few}
use Rattle.controller.proofs.Obeys.{obeyed, small, answers, long_list}
use Rattle.controller.proofs.controller.Controller.start.Goals as goal
use Rattle.controller.specs.Tickets.{id_of}
use Rattle.controller.specs.View.{view}
use Rattle.rules.specs.Calls.{next_ticket}
use Rattle.rules.specs.Refusals.{start_refusal}
use Rattle.rules.specs.Relocation.{free_ticket, start}
use Rattle.rules.specs.declared.connection.TicketId.{TicketId}

pub returns : goal.returns
returns g c =
    let m = g.P.RadioPool.radio in
    let s = g.P.RadioPool.state in
    let x = view m s c.args.self.now in
    let l = c.args.reports.now in
    let u = c.args.ue in
    let (none, named) = c.in_ok-number.ensures in
    let free : c.in_ok-number.number ≡ free_ticket x = cc in
    let ticket : id_of c.new-ticket.result ≡ next_ticket x = c.new-ticket.ensures ∙ ap (λ n. let t : TicketId = record { controller = x.number; number = n } in t) free in
    let long = long_list (length l) (start_refusal 288 u x) none in
    let few = start_few x (small m s c.args.self.now) u in
    let fits : length (start u x).reports ≤ length l = omega (arith, long, few) in
    let done = answers (λ k. (next_ticket x, k)) (start_refusal (length l) u x) none (obeyed fits c.new-sheet.ensures.page c.begin.ensures c.count.ensures) in
    record { answer = ap (λ t. Ok (t, c.count.result)) ticket ∙ done.answer; state = done.state; list = let told = done.list in search rules }
