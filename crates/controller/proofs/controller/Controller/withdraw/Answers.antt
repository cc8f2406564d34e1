use Rattle.std.proofs.Common.{◌≤◌, length, Ok, sym, ap, ◌∙◌, arith, rules}
use Rattle.bounds.proofs.Bound.{withdraw_few}
use Rattle.controller.proofs.Gaves.{gave_as}
use Rattle.controller.proofs.Obeys.{obeyed, small, answers, long_list}
use Rattle.controller.proofs.controller.Controller.withdraw.Goals as goal
use Rattle.controller.specs.Tickets.{id_of, handing_back}
use Rattle.controller.specs.View.{view}
use Rattle.rules.specs.Refusals.{withdraw_refusal}
use Rattle.rules.specs.Relocation.{ticket_at, runs, withdraw}

pub returns : goal.returns
returns g c =
    let m = g.P.RadioPool.radio in
    let s = g.P.RadioPool.state in
    let x = view m s c.args.self.now in
    let l = c.args.reports.now in
    let t = id_of c.args.ticket in
    let id = c.id-id.ensures in
    let none = ap (λ k. withdraw_refusal (length l) k x) (sym id) ∙ c.in_default.ensures in
    let long = long_list (length l) (withdraw_refusal 288 t x) none in
    let few = withdraw_few x (small m s c.args.self.now) t.number in
    let fits : length (withdraw t.number x).reports ≤ length l = omega (arith, long, few) in
    let did = gave_as (ap (λ k. withdraw k.number x) id) c.withdraw_number.ensures in
    let done = answers (λ k. (runs (ticket_at t.number x), k)) (withdraw_refusal (length l) t x) none (obeyed fits c.new-sheet.ensures.page did c.count.ensures) in
    let ran = c.is_running-ran.ensures ∙ ap runs c.at.ensures ∙ ap (λ k. runs (ticket_at k.number x)) id in
    record {
      answer = ap (λ b. Ok (b, c.count.result)) ran ∙ ap (handing_back c.args.ticket) done.answer;
      state = done.state;
      list = let told = done.list in search rules;
    }
