use Rattle.bearers.proofs.Mapped.{one_written, mapped_more}
use Rattle.bearers.proofs.tickets.Tickets.stop.Goals as goal
use Rattle.bearers.proofs.tickets.Tickets.stop.Goals.{in-Some+then-t-ue, in_default, in_default-via-in-None-1, in_default-via-in-Some+else-t-ue}
use Rattle.rules.specs.Relocation.{stopped}
use Rattle.rules.specs.declared.connection.TicketRecord.{TicketRecord}
use Rattle.std.proofs.Common.{◌≡◌, ◌++◌, ◌+◌, ◌∙◌, map, length, take, drop, set, get_or, None, Option, rules, arith}
use Rattle.std.proofs.lemmas.Bool.Decides.{nat_tests}

-- one ticket further, by what is written over it
step : (c : goal.Joined-ticket) (v : Option TicketRecord) → c.match-ticket.ticket-items ≡ set c.loop-ticket.ticket-items c.loop-ticket.ticket-index v →
    v ≡ stopped c.args.ue (get_or c.loop-ticket.ticket-items c.loop-ticket.ticket-index None) →
    (length c.match-ticket.ticket-items ≡ 16) ×
    (c.match-ticket.ticket-items ≡ map (stopped c.args.ue) (take (c.loop-ticket.ticket-index + 1) c.args.self.now.all) ++ drop (c.loop-ticket.ticket-index + 1) c.args.self.now.all)
step c v e s =
    let ts = c.args.self.now.all in
    let now = c.loop-ticket.ticket-items in (
      one_written now c.match-ticket.ticket-items c.loop-ticket.ticket-index 16 v e c.loop-ticket.invariant.0,
      e ∙ mapped_more (stopped c.args.ue) ts now c.loop-ticket.ticket-index None v (omega (arith, c.loop-ticket-test.true, c.args.self.now.wide)) (omega (arith, c.loop-ticket-test.true, c.loop-ticket.invariant.0)) c.loop-ticket.invariant.1 s,
    )

pub loop-ticket-preserved : goal.loop-ticket-preserved
loop-ticket-preserved c =
    elim c.match-ticket.branch [
      | in-Some+then-t-ue w ↦ step c _ w.ticket-items-is (grind (arith, nat_tests))
      | in_default w ↦ elim w.in_default.branch [ in_default-via-in-None-1 w' ↦ step c _ (w.ticket-items-is ∙ w'.ticket-items-is) (search rules) | in_default-via-in-Some+else-t-ue w' ↦ step c _ (w.ticket-items-is ∙ w'.ticket-items-is) (grind (arith, nat_tests)) ]
    ]
