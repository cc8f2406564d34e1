use Rattle.bearers.proofs.tickets.Tickets.stop.Given as goal
use Rattle.rules.specs.Relocation.{stopped}
use Rattle.std.proofs.Common.{◌≡◌, ◌++◌, map, length, take, drop}

-- the first tickets are stopped, the others as they were
abbrev pub invariant-loop-ticket : goal.invariant-loop-ticket
invariant-loop-ticket l = (length l.ticket-items ≡ 16) × (l.ticket-items ≡ map (stopped l.ue) (take l.ticket-index l.initial.ticket-items) ++ drop l.ticket-index l.initial.ticket-items)
