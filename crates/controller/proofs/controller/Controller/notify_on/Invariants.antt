use Rattle.bearers.specs.Places.{connections_of}
use Rattle.controller.proofs.Gaves.{Leads}
use Rattle.controller.proofs.controller.Controller.notify_on.Given as goal
use Rattle.controller.specs.Notices.{notices_from}
use Rattle.std.proofs.Common.{drop}

-- the places that are left give what all give
abbrev pub invariant-loop-place : goal.invariant-loop-place
invariant-loop-place g l =
    let cs = connections_of l.self.connections in
    Leads (notices_from l.kind l.cause l.except l.ue l.place (drop l.place cs)) l.sheet (notices_from l.kind l.cause l.except l.ue 0 cs) l.initial.sheet
