use Rattle.std.proofs.Common.{◌≡◌, ◌+◌, ◌<◌, Bool, true, false, cond, [], ◌∷◌, ◌++◌, length, get_or, drop, sym, ap, ◌∙◌, subst, arith}
use Rattle.bearers.specs.Places.{connections_of}
use Rattle.controller.proofs.Notified.{notices_next}
use Rattle.controller.proofs.Gaves.{Leads, leads_then}
use Rattle.controller.proofs.controller.Controller.notify_on.Goals as goal
use Rattle.controller.proofs.controller.Controller.notify_on.Goals.{then-is_told, else-is_told}
use Rattle.controller.specs.Notices.{told, notices_from}
use Rattle.rules.specs.Actions.{report}
use Rattle.rules.specs.Connections.{vacant}

pub loop-place-preserved : goal.loop-place-preserved
loop-place-preserved g c =
    let o = c.args.except in
    let u = c.args.ue in
    let k = c.args.kind in
    let w = c.args.cause in
    let cs = connections_of c.args.self.now.connections in
    let i = c.loop-place.place in
    let l : i < length cs = omega (arith, c.loop-place-test.true, c.args.self.now.connections.wide) in
    let here = report k i 0 w ∷ [] in
    let rest = notices_from k w o u (i + 1) (drop (i + 1) cs) in
    let next : (t : Bool) → told o u i (get_or cs i vacant) ≡ t → Leads (cond t here [] ++ rest) c.loop-place.sheet (notices_from k w o u 0 cs) c.args.sheet.now =
    λ t e. subst (λ rs. Leads rs c.loop-place.sheet (notices_from k w o u 0 cs) c.args.sheet.now) (notices_next k w o u cs i l ∙ ap (λ b. cond b here [] ++ rest) e) c.loop-place.invariant
    in
    elim c.if-is_told.branch [
      | then-is_told b ↦ rw b.sheet-is (leads_then here rest (next true (sym b.if-is_told.ensures)) b.tell.ensures)
      | else-is_told b ↦ rw b.sheet-is (next false (sym b.if-is_told.ensures))
    ]
