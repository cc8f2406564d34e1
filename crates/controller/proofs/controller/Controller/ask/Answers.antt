use Rattle.controller.proofs.Asks.{ask_admitted, ask_untriggered, ask_front}
use Rattle.controller.proofs.Gaves.{gave_as}
use Rattle.controller.proofs.controller.Controller.ask.Goals as goal
use Rattle.controller.proofs.controller.Controller.ask.Goals.{else-q-via-else-q, else-q-via-then-q+in-None-1}
use Rattle.controller.specs.View.{view}
use Rattle.std.proofs.Common.{Some, None, sym, ap, ◌∙◌, rules}

pub returns-then-is_admitted : goal.returns-then-is_admitted
returns-then-is_admitted g c =
    let x = view g.P.RadioPool.radio g.P.RadioPool.state c.args.self.now in
    gave_as (sym (ask_admitted c.args.q.now x (sym c.if-is_admitted.ensures))) c.carry_out.ensures

pub returns-in-Some : goal.returns-in-Some
returns-in-Some g c =
    let x = view g.P.RadioPool.radio g.P.RadioPool.state c.args.self.now in
    let front = sym c.in-Some.ensures ∙ sym (ap Some c.as_slice.ensures.value) in
    gave_as (sym (ask_front c.args.q.now x (Some c.as_slice.result.now) (sym c.if-is_admitted.ensures) c.if-q.true front)) c.carry_out-else-is_admitted.ensures

pub returns-else-q : goal.returns-else-q
returns-else-q g c =
    let x = view g.P.RadioPool.radio g.P.RadioPool.state c.args.self.now in
    elim c.else-q.branch [
      | else-q-via-else-q w ↦ gave_as (sym (ask_untriggered c.args.q.now x (sym c.if-is_admitted.ensures) w.if-q.false)) c.wait_or_fail.ensures
      | else-q-via-then-q+in-None-1 w ↦ gave_as (sym (ask_front c.args.q.now x None (sym c.if-is_admitted.ensures) w.if-q.true (search rules))) c.wait_or_fail.ensures
    ]
