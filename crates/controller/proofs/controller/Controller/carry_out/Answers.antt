use Rattle.controller.proofs.Gaves.{gave_then}
use Rattle.controller.proofs.Readies.{ready_after}
use Rattle.controller.proofs.controller.Controller.carry_out.Goals as goal
use Rattle.controller.specs.Gave.{Gave}
use Rattle.controller.specs.Turn.{Ready}
use Rattle.controller.specs.View.{view}
use Rattle.rules.specs.Actions.{establish}
use Rattle.rules.specs.Request.{pre_empt, free_own, done}
use Rattle.rules.specs.State.{each}
use Rattle.std.proofs.Common.{sym, ap, ◌∙◌, subst}

pub establish-requires : goal.establish-requires
establish-requires g c =
    let m = g.P.RadioPool.radio in
    let s = g.P.RadioPool.state in
    let x = view m s c.args.self.now in
    let q = c.args.q.now in
    let t = c.args.self.now.rabs in
    let freed = c.free_own.ensures ∙ ap (λ o. free_own o x) c.bearer-own.ensures.answer in
    let after = c.pre_empt_all.ensures.state ∙ ap (λ y. (each pre_empt c.args.victims.now y).state) freed in
    subst (Ready q) (sym after) (ready_after q c.args.victims.now x (record { sorted = t.sorted; single = t.single; few = t.few; ranges = t.ranges }) c.requires)

pub returns : goal.returns
unfolding done
returns g c =
    let m = g.P.RadioPool.radio in
    let s = g.P.RadioPool.state in
    let x = view m s c.args.self.now in
    let freed = c.free_own.ensures ∙ ap (λ o. free_own o x) c.bearer-own.ensures.answer in
    let first = subst (λ y. Gave (each pre_empt c.args.victims.now y) (view m s c.pre_empt_all.new.self) c.args.sheet.now c.pre_empt_all.new.sheet) freed c.pre_empt_all.ensures in
    gave_then (establish c.args.q.now) first c.establish.ensures
