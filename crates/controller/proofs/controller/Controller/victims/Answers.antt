use Rattle.admission.specs.Member.{member}
use Rattle.bearers.proofs.Firsts.{blank_bearer}
use Rattle.bearers.proofs.Ranges.{good_at}
use Rattle.controller.proofs.Fronts.{begins, ends, front_as, level_left, placed, grown, added_on, room_found}
use Rattle.controller.proofs.controller.Controller.victims.Goals as goal
use Rattle.controller.proofs.controller.Controller.victims.Goals.{else-levels-test, then-levels-test+then-table-test+else-not-is_candidate+then-room}
use Rattle.controller.specs.View.{view}
use Rattle.rules.specs.Preemption.{own_grant}
use Rattle.std.proofs.Common.{◌≤◌, length, get_or, lit<, sym, ap, ◌∙◌, subst, arith, rules}

pub levels-init : goal.levels-init
levels-init g c =
    let x = view g.P.RadioPool.radio g.P.RadioPool.state c.args.self.now in
    begins c.args.q.now x (member c.own_set-given.result) c.new-victims.result.items c.new-victims.ensures (c.own_set-given.ensures ∙ ap own_grant c.bearer.ensures.answer)

pub table-init : goal.table-init
table-init g c =
    let x = view g.P.RadioPool.radio g.P.RadioPool.state c.args.self.now in
    let q = c.args.q.now in
    front_as q x (level_left q x c.levels.level c.levels-test.true (sym c.bearers-b-items.ensures.answer)) c.levels.invariant

pub push-requires : goal.push-requires
push-requires g c =
    let x = view g.P.RadioPool.radio g.P.RadioPool.state c.args.self.now in
    let few : length x.bearers ≤ 64 = subst (λ xs. length xs ≤ 64) c.bearers-b-items.ensures.answer c.bearers-b-items.ensures.few in
    (lit< tt, placed c.args.q.now x c.levels.level c.table.b-index c.bearers-b-items.result.now blank_bearer c.table-test.true c.table.invariant (sym c.if-not-is_candidate.ensures) few)

pub table-preserved : goal.table-preserved
table-preserved g c =
    let x = view g.P.RadioPool.radio g.P.RadioPool.state c.args.self.now in
    let bs = c.bearers-b-items.result.now in
    let b = get_or bs c.table.b-index blank_bearer in
    let good = good_at bs c.table.b-index blank_bearer c.bearers-b-items.ensures.good c.table-test.true in
    added_on c.args.q.now x c.levels.level c.table.b-index bs blank_bearer c.table-test.true c.table.invariant (sym c.if-not-is_candidate.ensures)
    c.push.new.self.items (member c.insert.new.self) c.push.ensures.items (grown (member c.table.given) (member c.insert.new.self) b good c.insert.ensures) (sym c.if-room.ensures)

pub returns : goal.returns
returns g c =
    let x = view g.P.RadioPool.radio g.P.RadioPool.state c.args.self.now in
    elim c.levels-test.branch [
      | then-levels-test+then-table-test+else-not-is_candidate+then-room w ↦
          let bs = w.bearers-b-items.result.now in
          let b = get_or bs w.table.b-index blank_bearer in
          let good = good_at bs w.table.b-index blank_bearer w.bearers-b-items.ensures.good w.table-test.true in
          let front = room_found c.args.q.now x c.levels.level w.table.b-index bs blank_bearer w.table-test.true w.table.invariant (sym w.if-not-is_candidate.ensures)
          w.push.new.self.items (member w.insert.new.self) w.push.ensures.items (grown (member w.table.given) (member w.insert.new.self) b good w.insert.ensures) (sym w.if-room.ensures) in
          search rules
      | else-levels-test w ↦
          let none = ends c.args.q.now x c.levels.level (omega (arith, w.levels-test.false)) c.levels.invariant in
          search rules
    ]
