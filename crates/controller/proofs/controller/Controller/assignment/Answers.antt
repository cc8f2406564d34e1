use Rattle.controller.proofs.Gaves.{gave_then, gave_as, toward_picked, toward_passed, toward_picked_end}
use Rattle.controller.proofs.Turns.{is_release, turn, release_turns, assign_turns}
use Rattle.controller.proofs.controller.Controller.assignment.Goals as goal
use Rattle.controller.proofs.controller.Controller.assignment.Goals.{then-matches, else-matches, then-matches-2, else-matches-2}
use Rattle.controller.specs.View.{view}
use Rattle.ranap.proofs.Seen.{blank_item}
use Rattle.rules.specs.Events.{assign_item}
use Rattle.rules.specs.Message.{assignments}
use Rattle.rules.specs.State.{each}
use Rattle.std.proofs.Common.{◌≡◌, get_or, not, ◌∙◌, rules, tests}

pub releases-preserved : goal.releases-preserved
releases-preserved g c =
    let x = view g.P.RadioPool.radio g.P.RadioPool.state c.releases.self in
    let is = c.args.items.now in
    let i = c.releases._i in
    let kind : is_release (get_or is i blank_item) ≡ c.match-matches.matches = search (rules, tests) in
    elim c.if-matches.branch [
      | then-matches w ↦ rw (w.self-is, w.sheet-is) (toward_picked (turn c.args.place) is_release is i blank_item x c.releases-test.true (kind ∙ w.if-matches.true) c.releases.invariant w.take_turn.ensures)
      | else-matches w ↦ rw (w.self-is, w.sheet-is) (toward_passed (turn c.args.place) is_release is i blank_item x c.releases-test.true (kind ∙ w.if-matches.false) c.releases.invariant)
    ]

pub others-preserved : goal.others-preserved
others-preserved g c =
    let x = view g.P.RadioPool.radio g.P.RadioPool.state c.others.self in
    let is = c.args.items.now in
    let i = c.others._i in
    let kind : not (is_release (get_or is i blank_item)) ≡ c.match-matches-2.matches = search (rules, tests) in
    elim c.if-matches-2.branch [
      | then-matches-2 w ↦ rw (w.self-is, w.sheet-is) (toward_picked (turn c.args.place) (λ r. not (is_release r)) is i blank_item x c.others-test.true (kind ∙ w.if-matches-2.true) c.others.invariant w.take_turn-then-matches-2.ensures)
      | else-matches-2 w ↦ rw (w.self-is, w.sheet-is) (toward_passed (turn c.args.place) (λ r. not (is_release r)) is i blank_item x c.others-test.true (kind ∙ w.if-matches-2.false) c.others.invariant)
    ]

pub returns : goal.returns
returns g c =
    let m = g.P.RadioPool.radio in
    let s = g.P.RadioPool.state in
    let p = c.args.place in
    let is = c.args.items.now in
    let first = toward_picked_end (turn p) is_release is c.releases._i (view m s c.releases.self) c.releases-test.false c.releases.invariant in
    let second = toward_picked_end (turn p) (λ i. not (is_release i)) is c.others._i (view m s c.others.self) c.others-test.false c.others.invariant in
    gave_then (each (assign_item p) (assignments is)) (gave_as (release_turns p is (view m s c.args.self.now)) first) (gave_as (assign_turns p is (view m s c.releases.self)) second)
