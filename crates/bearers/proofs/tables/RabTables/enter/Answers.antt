use Rattle.bearers.proofs.Firsts.{blank_bearer}
use Rattle.bearers.proofs.Keeps.{Kept, held, keeps_with, enters_room}
use Rattle.bearers.proofs.Spots.{set_up_at, lands}
use Rattle.bearers.proofs.Standing.{once_from}
use Rattle.bearers.proofs.tables.RabTables.enter.Goals as goal
use Rattle.bearers.proofs.tables.RabTables.enter.Goals.{After-insert}
use Rattle.bearers.specs.View.{bearers_of, queue_of, enterable}
use Rattle.rules.specs.Tables.{is_some, with_bearer}
use Rattle.std.proofs.Common.{◌≡◌, ◌<◌, true, cond, length, is_ok, sym, ap, ◌∙◌, subst, rules, arith}
use Rattle.std.proofs.lemmas.Grind.{common_steps}
use Rattle.std.specs.List.{insert}

may : (c : goal.After-insert) → enterable c.args.b (bearers_of c.args.self.now) (queue_of c.args.self.now) ≡ true
may c = sym c.if-is_enterable.ensures

-- the table after it: there was room
after : (c : goal.After-insert) → c.insert.new.self.items ≡ with_bearer c.args.b (bearers_of c.args.self.now)
after c =
    let t = c.args.self.now in
    let bs = bearers_of t in
    let short : length bs < 64 = enters_room bs (queue_of t) (held t) c.args.b (may c) in
    let ok : is_ok c.insert.result ≡ true = c.insert.ensures.succeeds (omega (arith, short, t.bearers_reserved, t.bearers.ok.0)) in
    c.insert.ensures.items ∙ ap (λ b. cond b (insert bs c.in-Err.at c.args.b) bs) ok ∙ lands c.args.b bs c.in-Err.at c.in-Err.ensures.absent

pub invariant_of-self : goal.invariant_of-self
invariant_of-self c =
    let t = c.args.self.now in
    let h : Kept c.insert.new.self.items (queue_of t) = subst (λ bs. Kept bs (queue_of t)) (sym (after c)) (keeps_with (bearers_of t) (queue_of t) (held t) c.args.b (may c)) in
    search rules

pub returns-in-Err-clause-bearers : goal.returns-in-Err-clause-bearers
returns-in-Err-clause-bearers c = after (goal.at.returns-in-Err-clause-bearers c).After-insert

-- the RAB is set up
pub returns-in_default-2-clause-answer : goal.returns-in_default-2-clause-answer
returns-in_default-2-clause-answer c =
    let bs = bearers_of c.args.self.now in
    let there = ap is_some (set_up_at c.args.b.place c.args.b.rab bs _ blank_bearer (once_from bs c.args.self.now.sorted) c.in_default.ensures.found) in
    grind (arith, common_steps)
