use Rattle.bearers.proofs.Firsts.{blank_bearer}
use Rattle.bearers.proofs.Keeps.{Kept, held, keeps_without}
use Rattle.bearers.proofs.Spots.{set_up_at, removed_at, unset_in_gap}
use Rattle.bearers.proofs.Standing.{once_from}
use Rattle.bearers.proofs.tables.RabTables.remove_bearer.Goals as goal
use Rattle.bearers.proofs.tables.RabTables.remove_bearer.Goals.{After-remove}
use Rattle.bearers.specs.View.{bearers_of, queue_of}
use Rattle.rules.specs.Tables.{is_some, without_bearer}
use Rattle.std.proofs.Common.{◌≡◌, sym, ap, ◌∙◌, subst, rules}

-- the table after it
after : (c : goal.After-remove) → c.remove.new.self.items ≡ without_bearer c.args.place c.args.rab (bearers_of c.args.self.now)
after c =
    let bs = bearers_of c.args.self.now in
    c.remove.ensures.items ∙ removed_at c.args.place c.args.rab bs c.in-Ok.at (once_from bs c.args.self.now.sorted) c.in-Ok.ensures.found

pub invariant_of-self : goal.invariant_of-self
invariant_of-self c =
    let t = c.args.self.now in
    let bs = bearers_of t in
    let there = ap is_some (set_up_at c.args.place c.args.rab bs c.in-Ok.at blank_bearer (once_from bs t.sorted) c.in-Ok.ensures.found) in
    let h : Kept c.remove.new.self.items (queue_of t) = subst (λ bs. Kept bs (queue_of t)) (sym (after c)) (keeps_without bs (queue_of t) (held t) c.args.place c.args.rab there) in
    search rules

pub returns-in-Ok-clause-bearers : goal.returns-in-Ok-clause-bearers
returns-in-Ok-clause-bearers c = after (goal.at.returns-in-Ok-clause-bearers c).After-remove

pub returns-in_default-clause-bearers : goal.returns-in_default-clause-bearers
returns-in_default-clause-bearers c = sym (unset_in_gap c.args.place c.args.rab (bearers_of c.args.self.now) c.in_default.field-0 c.in_default.ensures.absent).1
