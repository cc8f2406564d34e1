use Rattle.bearers.proofs.Keeps.{Kept, held, keeps_queued, queues_room}
use Rattle.bearers.proofs.tables.RabTables.enqueue.Goals as goal
use Rattle.bearers.proofs.tables.RabTables.enqueue.Goals.{After-push}
use Rattle.bearers.specs.View.{bearers_of, queue_of, queueable}
use Rattle.std.proofs.Common.{◌≡◌, ◌<◌, true, cond, [], ◌∷◌, ◌++◌, length, is_ok, sym, ap, ◌∙◌, subst, rules, arith}

may : (c : goal.After-push) → queueable c.args.q (bearers_of c.args.self.now) (queue_of c.args.self.now) ≡ true
may c = sym c.if-not-is_queueable.ensures

-- the queue after it: there was room
after : (c : goal.After-push) → c.push.new.self.items ≡ queue_of c.args.self.now ++ c.args.q ∷ []
after c =
    let t = c.args.self.now in
    let qs = queue_of t in
    let short : length qs < 64 = queues_room (bearers_of t) qs (held t) c.args.q (may c) in
    let ok : is_ok c.push.result ≡ true = c.push.ensures.succeeds (omega (arith, short, t.queue_reserved, t.queue.ok.0)) in
    c.push.ensures.items ∙ ap (λ b. cond b (qs ++ c.args.q ∷ []) qs) ok

pub invariant_of-self : goal.invariant_of-self
invariant_of-self c =
    let t = c.args.self.now in
    let h : Kept (bearers_of t) c.push.new.self.items = subst (λ qs. Kept (bearers_of t) qs) (sym (after c)) (keeps_queued (bearers_of t) (queue_of t) (held t) c.args.q (may c)) in
    search rules

pub returns-clause-queue : goal.returns-clause-queue
returns-clause-queue c = after (goal.at.returns-clause-queue c).After-push
