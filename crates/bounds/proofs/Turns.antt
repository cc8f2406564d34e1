-- What an item of a frame costs at its turn: at most three.
use Rattle.std.proofs.Common.{◌≡◌, ℕ, suc, ◌+◌, ◌*◌, cond, List, [], ◌∷◌, length, Some, None, Option, refl, ap, ◌∙◌, arith}
use Rattle.rules.specs.Radio.{Radio}
use Rattle.rules.specs.State.{State, Outcome, each, tell}
use Rattle.rules.specs.Tables.{is_some, set_up_as, waits_as}
use Rattle.rules.specs.Checks.{fault_of}
use Rattle.rules.specs.Connections.{opened, state_at}
use Rattle.rules.specs.Preemption.{victims}
use Rattle.rules.specs.Actions.{report, refuse, drop_bearer, keep_size, enqueue}
use Rattle.rules.specs.Request.{request_of, supersede, done_or_not, ask, unless_fault, assign_anew, assign, release_unset, release_known, release}
use Rattle.rules.specs.Queue.{serve}
use Rattle.rules.specs.Message.{releases, assignments}
use Rattle.rules.specs.Events.{release_item, assign_item, assignment}
use Rattle.rules.specs.declared.bearer.Bearer.{Bearer}
use Rattle.rules.specs.declared.bearer.Request.{Request}
use Rattle.rules.specs.declared.item.Item.{Item}
use Rattle.rules.specs.declared.item.Item.TheVariants.{Assign, Release}
use Rattle.rules.specs.declared.item.Assignment.{Assignment}
use Rattle.rules.specs.declared.item.ReadItem.{ReadItem}
use Rattle.rules.specs.declared.report.Cause.{Cause}
use Rattle.rules.specs.declared.report.ReportKind.TheVariants as kind
use Rattle.rules.specs.declared.report.Cause.TheVariants as cause
use Rattle.bounds.specs.Weights.{Costs}
use Rattle.bounds.proofs.Removals.{set_up_key}
use Rattle.bounds.proofs.Victims.{victims_removable}
use Rattle.bounds.proofs.Steps.{costs_then, costs_cond, costs_more, costs_fail, failed_bearers, costs_drop, costs_enqueue, costs_done, costs_serve}

item_step : (it : Item) (rs : List ℕ) (as' : List Assignment) (n : ℕ) → length rs + length as' ≡ n → length {A = ℕ} (elim it [ Assign a ↦ rs | Release r ↦ r ∷ rs ]) + length {A = Assignment} (elim it [ Assign a ↦ a ∷ as' | Release r ↦ as' ]) ≡ suc n
item_step (Assign a) rs as' n e = omega arith
item_step (Release r) rs as' n e = omega arith

-- each item is a release or another
pub items_both : (is : List ReadItem) → length (releases is) + length (assignments is) ≡ length is
items_both [] = refl
items_both (i ∷ is) = item_step i.item (releases is) (assignments is) (length is) (items_both is)

module _ {m : Radio} where
  asked : (q : Request) (x : State m) (o : Option (List Bearer)) → victims q x ≡ o → Costs 3 x (done_or_not q o x)
  asked q x None e =
      costs_cond 3 x q.priority.queuing (enqueue q x) (refuse kind.Failed q.place q.rab cause.MaximumBitRateNotAvailable x) (costs_enqueue q x) (omega arith)
  asked q x (Some vs) e = costs_more 2 3 x (done_or_not q (Some vs) x) (omega arith) (costs_done q vs x (victims_removable q x vs e))

  -- a request for a size
  pub costs_ask : (q : Request) (x : State m) → Costs 3 x (ask q x)
  unfolding ask
  costs_ask q x = asked q x (victims q x) refl

  pub costs_unless_fault : (f : Option Cause) (p : ℕ) (a : Assignment) (o : Option Bearer) (x : State m) → Costs 3 x (unless_fault f p a o x)
  costs_unless_fault (Some c) p a o x = omega arith
  costs_unless_fault None p a None x = costs_ask (request_of p a None) x
  costs_unless_fault None p a (Some b) x = costs_cond 3 x a.flags.parameters (ask (request_of p a (Some b)) x) (keep_size b x) (costs_ask (request_of p a (Some b)) x) (omega arith)

  pub costs_assign : (p : ℕ) (a : Assignment) (x : State m) → Costs 3 x (assign p a x)
  unfolding assign
  costs_assign p a x =
      let o = supersede p a.rab x in
      let y = o.state in
      costs_then 0 3 3 x o (assign_anew p a) (costs_fail cause.RequestSuperseded p a.rab x)
      (costs_unless_fault (fault_of a (set_up_as p a.rab y.bearers) y) p a (set_up_as p a.rab y.bearers) y) (omega arith)

  unset : (o : Option Request) (p r : ℕ) (x : State m) → Costs 1 x (release_unset o p r x)
  unset None p r x = omega arith
  unset (Some q) p r x =
      let o = supersede p r x in
      costs_then 0 1 1 x o (tell (report kind.Released p r cause.NoCause)) (costs_fail cause.RequestSuperseded p r x) (omega arith) (omega arith)

  known : (o : Option Bearer) (p r : ℕ) (x : State m) → set_up_as p r x.bearers ≡ o → Costs 1 x (release_known o p r x)
  known None p r x e = unset (waits_as p r x.queue) p r x
  known (Some b) p r x e =
      let k = set_up_key p r b x.bearers e in
      let o = supersede p r x in
      costs_then 0 0 1 x o (drop_bearer kind.Released cause.NoCause b) (costs_fail cause.RequestSuperseded p r x)
      (costs_drop kind.Released cause.NoCause b o.state
      (ap (λ bs. is_some (set_up_as b.place b.rab bs)) (failed_bearers cause.RequestSuperseded p r x) ∙ ap (λ z. is_some (set_up_as z b.rab x.bearers)) k.0 ∙
      ap (λ z. is_some (set_up_as p z x.bearers)) k.1 ∙ ap is_some e)) (omega arith)

  -- a release costs at most its own report
  pub costs_release : (p r : ℕ) (x : State m) → Costs 1 x (release p r x)
  unfolding release
  costs_release p r x = known (set_up_as p r x.bearers) p r x refl

  pub costs_release_item : (p r : ℕ) (x : State m) → Costs 1 x (release_item p r x)
  unfolding release_item
  costs_release_item p r x =
      let t = opened (state_at p x) in
      let o = cond t (release p r x) (refuse kind.NotReleased p r cause.RelocationTriggered x) in
      costs_then 1 0 1 x o serve (costs_cond 1 x t (release p r x) (refuse kind.NotReleased p r cause.RelocationTriggered x) (costs_release p r x) (omega arith)) (costs_serve o.state) (omega arith)

  pub costs_assign_item : (p : ℕ) (a : Assignment) (x : State m) → Costs 3 x (assign_item p a x)
  unfolding assign_item
  costs_assign_item p a x =
      let t = opened (state_at p x) in
      let o = cond t (assign p a x) (refuse kind.Failed p a.rab cause.RelocationTriggered x) in
      costs_then 3 0 3 x o serve (costs_cond 3 x t (assign p a x) (refuse kind.Failed p a.rab cause.RelocationTriggered x) (costs_assign p a x) (omega arith)) (costs_serve o.state) (omega arith)

  pub costs_each : {X : Type 0} (f : X → State m → Outcome m) → ((a : X) (x : State m) → Costs 3 x (f a x)) → (as' : List X) (x : State m) → Costs (3 * length as') x (each f as' x)
  costs_each f h [] x = omega arith
  costs_each f h (a ∷ as') x = costs_then 3 (3 * length as') (3 * length (a ∷ as')) x (f a x) (each f as') (h a x) (costs_each f h as' (f a x).state) (omega arith)

  -- a RAB ASSIGNMENT REQUEST
  pub costs_assignment : (p : ℕ) (is : List ReadItem) (x : State m) → Costs (3 * length is) x (assignment p is x)
  costs_assignment p is x =
      let o = each (release_item p) (releases is) x in
      let e = items_both is in
      costs_then (3 * length (releases is)) (3 * length (assignments is)) (3 * length is) x o (each (assign_item p) (assignments is))
      (costs_each (release_item p) (λ r y. costs_more 1 3 y (release_item p r y) (omega arith) (costs_release_item p r y)) (releases is) x)
      (costs_each (assign_item p) (costs_assign_item p) (assignments is) o.state) (omega arith)
