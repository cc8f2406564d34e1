-- What no item touches: the controller's number, the connections and the tickets.
use Rattle.std.proofs.Common.{◌≡◌, ℕ, zero, suc, Bool, true, false, cond, List, [], ◌∷◌, length, Some, None, filter, Option, refl, ◌∙◌}
use Rattle.rules.specs.Radio.{Radio}
use Rattle.rules.specs.State.{State, Outcome, each, then, silent, tell, at_queue}
use Rattle.rules.specs.Tables.{is_some, set_up_as, waits_as, without_request, stands_at}
use Rattle.rules.specs.Checks.{fault_of}
use Rattle.rules.specs.Connections.{opened, state_at}
use Rattle.rules.specs.Preemption.{own, victims}
use Rattle.rules.specs.Actions.{fail_waiting, refuse, keep_size, enqueue, report, drop_bearer}
use Rattle.rules.specs.Request.{done, ask, done_or_not, unless_fault, assign_anew, assign, supersede, release_unset, release_known, release, request_of, pre_empt, free_own}
use Rattle.rules.specs.Queue.{next, serve_one, serve_up_to, serve}
use Rattle.rules.specs.Message.{releases, assignments}
use Rattle.rules.specs.Events.{release_item, assign_item, assignment, drop_place}
use Rattle.rules.specs.declared.bearer.Bearer.{Bearer}
use Rattle.rules.specs.declared.bearer.Request.{Request}
use Rattle.rules.specs.declared.connection.Connection.{Connection}
use Rattle.rules.specs.declared.connection.TicketRecord.{TicketRecord}
use Rattle.rules.specs.declared.item.Assignment.{Assignment}
use Rattle.rules.specs.declared.item.ReadItem.{ReadItem}
use Rattle.rules.specs.declared.report.Cause.{Cause}
use Rattle.rules.specs.declared.report.ReportKind.TheVariants as kind
use Rattle.rules.specs.declared.report.Cause.TheVariants as cause

module _ {m : Radio} where
  abbrev pub rest : State m → ℕ × List Connection × List (Option TicketRecord)
  rest x = (x.number, x.connections, x.tickets)

  rest_cond : (t : Bool) (o o' : Outcome m) (x : State m) → rest o.state ≡ rest x → rest o'.state ≡ rest x → rest (cond t o o').state ≡ rest x
  rest_cond true o o' x e f = e
  rest_cond false o o' x e f = f

  rest_each : {X : Type 0} (f : X → State m → Outcome m) → ((a : X) (x : State m) → rest (f a x).state ≡ rest x) → (as' : List X) (x : State m) → rest (each f as' x).state ≡ rest x
  rest_each f h [] x = refl
  rest_each f h (a ∷ as') x = rest_each f h as' (f a x).state ∙ h a x

  rest_fail : (c : Cause) (p r : ℕ) (x : State m) → rest (fail_waiting c p r x).state ≡ rest x
  rest_fail c p r x = rest_cond (is_some (waits_as p r x.queue)) (tell (report kind.Failed p r c) (at_queue x (without_request p r x.queue))) (silent x) x refl refl

  rest_pre_empt : (b : Bearer) (x : State m) → rest (pre_empt b x).state ≡ rest x
  rest_pre_empt b x = rest_fail cause.RabPreempted b.place b.rab x

  rest_back : (o : Option Bearer) (x : State m) → rest (free_own o x) ≡ rest x
  rest_back None x = refl
  rest_back (Some b) x = refl

  rest_done : (q : Request) (vs : List Bearer) (x : State m) → rest (done q vs x).state ≡ rest x
  unfolding done
  rest_done q vs x = rest_each pre_empt rest_pre_empt vs (free_own (own q x) x) ∙ rest_back (own q x) x

  rest_serve_one : (q : Request) (x : State m) → rest (serve_one q x).state ≡ rest x
  rest_serve_one q x = rest_done q [] (at_queue x (without_request q.place q.rab x.queue))

  rest_step : (n : ℕ) (x : State m) (o : Option Request) → ((y : State m) → rest (serve_up_to n y).state ≡ rest y) →
      rest (Outcome.state (elim o [ None ↦ silent x | Some q ↦ then (serve_one q x) (serve_up_to n) ])) ≡ rest x
  rest_step n x None ih = refl
  rest_step n x (Some q) ih = ih (serve_one q x).state ∙ rest_serve_one q x

  rest_serves : (n : ℕ) (x : State m) → rest (serve_up_to n x).state ≡ rest x
  unfolding serve_up_to
  rest_serves zero x = refl
  rest_serves (suc n) x = rest_step n x (next x) (rest_serves n)

  pub rest_serve : (x : State m) → rest (serve x).state ≡ rest x
  rest_serve x = rest_serves (length x.queue) x

  rest_done_or_not : (q : Request) (o : Option (List Bearer)) (x : State m) → rest (done_or_not q o x).state ≡ rest x
  rest_done_or_not q None x = rest_cond q.priority.queuing (enqueue q x) (refuse kind.Failed q.place q.rab cause.MaximumBitRateNotAvailable x) x refl refl
  rest_done_or_not q (Some vs) x = rest_done q vs x

  rest_ask : (q : Request) (x : State m) → rest (ask q x).state ≡ rest x
  unfolding ask
  rest_ask q x = rest_done_or_not q (victims q x) x

  rest_unless : (f : Option Cause) (p : ℕ) (a : Assignment) (o : Option Bearer) (x : State m) → rest (unless_fault f p a o x).state ≡ rest x
  rest_unless (Some c) p a o x = refl
  rest_unless None p a None x = rest_ask (request_of p a None) x
  rest_unless None p a (Some b) x = rest_cond a.flags.parameters (ask (request_of p a (Some b)) x) (keep_size b x) x (rest_ask (request_of p a (Some b)) x) refl

  rest_assign_anew : (p : ℕ) (a : Assignment) (x : State m) → rest (assign_anew p a x).state ≡ rest x
  rest_assign_anew p a x = rest_unless (fault_of a (set_up_as p a.rab x.bearers) x) p a (set_up_as p a.rab x.bearers) x

  rest_assign : (p : ℕ) (a : Assignment) (x : State m) → rest (assign p a x).state ≡ rest x
  unfolding assign
  rest_assign p a x = rest_assign_anew p a (supersede p a.rab x).state ∙ rest_fail cause.RequestSuperseded p a.rab x

  rest_unset : (o : Option Request) (p r : ℕ) (x : State m) → rest (release_unset o p r x).state ≡ rest x
  rest_unset None p r x = refl
  rest_unset (Some q) p r x = rest_fail cause.RequestSuperseded p r x

  rest_known : (o : Option Bearer) (p r : ℕ) (x : State m) → rest (release_known o p r x).state ≡ rest x
  rest_known None p r x = rest_unset (waits_as p r x.queue) p r x
  rest_known (Some b) p r x = rest_fail cause.RequestSuperseded p r x

  rest_release : (p r : ℕ) (x : State m) → rest (release p r x).state ≡ rest x
  unfolding release
  rest_release p r x = rest_known (set_up_as p r x.bearers) p r x

  rest_release_item : (p r : ℕ) (x : State m) → rest (release_item p r x).state ≡ rest x
  unfolding release_item
  rest_release_item p r x =
      let o = cond (opened (state_at p x)) (release p r x) (refuse kind.NotReleased p r cause.RelocationTriggered x) in
      rest_serve o.state ∙ rest_cond (opened (state_at p x)) (release p r x) (refuse kind.NotReleased p r cause.RelocationTriggered x) x (rest_release p r x) refl

  rest_assign_item : (p : ℕ) (a : Assignment) (x : State m) → rest (assign_item p a x).state ≡ rest x
  unfolding assign_item
  rest_assign_item p a x =
      let o = cond (opened (state_at p x)) (assign p a x) (refuse kind.Failed p a.rab cause.RelocationTriggered x) in
      rest_serve o.state ∙ rest_cond (opened (state_at p x)) (assign p a x) (refuse kind.Failed p a.rab cause.RelocationTriggered x) x (rest_assign p a x) refl

  -- a frame of items
  pub rest_assignment : (p : ℕ) (is : List ReadItem) (x : State m) → rest (assignment p is x).state ≡ rest x
  rest_assignment p is x =
      rest_each (assign_item p) (rest_assign_item p) (assignments is) (each (release_item p) (releases is) x).state ∙ rest_each (release_item p) (rest_release_item p) (releases is) x

  -- a place's RABs gone
  pub rest_drop : (p : ℕ) (x : State m) → rest (drop_place p x).state ≡ rest x
  rest_drop p x = rest_each (drop_bearer kind.Gone cause.IuReleased) (λ b y. refl) (filter (stands_at p) x.bearers) x
