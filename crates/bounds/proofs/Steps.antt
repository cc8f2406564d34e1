-- What actions cost: reports against what leaves the tables.
use Rattle.std.proofs.Common.{◌≡◌, ℕ, zero, suc, ◌+◌, ◌≤◌, Bool, true, false, cond, List, [], ◌∷◌, length, Some, None, filter, Option, sym, refl, ap, ◌∙◌, subst, arith, length-append}
use lib.ListN.{length-map}
use Rattle.rules.specs.Radio.{Radio}
use Rattle.rules.specs.State.{State, Outcome, silent, tell, then, each, at_queue}
use Rattle.rules.specs.Tables.{is_some, set_up_as, waits_as, without_bearer, without_request, stands_at}
use Rattle.rules.specs.Preemption.{own, admitted}
use Rattle.rules.specs.Actions.{report, failed, free_grant, fail_waiting, fail_all, drop_bearer, establish, enqueue}
use Rattle.rules.specs.Request.{pre_empt, free_own, done}
use Rattle.rules.specs.Queue.{next, serve_one, serve_up_to, serve}
use Rattle.rules.specs.Events.{drop_place}
use Rattle.rules.specs.declared.bearer.Bearer.{Bearer}
use Rattle.rules.specs.declared.bearer.Request.{Request}
use Rattle.rules.specs.declared.report.Report.{Report}
use Rattle.rules.specs.declared.report.Cause.{Cause}
use Rattle.rules.specs.declared.report.ReportKind.{ReportKind}
use Rattle.rules.specs.declared.report.ReportKind.TheVariants as kind
use Rattle.rules.specs.declared.report.Cause.TheVariants as cause
use Rattle.bearers.proofs.Known.{length_without, length_with}
use Rattle.bounds.specs.Weights.{weight, Costs}
use Rattle.bounds.proofs.Removals.{set_up_key, times_kept, Removable, removable}
use Rattle.bounds.proofs.Leavers.{next_waits, shorter, kept_both}

module _ {m : Radio} where
  -- one outcome after another
  pub costs_then : (c d e : ℕ) (x : State m) (o : Outcome m) (f : State m → Outcome m) → Costs c x o → Costs d o.state (f o.state) → c + d ≤ e → Costs e x (then o f)
  costs_then c d e x o f a b l = let n = length-append o.reports (f o.state).reports in omega arith

  pub costs_cond : (c : ℕ) (x : State m) (t : Bool) (o o' : Outcome m) → Costs c x o → Costs c x o' → Costs c x (cond t o o')
  costs_cond c x true o o' f g = f
  costs_cond c x false o o' f g = g

  pub costs_more : (c d : ℕ) (x : State m) (o : Outcome m) → c ≤ d → Costs c x o → Costs d x o
  costs_more c d x o l f = omega arith

  pub costs_silent : (c : ℕ) (x : State m) → Costs c x (silent x)
  costs_silent c x = omega arith

  pub costs_tell : (r : Report) (x : State m) → Costs 1 x (tell r x)
  costs_tell r x = omega arith

  -- a waiting request fails
  fails : (c : Cause) (p r : ℕ) (x : State m) (w : Bool) → is_some (waits_as p r x.queue) ≡ w → Costs 0 x (cond w (tell (report kind.Failed p r c) (at_queue x (without_request p r x.queue))) (silent x))
  fails c p r x true e = let l = shorter p r x.queue e in omega arith
  fails c p r x false e = omega arith

  pub costs_fail : (c : Cause) (p r : ℕ) (x : State m) → Costs 0 x (fail_waiting c p r x)
  costs_fail c p r x = fails c p r x (is_some (waits_as p r x.queue)) refl

  fails_bearers : (c : Cause) (p r : ℕ) (x : State m) (w : Bool) → (cond w (tell (report kind.Failed p r c) (at_queue x (without_request p r x.queue))) (silent x)).state.bearers ≡ x.bearers
  fails_bearers c p r x true = refl
  fails_bearers c p r x false = refl

  -- it leaves the set-up RABs
  pub failed_bearers : (c : Cause) (p r : ℕ) (x : State m) → (fail_waiting c p r x).state.bearers ≡ x.bearers
  failed_bearers c p r x = fails_bearers c p r x (is_some (waits_as p r x.queue))

  -- all waiting requests that pass a test fail
  pub costs_fail_all : (c : Cause) (test : Request → Bool) (x : State m) → Costs 0 x (fail_all c test x)
  costs_fail_all c test x = let k = kept_both test x.queue in let l = length-map (filter test x.queue) (failed c) in omega arith

  -- a set-up RAB is given up
  pub costs_drop : (k : ReportKind) (c : Cause) (b : Bearer) (x : State m) → is_some (set_up_as b.place b.rab x.bearers) ≡ true → Costs 0 x (drop_bearer k c b x)
  costs_drop k c b x e = let l = length_without b.place b.rab x.bearers e in omega arith

  pub costs_enqueue : (q : Request) (x : State m) → Costs 3 x (enqueue q x)
  costs_enqueue q x = let l = length-append x.queue (q ∷ []) in omega arith

  pub costs_establish : (q : Request) (x : State m) → Costs 2 x (establish q x)
  costs_establish q x =
      let b : Bearer = record { place = q.place; rab = q.rab; grant = free_grant x; size = q.size; priority = q.priority } in
      let l = length_with b x.bearers in
      omega arith

  -- a set-up RAB is pre-empted
  pub costs_pre_empt : (b : Bearer) (x : State m) → is_some (set_up_as b.place b.rab x.bearers) ≡ true → Costs 0 x (pre_empt b x)
  costs_pre_empt b x e =
      let o = fail_waiting cause.RabPreempted b.place b.rab x in
      costs_then 0 0 0 x o (drop_bearer kind.ReleaseRequested cause.RabPreempted b) (costs_fail cause.RabPreempted b.place b.rab x)
      (costs_drop kind.ReleaseRequested cause.RabPreempted b o.state (ap (λ bs. is_some (set_up_as b.place b.rab bs)) (failed_bearers cause.RabPreempted b.place b.rab x) ∙ e)) (omega arith)

  pub pre_empt_bearers : (b : Bearer) (x : State m) → (pre_empt b x).state.bearers ≡ without_bearer b.place b.rab x.bearers
  pre_empt_bearers b x = ap (without_bearer b.place b.rab) (failed_bearers cause.RabPreempted b.place b.rab x)

  pub costs_victims : (vs : List Bearer) (x : State m) → Removable x.bearers vs → Costs 0 x (each pre_empt vs x)
  costs_victims [] x st = omega arith
  costs_victims (b ∷ vs) x st =
      costs_then 0 0 0 x (pre_empt b x) (each pre_empt vs) (costs_pre_empt b x st.0)
      (costs_victims vs (pre_empt b x).state (subst (λ bs. Removable bs vs) (sym (pre_empt_bearers b x)) st.1)) (omega arith)

  -- the request's own RAB gives its grant back
  pub own_lighter : (p r : ℕ) (x : State m) (o : Option Bearer) → set_up_as p r x.bearers ≡ o → weight (free_own o x) ≤ weight x
  own_lighter p r x None e = omega arith
  own_lighter p r x (Some b) e =
      let k = set_up_key p r b x.bearers e in
      let same : set_up_as b.place b.rab x.bearers ≡ Some b = ap (λ z. set_up_as z b.rab x.bearers) k.0 ∙ ap (λ z. set_up_as p z x.bearers) k.1 ∙ e in
      let l = length_without b.place b.rab x.bearers (ap is_some same) in
      omega arith

  -- a request is done
  pub costs_done : (q : Request) (vs : List Bearer) (x : State m) → Removable (free_own (own q x) x).bearers vs → Costs 2 x (done q vs x)
  unfolding done
  costs_done q vs x st =
      let y = free_own (own q x) x in
      let g = own_lighter q.place q.rab x (own q x) refl in
      let o = each pre_empt vs y in
      let a : Costs 2 y (then o (establish q)) = costs_then 0 2 2 y o (establish q) (costs_victims vs y st) (costs_establish q o.state) (omega arith) in
      omega arith

  -- a waiting request is done
  pub costs_serve_one : (q : Request) (x : State m) → is_some (waits_as q.place q.rab x.queue) ≡ true → Costs 0 x (serve_one q x)
  costs_serve_one q x w =
      let f = costs_done q [] (at_queue x (without_request q.place q.rab x.queue)) tt in
      let l = shorter q.place q.rab x.queue w in
      omega arith

  served_step : (n : ℕ) (x : State m) (o : Option Request) → ((q : Request) → o ≡ Some q → Costs 0 x (then (serve_one q x) (serve_up_to n))) →
      Costs 0 x (elim o [ None ↦ silent x | Some q ↦ then (serve_one q x) (serve_up_to n) ])
  served_step n x None ih = omega arith
  served_step n x (Some q) ih = ih q refl

  pub costs_serve_up_to : (n : ℕ) (x : State m) → Costs 0 x (serve_up_to n x)
  unfolding serve_up_to next
  costs_serve_up_to zero x = omega arith
  costs_serve_up_to (suc n) x =
      served_step n x (next x) (λ q e.
      costs_then 0 0 0 x (serve_one q x) (serve_up_to n) (costs_serve_one q x (next_waits (admitted x) q x.queue e)) (costs_serve_up_to n (serve_one q x).state) (omega arith))

  -- the queue is served
  pub costs_serve : (x : State m) → Costs 0 x (serve x)
  costs_serve x = costs_serve_up_to (length x.queue) x

  gone : (vs : List Bearer) (x : State m) → Removable x.bearers vs → Costs 0 x (each (drop_bearer kind.Gone cause.IuReleased) vs x)
  gone [] x st = omega arith
  gone (b ∷ vs) x st =
      let o = drop_bearer kind.Gone cause.IuReleased b x in
      costs_then 0 0 0 x o (each (drop_bearer kind.Gone cause.IuReleased) vs) (costs_drop kind.Gone cause.IuReleased b x st.0) (gone vs o.state st.1) (omega arith)

  -- the set-up RABs of a place are gone
  pub costs_drop_place : (p : ℕ) (x : State m) → Costs 0 x (drop_place p x)
  costs_drop_place p x = gone (filter (stands_at p) x.bearers) x (removable (filter (stands_at p) x.bearers) x.bearers (λ k j. times_kept (stands_at p) k j x.bearers))
