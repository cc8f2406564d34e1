-- The queue once the requests that wait on victims are gone.
use Rattle.std.proofs.Common.{◌≡◌, ℕ, Bool, true, false, cond, not, ◌||◌, List, [], ◌∷◌, Some, None, filter, Option, sym, refl, ap, ◌∙◌, subst, arith}
use Rattle.std.proofs.lemmas.Bool.Decides.{nat_tests}
use Rattle.rules.specs.Radio.{Radio}
use Rattle.rules.specs.State.{State, silent, tell, at_queue, each}
use Rattle.rules.specs.Tables.{is_some, asks_for, waits_as, without_request}
use Rattle.rules.specs.Actions.{report}
use Rattle.rules.specs.Request.{pre_empt}
use Rattle.rules.specs.declared.bearer.Bearer.{Bearer}
use Rattle.rules.specs.declared.bearer.Request.{Request}
use Rattle.rules.specs.declared.report.Report.{Report}
use Rattle.rules.specs.declared.report.ReportKind.TheVariants as kind
use Rattle.rules.specs.declared.report.Cause.TheVariants as cause
use Rattle.bearers.proofs.Waiting.{Apart, apart_without, none_head}
use Rattle.laws.specs.Granted.{asks_for_one}

-- one test after another
kept_twice : (f g : Request → Bool) (qs : List Request) → filter (λ w. not (g w)) (filter (λ w. not (f w)) qs) ≡ filter (λ w. not (f w || g w)) qs
kept_twice f g [] = refl
kept_twice f g (q ∷ qs) = at (f q) (g q) refl refl (kept_twice f g qs)
  where
    at : (s t : Bool) → f q ≡ s → g q ≡ t → filter (λ w. not (g w)) (filter (λ w. not (f w)) qs) ≡ filter (λ w. not (f w || g w)) qs →
        filter (λ w. not (g w)) (cond (not s) (q ∷ filter (λ w. not (f w)) qs) (filter (λ w. not (f w)) qs)) ≡ cond (not (s || t)) (q ∷ filter (λ w. not (f w || g w)) qs) (filter (λ w. not (f w || g w)) qs)
    at true t e h ih = ih
    at false true e h ih = ap (λ u. cond (not u) (q ∷ filter (λ w. not (g w)) (filter (λ w. not (f w)) qs)) (filter (λ w. not (g w)) (filter (λ w. not (f w)) qs))) h ∙ ih
    at false false e h ih =
        ap (λ u. cond (not u) (q ∷ filter (λ w. not (g w)) (filter (λ w. not (f w)) qs)) (filter (λ w. not (g w)) (filter (λ w. not (f w)) qs))) h ∙ ap (λ zs. q ∷ zs) ih

kept_all : (qs : List Request) → filter (λ w. true) qs ≡ qs
kept_all [] = refl
kept_all (q ∷ qs) = ap (λ zs. q ∷ zs) (kept_all qs)

-- where none of a RAB waits, nothing leaves
none_leaves : (p r : ℕ) (qs : List Request) → waits_as p r qs ≡ None → (without_request p r qs ≡ qs) × (filter (λ w. not (asks_for p r w)) qs ≡ qs)
none_leaves p r [] e = (refl, refl)
none_leaves p r (q ∷ qs) e =
    let n = none_head p r q qs (asks_for p r q) refl e in
    let i = none_leaves p r qs n.1 in (
      ap (λ t. cond t qs (q ∷ without_request p r qs)) n.0 ∙ ap (λ zs. q ∷ zs) i.0,
      ap (λ t. cond (not t) (q ∷ filter (λ w. not (asks_for p r w)) qs) (filter (λ w. not (asks_for p r w)) qs)) n.0 ∙ ap (λ zs. q ∷ zs) i.1,
    )

leave_step : (p r : ℕ) (q : Request) (qs : List Request) (t : Bool) → asks_for p r q ≡ t → waits_as q.place q.rab qs ≡ None →
    without_request p r qs ≡ filter (λ w. not (asks_for p r w)) qs →
    cond t qs (q ∷ without_request p r qs) ≡ cond (not t) (q ∷ filter (λ w. not (asks_for p r w)) qs) (filter (λ w. not (asks_for p r w)) qs)
leave_step p r q qs true e none ih =
    let ep : q.place ≡ p = grind (arith, nat_tests) in
    let er : q.rab ≡ r = grind (arith, nat_tests) in
    let n : waits_as p r qs ≡ None = subst (λ z. waits_as z r qs ≡ None) ep (subst (λ z. waits_as q.place z qs ≡ None) er none) in
    sym (none_leaves p r qs n).1
leave_step p r q qs false e none ih = ap (λ zs. q ∷ zs) ih

-- where no RAB waits twice, all of a RAB leave
all_leave : (p r : ℕ) (qs : List Request) → Apart qs → without_request p r qs ≡ filter (λ w. not (asks_for p r w)) qs
all_leave p r [] ok = refl
all_leave p r (q ∷ qs) ok = leave_step p r q qs (asks_for p r q) refl ok.0 (all_leave p r qs ok.1)

module _ {m : Radio} where
  failed_queue : (p r : ℕ) (o : Report) (x : State m) (w : Option Request) → waits_as p r x.queue ≡ w →
      (cond (is_some w) (tell o (at_queue x (without_request p r x.queue))) (silent x)).state.queue ≡ without_request p r x.queue
  failed_queue p r o x None e = sym (none_leaves p r x.queue e).0
  failed_queue p r o x (Some q) e = refl

  gone_queue : (b : Bearer) (x : State m) → (pre_empt b x).state.queue ≡ without_request b.place b.rab x.queue
  gone_queue b x = failed_queue b.place b.rab (report kind.Failed b.place b.rab cause.RabPreempted) x (waits_as b.place b.rab x.queue) refl

  -- all victims go
  pub queue_after : (vs : List Bearer) (x : State m) → Apart x.queue → (each pre_empt vs x).state.queue ≡ filter (λ w. not (asks_for_one vs w)) x.queue
  queue_after [] x ok = sym (kept_all x.queue)
  queue_after (v ∷ vs) x ok =
      let e = gone_queue v x in
      queue_after vs (pre_empt v x).state (subst Apart (sym e) (apart_without v.place v.rab x.queue ok)) ∙
      ap (filter (λ w. not (asks_for_one vs w))) (e ∙ all_leave v.place v.rab x.queue ok) ∙
      kept_twice (asks_for v.place v.rab) (asks_for_one vs) x.queue

  failed_rest : (t : Bool) (o : Report) (x : State m) (qs : List Request) →
      ((cond t (tell o (at_queue x qs)) (silent x)).state.connections ≡ x.connections) × ((cond t (tell o (at_queue x qs)) (silent x)).state.tickets ≡ x.tickets)
  failed_rest true o x qs = (refl, refl)
  failed_rest false o x qs = (refl, refl)

  -- connections and tickets stay
  pub rest_after : (vs : List Bearer) (x : State m) → ((each pre_empt vs x).state.connections ≡ x.connections) × ((each pre_empt vs x).state.tickets ≡ x.tickets)
  rest_after [] x = (refl, refl)
  rest_after (v ∷ vs) x =
      let i = rest_after vs (pre_empt v x).state in
      let f = failed_rest (is_some (waits_as v.place v.rab x.queue)) (report kind.Failed v.place v.rab cause.RabPreempted) x (without_request v.place v.rab x.queue) in
      (i.0 ∙ f.0, i.1 ∙ f.1)
