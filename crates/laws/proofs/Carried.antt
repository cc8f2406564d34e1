-- The parts of a call, over a carried pool: each does what it did, carried.
use Rattle.std.proofs.Common.{◌≡◌, ℕ, zero, suc, Bool, true, false, cond, ◌||◌, List, [], ◌∷◌, ◌++◌, length, filter, nat_eq, Some, None, Option, refl, ap, ◌∙◌, ap₂}
use mathlib.Core.Path.{fun_ext}
use Rattle.rules.specs.Grants.{added}
use Rattle.rules.specs.Radio.{Radio, after_take, after_give}
use Rattle.rules.specs.State.{State, Outcome, silent, tell, then, each, at_queue, at_pool}
use Rattle.rules.specs.Tables.{is_some, set_up_as, waits_as, with_bearer, without_request, first_from, stands_at, waits_at}
use Rattle.rules.specs.Connections.{opened, preparing, prepared, state_at}
use Rattle.rules.specs.Actions.{report, done_report, free_grant, fail_waiting, fail_all, refuse, free_bearer, drop_bearer, establish, keep_size, enqueue}
use Rattle.rules.specs.Checks.{fault_of}
use Rattle.rules.specs.Preemption.{own, own_grant, and_also, admitted, candidate, candidates_from, candidates, shortest_front, victims}
use Rattle.rules.specs.Request.{request_of, supersede, pre_empt, free_own, done, wait_or_fail, done_or_not, ask, ask_or_keep, unless_fault, assign_anew, assign, release_unset, release_known, release}
use Rattle.rules.specs.Queue.{first_by_level, next, serve_one, serve_up_to, serve}
use Rattle.rules.specs.Relocation.{failure}
use Rattle.rules.specs.Message.{Message, rab_assignment_request, iu_release_command, relocation_command, relocation_preparation_failure, releases, assignments}
use Rattle.rules.specs.Events.{release_item, assign_item, assignment, end_if_running, drop_place, close, iu_release, handled}
use Rattle.rules.specs.Calls.{given_back, new_state}
use Rattle.rules.specs.declared.bearer.Bearer.{Bearer}
use Rattle.rules.specs.declared.bearer.Request.{Request}
use Rattle.rules.specs.declared.item.Assignment.{Assignment}
use Rattle.rules.specs.declared.item.ReadItem.{ReadItem}
use Rattle.rules.specs.declared.report.Cause.{Cause}
use Rattle.rules.specs.declared.report.Cause.TheVariants as cause
use Rattle.rules.specs.declared.report.ReportKind.{ReportKind}
use Rattle.rules.specs.declared.report.ReportKind.TheVariants as kind
use Rattle.laws.specs.Carried.{carried, carried_outcome, PoolsAlike}

-- what an Iu release does at the end: the set-up RABs go, the place is closed and the queue served
abbrev closes : {k : Radio} → ℕ → State k → Outcome k
closes p z = then (drop_place p z) (λ v. serve (close p v))

-- before that, the requests that wait there fail
abbrev fails : {k : Radio} → ℕ → State k → Outcome k
fails p y = then (fail_all cause.IuReleased (waits_at p) y) (closes p)

-- a turn of serving: nobody is next, or one is, and n turns may follow
abbrev turn : {k : Radio} → ℕ → Option Request → State k → Outcome k
turn n o x = elim o [ None ↦ silent x | Some q ↦ then (serve_one q x) (serve_up_to n) ]

module _ (m w : Radio) (into : m.State → w.State) where
  abbrev over : State m → State w
  over x = carried m w into x

  abbrev out : Outcome m → Outcome w
  out o = carried_outcome m w into o

  -- one of two
  pub chosen : (t : Bool) (a b : Outcome w) (c d : Outcome m) → a ≡ out c → b ≡ out d → cond t a b ≡ out (cond t c d)
  chosen true a b c d e f = e
  chosen false a b c d e f = f

  -- one thing after the other
  pub then_alike : (o' : Outcome w) (o : Outcome m) (f' : State w → Outcome w) (f : State m → Outcome m) →
      o' ≡ out o → ((y : State m) → f' (over y) ≡ out (f y)) → then o' f' ≡ out (then o f)
  then_alike o' o f' f e same =
      ap (λ z. then z f') e ∙ ap (λ z. record { reports = o.reports ++ z.reports; state = z.state }) (same o.state)

  -- the same for each of a list
  pub each_alike : {X : Type 0} (f' : X → State w → Outcome w) (f : X → State m → Outcome m) →
      ((a : X) (y : State m) → f' a (over y) ≡ out (f a y)) → (as' : List X) (x : State m) → each f' as' (over x) ≡ out (each f as' x)
  each_alike f' f same [] x = refl
  each_alike f' f same (a ∷ as') x = then_alike (f' a (over x)) (f a x) (each f' as') (each f as') (same a x) (each_alike f' f same as')

  pub fail_waiting_alike : (c : Cause) (p r : ℕ) (x : State m) → fail_waiting c p r (over x) ≡ out (fail_waiting c p r x)
  fail_waiting_alike c p r x =
      chosen (is_some (waits_as p r x.queue))
      (tell (report kind.Failed p r c) (at_queue (over x) (without_request p r x.queue))) (silent (over x))
      (tell (report kind.Failed p r c) (at_queue x (without_request p r x.queue))) (silent x)
      refl refl

  pub wait_or_fail_alike : (q : Request) (x : State m) → wait_or_fail q (over x) ≡ out (wait_or_fail q x)
  wait_or_fail_alike q x =
      chosen q.priority.queuing
      (enqueue q (over x)) (refuse kind.Failed q.place q.rab cause.MaximumBitRateNotAvailable (over x))
      (enqueue q x) (refuse kind.Failed q.place q.rab cause.MaximumBitRateNotAvailable x)
      refl refl

  pub release_unset_alike : (o : Option Request) (p r : ℕ) (x : State m) → release_unset o p r (over x) ≡ out (release_unset o p r x)
  release_unset_alike None p r x = refl
  release_unset_alike (Some q) p r x =
      then_alike (supersede p r (over x)) (supersede p r x)
      (tell (report kind.Released p r cause.NoCause)) (tell (report kind.Released p r cause.NoCause))
      (fail_waiting_alike cause.RequestSuperseded p r x) (λ y. refl)

  pub end_if_running_alike : (p : ℕ) (x : State m) → end_if_running p (over x) ≡ out (end_if_running p x)
  end_if_running_alike p x =
      chosen (preparing (state_at p x) || prepared (state_at p x)) (failure p (over x)) (silent (over x)) (failure p x) (silent x) refl refl

  -- whom a request may pre-empt doesn't depend on the pool
  candidates_same : (l : ℕ) (q : Request) (x : State m) → candidates_from l q (over x) ≡ candidates_from l q x
  candidates_same zero q x = refl
  candidates_same (suc l) q x = ap (λ bs. filter (candidate q x (suc l)) x.bearers ++ bs) (candidates_same l q x)

  module _ (alike : PoolsAlike m w into) where
    free_grant_same : (x : State m) → free_grant (over x) ≡ free_grant x
    free_grant_same x = ap (λ h. first_from (λ g. nat_eq (h g) 0) 0 63) (fun_ext {f = w.holds (into x.pool)} {g = m.holds x.pool} (alike.held x.pool))

    admitted_same : (x : State m) (q : Request) → admitted (over x) q ≡ admitted x q
    admitted_same x q = alike.admitted x.pool (own_grant (own q x)) q.size

    shortest_front_same : (x : State m) (n : ℕ → Bool) (s : ℕ) (bs : List Bearer) → shortest_front (over x) n s bs ≡ shortest_front x n s bs
    shortest_front_same x n s [] = refl
    shortest_front_same x n s (b ∷ bs) =
        ap₂ (λ t o. cond t (Some (b ∷ [])) (and_also b o)) (alike.admitted x.pool (added n b.grant) s) (shortest_front_same x (added n b.grant) s bs)

    victims_same : (q : Request) (x : State m) → victims q (over x) ≡ victims q x
    victims_same q x =
        ap₂ (λ t o. cond t (Some []) (cond q.priority.triggers o None)) (admitted_same x q)
        (ap (shortest_front (over x) (own_grant (own q x)) q.size) (candidates_same 14 q x) ∙
        shortest_front_same x (own_grant (own q x)) q.size (candidates q x))

    next_same : (x : State m) → next (over x) ≡ next x
    unfolding next
    next_same x = ap (λ test. first_by_level (filter test x.queue)) (fun_ext {f = admitted (over x)} {g = admitted x} (admitted_same x))

    free_bearer_alike : (b : Bearer) (x : State m) → free_bearer b (over x) ≡ over (free_bearer b x)
    free_bearer_alike b x = ap (at_pool (over (free_bearer b x))) (alike.give_leaves x.pool b.grant)

    drop_alike : (k : ReportKind) (c : Cause) (b : Bearer) (x : State m) → drop_bearer k c b (over x) ≡ out (drop_bearer k c b x)
    drop_alike k c b x = ap (tell (report k b.place b.rab c)) (free_bearer_alike b x)

    pre_empt_alike : (b : Bearer) (x : State m) → pre_empt b (over x) ≡ out (pre_empt b x)
    pre_empt_alike b x =
        then_alike (fail_waiting cause.RabPreempted b.place b.rab (over x)) (fail_waiting cause.RabPreempted b.place b.rab x)
        (drop_bearer kind.ReleaseRequested cause.RabPreempted b) (drop_bearer kind.ReleaseRequested cause.RabPreempted b)
        (fail_waiting_alike cause.RabPreempted b.place b.rab x) (drop_alike kind.ReleaseRequested cause.RabPreempted b)

    free_own_alike : (o : Option Bearer) (x : State m) → free_own o (over x) ≡ over (free_own o x)
    free_own_alike None x = refl
    free_own_alike (Some b) x = free_bearer_alike b x

    -- set up with a grant, the pool being left so
    abbrev set_up_with : Request → State m → ℕ → w.State → Outcome w
    set_up_with q x g y = tell (done_report q.place q.rab q.size) record {
      number = x.number;
      connections = x.connections;
      bearers = with_bearer (record { place = q.place; rab = q.rab; grant = g; size = q.size; priority = q.priority }) x.bearers;
      queue = x.queue;
      tickets = x.tickets;
      pool = y;
    }

    establish_alike : (q : Request) (x : State m) → establish q (over x) ≡ out (establish q x)
    establish_alike q x =
        ap (λ g. set_up_with q x g (after_take w (into x.pool) g q.size)) (free_grant_same x) ∙
        ap (set_up_with q x (free_grant x)) (alike.take_leaves x.pool (free_grant x) q.size)

    done_alike : (q : Request) (vs : List Bearer) (x : State m) → done q vs (over x) ≡ out (done q vs x)
    unfolding done
    done_alike q vs x =
        then_alike (each pre_empt vs (free_own (own q x) (over x))) (each pre_empt vs (free_own (own q x) x)) (establish q) (establish q)
        (ap (each pre_empt vs) (free_own_alike (own q x) x) ∙ each_alike pre_empt pre_empt pre_empt_alike vs (free_own (own q x) x))
        (establish_alike q)

    done_or_not_alike : (q : Request) (o : Option (List Bearer)) (x : State m) → done_or_not q o (over x) ≡ out (done_or_not q o x)
    done_or_not_alike q None x = wait_or_fail_alike q x
    done_or_not_alike q (Some vs) x = done_alike q vs x

    ask_alike : (q : Request) (x : State m) → ask q (over x) ≡ out (ask q x)
    unfolding ask
    ask_alike q x = ap (λ o. done_or_not q o (over x)) (victims_same q x) ∙ done_or_not_alike q (victims q x) x

    ask_or_keep_alike : (p : ℕ) (a : Assignment) (o : Option Bearer) (x : State m) → ask_or_keep p a o (over x) ≡ out (ask_or_keep p a o x)
    ask_or_keep_alike p a None x = ask_alike (request_of p a None) x
    ask_or_keep_alike p a (Some b) x =
        chosen a.flags.parameters (ask (request_of p a (Some b)) (over x)) (keep_size b (over x)) (ask (request_of p a (Some b)) x) (keep_size b x)
        (ask_alike (request_of p a (Some b)) x) refl

    unless_fault_alike : (c : Option Cause) (p : ℕ) (a : Assignment) (o : Option Bearer) (x : State m) → unless_fault c p a o (over x) ≡ out (unless_fault c p a o x)
    unless_fault_alike (Some c) p a o x = refl
    unless_fault_alike None p a o x = ask_or_keep_alike p a o x

    assign_anew_alike : (p : ℕ) (a : Assignment) (x : State m) → assign_anew p a (over x) ≡ out (assign_anew p a x)
    assign_anew_alike p a x = unless_fault_alike (fault_of a (set_up_as p a.rab x.bearers) x) p a (set_up_as p a.rab x.bearers) x

    assign_alike : (p : ℕ) (a : Assignment) (x : State m) → assign p a (over x) ≡ out (assign p a x)
    unfolding assign
    assign_alike p a x =
        then_alike (supersede p a.rab (over x)) (supersede p a.rab x) (assign_anew p a) (assign_anew p a)
        (fail_waiting_alike cause.RequestSuperseded p a.rab x) (assign_anew_alike p a)

    release_known_alike : (o : Option Bearer) (p r : ℕ) (x : State m) → release_known o p r (over x) ≡ out (release_known o p r x)
    release_known_alike None p r x = release_unset_alike (waits_as p r x.queue) p r x
    release_known_alike (Some b) p r x =
        then_alike (supersede p r (over x)) (supersede p r x)
        (drop_bearer kind.Released cause.NoCause b) (drop_bearer kind.Released cause.NoCause b)
        (fail_waiting_alike cause.RequestSuperseded p r x) (drop_alike kind.Released cause.NoCause b)

    release_alike : (p r : ℕ) (x : State m) → release p r (over x) ≡ out (release p r x)
    unfolding release
    release_alike p r x = release_known_alike (set_up_as p r x.bearers) p r x

    serve_one_alike : (q : Request) (x : State m) → serve_one q (over x) ≡ out (serve_one q x)
    serve_one_alike q x = done_alike q [] (at_queue x (without_request q.place q.rab x.queue))

    turn_alike : (n : ℕ) (o : Option Request) (x : State m) → ((y : State m) → serve_up_to n (over y) ≡ out (serve_up_to n y)) →
        turn n o (over x) ≡ out (turn n o x)
    turn_alike n None x ih = refl
    turn_alike n (Some q) x ih = then_alike (serve_one q (over x)) (serve_one q x) (serve_up_to n) (serve_up_to n) (serve_one_alike q x) ih

    serve_up_to_alike : (n : ℕ) (x : State m) → serve_up_to n (over x) ≡ out (serve_up_to n x)
    unfolding serve_up_to
    serve_up_to_alike zero x = refl
    serve_up_to_alike (suc n) x =
        ap (λ o. turn n o (over x)) (next_same x) ∙
        turn_alike n (next x) x (serve_up_to_alike n)

    serve_alike : (x : State m) → serve (over x) ≡ out (serve x)
    serve_alike x = serve_up_to_alike (length x.queue) x

    release_item_alike : (p r : ℕ) (x : State m) → release_item p r (over x) ≡ out (release_item p r x)
    unfolding release_item
    release_item_alike p r x =
        then_alike
        (cond (opened (state_at p x)) (release p r (over x)) (refuse kind.NotReleased p r cause.RelocationTriggered (over x)))
        (cond (opened (state_at p x)) (release p r x) (refuse kind.NotReleased p r cause.RelocationTriggered x))
        serve serve
        (chosen (opened (state_at p x))
        (release p r (over x)) (refuse kind.NotReleased p r cause.RelocationTriggered (over x))
        (release p r x) (refuse kind.NotReleased p r cause.RelocationTriggered x)
        (release_alike p r x) refl)
        serve_alike

    assign_item_alike : (p : ℕ) (a : Assignment) (x : State m) → assign_item p a (over x) ≡ out (assign_item p a x)
    unfolding assign_item
    assign_item_alike p a x =
        then_alike
        (cond (opened (state_at p x)) (assign p a (over x)) (refuse kind.Failed p a.rab cause.RelocationTriggered (over x)))
        (cond (opened (state_at p x)) (assign p a x) (refuse kind.Failed p a.rab cause.RelocationTriggered x))
        serve serve
        (chosen (opened (state_at p x))
        (assign p a (over x)) (refuse kind.Failed p a.rab cause.RelocationTriggered (over x))
        (assign p a x) (refuse kind.Failed p a.rab cause.RelocationTriggered x)
        (assign_alike p a x) refl)
        serve_alike

    assignment_alike : (p : ℕ) (is : List ReadItem) (x : State m) → assignment p is (over x) ≡ out (assignment p is x)
    assignment_alike p is x =
        then_alike (each (release_item p) (releases is) (over x)) (each (release_item p) (releases is) x)
        (each (assign_item p) (assignments is)) (each (assign_item p) (assignments is))
        (each_alike (release_item p) (release_item p) (release_item_alike p) (releases is) x)
        (each_alike (assign_item p) (assign_item p) (assign_item_alike p) (assignments is))

    drop_place_alike : (p : ℕ) (x : State m) → drop_place p (over x) ≡ out (drop_place p x)
    drop_place_alike p x =
        each_alike (drop_bearer kind.Gone cause.IuReleased) (drop_bearer kind.Gone cause.IuReleased) (drop_alike kind.Gone cause.IuReleased)
        (filter (stands_at p) x.bearers) x

    closes_alike : (p : ℕ) (x : State m) → closes p (over x) ≡ out (closes p x)
    closes_alike p x =
        then_alike (drop_place p (over x)) (drop_place p x) (λ y. serve (close p y)) (λ y. serve (close p y))
        (drop_place_alike p x) (λ y. serve_alike (close p y))

    fails_alike : (p : ℕ) (x : State m) → fails p (over x) ≡ out (fails p x)
    fails_alike p x =
        then_alike (fail_all cause.IuReleased (waits_at p) (over x)) (fail_all cause.IuReleased (waits_at p) x) (closes p) (closes p)
        refl (closes_alike p)

    iu_release_alike : (p : ℕ) (x : State m) → iu_release p (over x) ≡ out (iu_release p x)
    unfolding iu_release
    iu_release_alike p x =
        then_alike (end_if_running p (over x)) (end_if_running p x) (fails p) (fails p) (end_if_running_alike p x) (fails_alike p)

    pub handled_alike : (g : Message) (x : State m) → handled g (over x) ≡ out (handled g x)
    handled_alike (rab_assignment_request p is) x = assignment_alike p is x
    handled_alike (iu_release_command p) x = iu_release_alike p x
    handled_alike (relocation_command p) x = refl
    handled_alike (relocation_preparation_failure p) x = refl

    given_back_alike : (n : ℕ) (y : m.State) → given_back w n (into y) ≡ into (given_back m n y)
    unfolding given_back
    given_back_alike zero y = refl
    given_back_alike (suc n) y = ap (λ z. after_give w z n) (given_back_alike n y) ∙ alike.give_leaves (given_back m n y) n

    pub new_alike : (k : ℕ) (y : m.State) → new_state w k (into y) ≡ over (new_state m k y)
    new_alike k y = ap (at_pool (over (new_state m k y))) (given_back_alike 64 y)
