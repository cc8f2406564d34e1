-- Serving ends where no waiting request would be admitted: as many turns as the queue is long are enough.
use Rattle.std.proofs.Common.{◌≡◌, ℕ, zero, suc, ◌≤◌, Bool, true, false, cond, leb, List, [], ◌∷◌, length, Some, None, filter, Option, sym, refl, ap, ◌∙◌, arith}
use Rattle.rules.specs.Radio.{Radio}
use Rattle.rules.specs.State.{State, Outcome, silent, then, at_queue}
use Rattle.rules.specs.Tables.{asks_for, waits_as, without_request}
use Rattle.rules.specs.Preemption.{admitted, own}
use Rattle.rules.specs.Request.{done, free_own}
use Rattle.rules.specs.Queue.{ahead, first_by_level, next, serve_one, serve_up_to, serve}
use Rattle.rules.specs.declared.bearer.Bearer.{Bearer}
use Rattle.rules.specs.declared.bearer.Request.{Request}
use Rattle.bounds.proofs.Leavers.{next_waits, shorter}

-- no waiting request would be admitted
abbrev pub Quiet : {m : Radio} → State m → Type 0
Quiet x = (p r : ℕ) (q : Request) → waits_as p r x.queue ≡ Some q → admitted x q ≡ false

-- what is ahead is one or the other
ahead_some : (q : Request) (o : Option Request) → ahead q o ≡ None → ⊥
ahead_some q None e = let z : ◌≡◌ {A = ℕ} 0 1 = cc in omega arith
ahead_some q (Some w) e = at (leb q.priority.level w.priority.level) e
  where
    at : (t : Bool) → cond t (Some q) (Some w) ≡ None → ⊥
    at true f = let z : ◌≡◌ {A = ℕ} 0 1 = cc in omega arith
    at false f = let z : ◌≡◌ {A = ℕ} 0 1 = cc in omega arith

quiet_step : (test : Request → Bool) (p r : ℕ) (w q : Request) (qs : List Request) (t k : Bool) → test w ≡ t →
    first_by_level (cond t (w ∷ filter test qs) (filter test qs)) ≡ None → cond k (Some w) (waits_as p r qs) ≡ Some q →
    (first_by_level (filter test qs) ≡ None → waits_as p r qs ≡ Some q → test q ≡ false) → test q ≡ false
quiet_step test p r w q qs true k e n f ih = absurd (ahead_some w (first_by_level (filter test qs)) n)
quiet_step test p r w q qs false true e n f ih = let s : w ≡ q = cc in sym (ap test s) ∙ e
quiet_step test p r w q qs false false e n f ih = ih n f

-- none is next, so none passes
pub none_passes : (test : Request → Bool) (p r : ℕ) (q : Request) (qs : List Request) → first_by_level (filter test qs) ≡ None → waits_as p r qs ≡ Some q → test q ≡ false
none_passes test p r q [] n f = let z : ◌≡◌ {A = ℕ} 0 1 = cc in absurd (omega arith)
none_passes test p r q (w ∷ qs) n f = quiet_step test p r w q qs (test w) (asks_for p r w) refl n f (none_passes test p r q qs)

none_left : (qs : List Request) → length qs ≤ 0 → qs ≡ []
none_left [] l = refl
none_left (q ∷ qs) l = absurd (omega arith)

module _ {m : Radio} where
  free_own_queue : (o : Option Bearer) (x : State m) → (free_own o x).queue ≡ x.queue
  free_own_queue None x = refl
  free_own_queue (Some b) x = refl

  served_queue : (q : Request) (x : State m) → (serve_one q x).state.queue ≡ without_request q.place q.rab x.queue
  unfolding done
  served_queue q x = free_own_queue (own q x) (at_queue x (without_request q.place q.rab x.queue))

  served_step : (n : ℕ) (x : State m) (o : Option Request) → next x ≡ o →
      ((q : Request) → o ≡ Some q → next (serve_up_to n (serve_one q x).state).state ≡ None) →
      next (Outcome.state (elim o [ None ↦ silent x | Some q ↦ then (serve_one q x) (serve_up_to n) ])) ≡ None
  served_step n x None e ih = e
  served_step n x (Some q) e ih = ih q refl

  -- serving leaves none next
  pub serves_all : (n : ℕ) (x : State m) → length x.queue ≤ n → next (serve_up_to n x).state ≡ None
  unfolding serve_up_to next
  serves_all zero x l = ap (λ qs. first_by_level (filter (admitted x) qs)) (none_left x.queue l)
  serves_all (suc n) x l =
      served_step n x (next x) refl (λ q e.
      let s = shorter q.place q.rab x.queue (next_waits (admitted x) q x.queue e) in
      let f = ap length (served_queue q x) in
      serves_all n (serve_one q x).state (omega arith))

  -- serving ends where no waiting request would be admitted
  pub serve_quiet : (x : State m) → Quiet (serve x).state
  unfolding next
  serve_quiet x p r q e = none_passes (admitted (serve x).state) p r q (serve x).state.queue (serves_all (length x.queue) x (omega arith)) e
