-- Serving the queue keeps book and state together.
use Rattle.std.proofs.Common.{◌≡◌, ℕ, zero, suc, Bool, true, false, cond, List, [], ◌∷◌, length, Some, None, filter, Option, sym, refl, ap, ◌∙◌, ⊎_elim, arith}
use Rattle.std.proofs.lemmas.Bool.{or_left}
use Rattle.rules.specs.Radio.{Radio}
use Rattle.rules.specs.State.{State, Outcome, silent, then, at_queue}
use Rattle.rules.specs.Tables.{is_some, waits_as, without_request}
use Rattle.rules.specs.Preemption.{admitted, own}
use Rattle.rules.specs.Request.{done, free_own}
use Rattle.rules.specs.Queue.{first_by_level, next, serve_one, serve_up_to, serve}
use Rattle.rules.specs.declared.bearer.Request.{Request}
use Rattle.rules.specs.declared.item.ReadItem.{ReadItem}
use Rattle.bounds.proofs.Leavers.{next_waits, pick}
use Rattle.runs.specs.Ledger.{Ledger, take_reports, asked_at, with_parameters}
use Rattle.runs.specs.Law.{Laws}
use Rattle.runs.proofs.Room.{room_made}
use Rattle.runs.proofs.Agrees.{is_some_size}
use Rattle.runs.proofs.Fed.{Stands, fed_then}
use Rattle.runs.proofs.Filled.{filled}
use Rattle.runs.proofs.Made.{made_waiting}

passes_step : (test : Request → Bool) (w q : Request) (ks : List Request) (t : Bool) → test w ≡ t → first_by_level (cond t (w ∷ ks) ks) ≡ Some q →
    (first_by_level ks ≡ Some q → test q ≡ true) → test q ≡ true
passes_step test w q ks true e f ih = ⊎_elim (λ same. sym (ap test same) ∙ e) ih (pick w q (first_by_level ks) f)
passes_step test w q ks false e f ih = ih f

-- what is next passes
pub next_passes : (test : Request → Bool) (q : Request) (qs : List Request) → first_by_level (filter test qs) ≡ Some q → test q ≡ true
next_passes test q [] e = let z : ◌≡◌ {A = ℕ} 0 1 = cc in absurd (omega arith)
next_passes test q (w ∷ qs) e = passes_step test w q (filter test qs) (test w) refl e (next_passes test q qs)

module _ {m : Radio} (laws : Laws m) (fp : ℕ) (is : List ReadItem) (todo : ℕ → ℕ → ℕ) where
  -- a waiting request that would be admitted is done
  pub kept_serve_one : (q : Request) (l : Ledger) (x : State m) → Stands todo l x → is_some (waits_as q.place q.rab x.queue) ≡ true → admitted x q ≡ true →
      Stands todo (take_reports fp is (serve_one q x).reports l) (serve_one q x).state
  unfolding done
  kept_serve_one q l x s waits room =
      let y = at_queue x (without_request q.place q.rab x.queue) in
      filled laws fp is todo q l (free_own (own q y) y) (made_waiting laws todo q.place q.rab l x s waits)
      (room_made laws y (own q y) q.size [] s.agrees.sound room)
      (or_left (is_some (l.waiting q.place q.rab)) (with_parameters (asked_at fp q.rab q.place is))
      (ap is_some (s.agrees.waiting q.place q.rab) ∙ is_some_size (waits_as q.place q.rab x.queue) ∙ waits))

  served_step : (n : ℕ) (l : Ledger) (x : State m) → Stands todo l x → (o : Option Request) →
      ((q : Request) → o ≡ Some q → Stands todo (take_reports fp is (then (serve_one q x) (serve_up_to n)).reports l) (then (serve_one q x) (serve_up_to n)).state) →
      Stands todo
      (take_reports fp is (Outcome.reports (elim o [ None ↦ silent x | Some q ↦ then (serve_one q x) (serve_up_to n) ])) l)
      (Outcome.state (elim o [ None ↦ silent x | Some q ↦ then (serve_one q x) (serve_up_to n) ]))
  served_step n l x s None ih = s
  served_step n l x s (Some q) ih = ih q refl

  kept_serves : (n : ℕ) (l : Ledger) (x : State m) → Stands todo l x → Stands todo (take_reports fp is (serve_up_to n x).reports l) (serve_up_to n x).state
  unfolding serve_up_to next
  kept_serves zero l x s = s
  kept_serves (suc n) l x s =
      served_step n l x s (next x) (λ q e.
      fed_then fp is (Stands todo) l (serve_one q x) (serve_up_to n)
      (kept_serves n (take_reports fp is (serve_one q x).reports l) (serve_one q x).state
      (kept_serve_one q l x s (next_waits (admitted x) q x.queue e) (next_passes (admitted x) q x.queue e))))

  -- the queue is served
  pub kept_serve : (l : Ledger) (x : State m) → Stands todo l x → Stands todo (take_reports fp is (serve x).reports l) (serve x).state
  kept_serve l x s = kept_serves (length x.queue) l x s
