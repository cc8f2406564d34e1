-- The queue is served turn by turn, until no waiting request would be admitted.
use Rattle.std.proofs.Common.{◌≡◌, ℕ, zero, suc, ◌≤◌, List, [], ◌∷◌, length, Some, None, Option, sym, refl, ap, ◌∙◌, subst, arith}
use Rattle.rules.specs.Radio.{Radio}
use Rattle.rules.specs.State.{State, Outcome, silent, then, at_queue}
use Rattle.rules.specs.Tables.{without_request}
use Rattle.rules.specs.Preemption.{admitted}
use Rattle.rules.specs.Queue.{next, serve_one, serve_up_to, serve}
use Rattle.rules.specs.declared.bearer.Request.{Request}
use Rattle.rules.specs.declared.report.Report.{Report}
use Rattle.bearers.proofs.Waiting.{Apart, apart_from}
use Rattle.laws.specs.Lists.{Among}
use Rattle.laws.specs.Serving.{Quiet, First, Turn, Serves, over, turn, QueueInOrder}
use Rattle.laws.proofs.Firsts.{leads, none_passes}
use Rattle.laws.proofs.Leaving.{gap, one_fewer}
use Rattle.laws.proofs.Anew.{alone}

none_left : (x : Request) (qs : List Request) → length qs ≤ 0 → Among x qs → ⊥
none_left x [] l a = a
none_left x (q ∷ qs) l a = absurd (omega arith)

module _ {m : Radio} where
  -- who is next
  pub is_first : (x : State m) (q : Request) → next x ≡ Some q → First x q
  unfolding next
  is_first x q e =
      let l = leads (admitted x) q x.queue e in
      record { came_before = l.came_before; came_behind = l.came_behind; waits = l.waits; fits = l.fits; before = l.before; behind = l.behind }

  pub is_quiet : (x : State m) → next x ≡ None → Quiet x
  unfolding next
  is_quiet x e w a = none_passes (admitted x) w x.queue e a

  -- the state without a request
  abbrev left_by : Request → State m → State m
  left_by q x = at_queue x (without_request q.place q.rab x.queue)

  served_queue : (q : Request) (x : State m) → (serve_one q x).state.queue ≡ without_request q.place q.rab x.queue
  served_queue q x = (alone q (left_by q x)).queue

  turn_fewer : (q : Request) (x : State m) → First x q → length x.queue ≡ suc (length (serve_one q x).state.queue)
  turn_fewer q x f =
      ap length f.waits ∙ one_fewer q f.came_before f.came_behind ∙
      sym (ap (λ qs. suc (length qs)) (served_queue q x ∙ ap (without_request q.place q.rab) f.waits))

  one_turn : (q : Request) (x : State m) → First x q → Turn x q (serve_one q x).reports (serve_one q x).state
  one_turn q x f = record {
    first = f;
    done = let d = alone q (left_by q x) in record { report = d.report; set_up = d.set_up; others = d.others; queue = d.queue; connections = d.connections; tickets = d.tickets };
    fewer = turn_fewer q x f;
    leaves = λ a.
        served_queue q x ∙ ap (without_request q.place q.rab) f.waits ∙
        gap q f.came_before f.came_behind (subst Apart f.waits (apart_from x.queue a));
    after = refl;
  }

  turns_step : (n : ℕ) (x : State m) (o : Option Request) → next x ≡ o →
      ((q : Request) → First x q → Serves (serve_one q x).state (serve_up_to n (serve_one q x).state).reports (serve_up_to n (serve_one q x).state).state) →
      Serves x
      (Outcome.reports (elim o [ None ↦ silent x | Some q ↦ then (serve_one q x) (serve_up_to n) ]))
      (Outcome.state (elim o [ None ↦ silent x | Some q ↦ then (serve_one q x) (serve_up_to n) ]))
  turns_step n x None e ih = over (is_quiet x e)
  turns_step n x (Some q) e ih = let f = is_first x q e in turn (one_turn q x f) (ih q f)

  turns : (n : ℕ) (x : State m) → length x.queue ≤ n → Serves x (serve_up_to n x).reports (serve_up_to n x).state
  unfolding serve_up_to
  turns zero x l = over (λ w a. absurd (none_left w x.queue l a))
  turns (suc n) x l = turns_step n x (next x) refl (λ q f. let s = turn_fewer q x f in turns n (serve_one q x).state (omega arith))

  pub serves : (x : State m) → Serves x (serve x).reports (serve x).state
  serves x = turns (length x.queue) x (omega arith)

  -- it ends where no one would be admitted
  ends_quiet : {x y : State m} {rs : List Report} → Serves x rs y → Quiet y
  ends_quiet (over h) = h
  ends_quiet (turn t s) = ends_quiet s

pub queue_in_order : (m : Radio) → QueueInOrder m
queue_in_order m = record { first = is_first; none = is_quiet; turns = serves; quiet = λ x. ends_quiet (serves x) }
