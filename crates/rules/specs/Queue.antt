-- Serving the queue.
use Rattle.std.specs.Prelude.{ℕ, zero, suc, cond, List, [], ◌∷◌, length, Some, None, filter, Option, nat_le}
use Rattle.rules.specs.Radio.{Radio}
use Rattle.rules.specs.State.{State, Outcome, silent, then, at_queue}
use Rattle.rules.specs.Tables.{without_request}
use Rattle.rules.specs.Preemption.{admitted}
use Rattle.rules.specs.Request.{done}
use Rattle.rules.specs.declared.bearer.Request.{Request}

-- one request, or what comes behind it if that has a higher level
abbrev pub ahead : Request → Option Request → Option Request
ahead q None = Some q
ahead q (Some w) = cond (nat_le q.priority.level w.priority.level) (Some q) (Some w)

-- the first by level, then arrival
abbrev pub first_by_level : List Request → Option Request
first_by_level [] = None
first_by_level (q ∷ qs) = ahead q (first_by_level qs)

module _ {m : Radio} where
  -- the first waiting request, by level, then arrival, that would be admitted
  unfoldable pub next : State m → Option Request
  next x = first_by_level (filter (admitted x) x.queue)

  -- a waiting request is done
  abbrev pub serve_one : Request → State m → Outcome m
  serve_one q x = done q [] (at_queue x (without_request q.place q.rab x.queue))

  -- the queue is served until none would be admitted, at most n times
  unfoldable pub serve_up_to : ℕ → State m → Outcome m
  serve_up_to zero x = silent x
  serve_up_to (suc n) x = elim (next x) [ None ↦ silent x | Some q ↦ then (serve_one q x) (serve_up_to n) ]

  -- each one served leaves the queue, so its length is enough
  abbrev pub serve : State m → Outcome m
  serve x = serve_up_to (length x.queue) x
