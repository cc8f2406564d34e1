-- What the tables hold, as lists; and when a RAB may be entered, or a request queued.
use Rattle.std.specs.Prelude.{Bool, not, ◌&&◌, ◌||◌, List, vec_items, nat_lt}
use Rattle.rules.specs.Tables.{is_some, set_up_as, waits_as, known_in}
use Rattle.rules.specs.declared.bearer.Bearer.{Bearer}
use Rattle.rules.specs.declared.bearer.Request.{Request}
use Rattle.bearers.specs.Order.{bearer_good, level_good}
use Rattle.bearers.specs.declared.tables.RabTables.{RabTables}

-- the set-up RABs, by place and RAB ID
abbrev pub bearers_of : RabTables → List Bearer
bearers_of t = vec_items t.bearers

-- the waiting requests, by arrival
abbrev pub queue_of : RabTables → List Request
queue_of t = vec_items t.queue

-- a RAB may be entered that is neither set up nor waiting, while fewer than 64 are known
abbrev pub enterable : Bearer → List Bearer → List Request → Bool
enterable b bs qs =
    bearer_good b && not (is_some (set_up_as b.place b.rab bs)) && not (is_some (waits_as b.place b.rab qs)) && nat_lt (known_in bs qs) 64

-- a request may be queued whose RAB does not wait, and is set up or may yet be known
abbrev pub queueable : Request → List Bearer → List Request → Bool
queueable q bs qs =
    level_good q.priority && not (is_some (waits_as q.place q.rab qs)) &&
    (is_some (set_up_as q.place q.rab bs) || nat_lt (known_in bs qs) 64)
