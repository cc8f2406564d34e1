-- One request, at its turn.
use Rattle.std.specs.Prelude.{ℕ, cond, List, Some, None, Option}
use Rattle.rules.specs.Radio.{Radio}
use Rattle.rules.specs.State.{State, Outcome, tell, then, each}
use Rattle.rules.specs.Tables.{set_up_as, waits_as}
use Rattle.rules.specs.Actions.{fail_waiting, refuse, drop_bearer, free_bearer, establish, keep_size, enqueue, report}
use Rattle.rules.specs.Checks.{fault_of, priority_of}
use Rattle.rules.specs.Preemption.{own, victims}
use Rattle.rules.specs.declared.bearer.Bearer.{Bearer}
use Rattle.rules.specs.declared.bearer.Request.{Request}
use Rattle.rules.specs.declared.item.Assignment.{Assignment}
use Rattle.rules.specs.declared.report.Cause.{Cause}
use Rattle.rules.specs.declared.report.ReportKind.TheVariants as kind
use Rattle.rules.specs.declared.report.Cause.TheVariants as cause

-- the request of an item
abbrev pub request_of : ℕ → Assignment → Option Bearer → Request
request_of p a o = record { place = p; rab = a.rab; size = a.size; priority = priority_of a o }

module _ {m : Radio} where
  -- if the RAB waits, the waiting request first fails with cause 9
  abbrev pub supersede : ℕ → ℕ → State m → Outcome m
  supersede p r x = fail_waiting cause.RequestSuperseded p r x

  -- a RAB is pre-empted: a modification waiting on it first fails, then its release is requested
  abbrev pub pre_empt : Bearer → State m → Outcome m
  pre_empt b x = then (fail_waiting cause.RabPreempted b.place b.rab x) (drop_bearer kind.ReleaseRequested cause.RabPreempted b)

  -- a modification's own grant is given back
  abbrev pub free_own : Option Bearer → State m → State m
  free_own None x = x
  free_own (Some b) x = free_bearer b x

  -- a request is done: its own grant is given back first, then those of its victims in their order, and a new grant is taken
  unfoldable pub done : Request → List Bearer → State m → Outcome m
  done q vs x = then (each pre_empt vs (free_own (own q x) x)) (establish q)

  -- without room a request waits if it may, else it fails with cause 6
  abbrev pub wait_or_fail : Request → State m → Outcome m
  wait_or_fail q x = cond q.priority.queuing (enqueue q x) (refuse kind.Failed q.place q.rab cause.MaximumBitRateNotAvailable x)

  -- a request is done with its victims, or there is no room for it
  abbrev pub done_or_not : Request → Option (List Bearer) → State m → Outcome m
  done_or_not q None x = wait_or_fail q x
  done_or_not q (Some vs) x = done q vs x

  -- a request for a size
  unfoldable pub ask : Request → State m → Outcome m
  ask q x = done_or_not q (victims q x) x

  -- an item with no fault: a modification without flag 0 keeps the size in use
  abbrev pub ask_or_keep : ℕ → Assignment → Option Bearer → State m → Outcome m
  ask_or_keep p a None x = ask (request_of p a None) x
  ask_or_keep p a (Some b) x = let asked = ask (request_of p a (Some b)) x in cond a.flags.parameters asked (keep_size b x)

  -- an item with a fault fails with its cause
  abbrev pub unless_fault : Option Cause → ℕ → Assignment → Option Bearer → State m → Outcome m
  unless_fault (Some c) p a o x = refuse kind.Failed p a.rab c x
  unless_fault None p a o x = ask_or_keep p a o x

  -- a set-up or modify item, a waiting request being out of the way
  abbrev pub assign_anew : ℕ → Assignment → State m → Outcome m
  assign_anew p a x = let o = set_up_as p a.rab x.bearers in unless_fault (fault_of a o x) p a o x

  -- a set-up or modify item on an open connection
  unfoldable pub assign : ℕ → Assignment → State m → Outcome m
  assign p a x = then (supersede p a.rab x) (assign_anew p a)

  -- a RAB that is not set up: released if it waited, else unknown
  abbrev pub release_unset : Option Request → ℕ → ℕ → State m → Outcome m
  release_unset None p r x = refuse kind.NotReleased p r cause.InvalidRabId x
  release_unset (Some q) p r x = then (supersede p r x) (tell (report kind.Released p r cause.NoCause))

  -- a release of a set-up RAB gives its grant back
  abbrev pub release_known : Option Bearer → ℕ → ℕ → State m → Outcome m
  release_known None p r x = release_unset (waits_as p r x.queue) p r x
  release_known (Some b) p r x = then (supersede p r x) (drop_bearer kind.Released cause.NoCause b)

  -- a release item on an open connection
  unfoldable pub release : ℕ → ℕ → State m → Outcome m
  release p r x = release_known (set_up_as p r x.bearers) p r x
