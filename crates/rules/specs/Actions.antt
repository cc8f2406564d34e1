-- The actions of which every call is made up: what each does to a RAB or to the queue, and what it reports.
use Rattle.std.specs.Prelude.{ℕ, Bool, cond, not, [], ◌∷◌, ◌++◌, map, filter, nat_eq}
use Rattle.rules.specs.Radio.{Radio, after_take, after_give}
use Rattle.rules.specs.Tables.{is_some, waits_as, with_bearer, without_bearer, without_request, first_from}
use Rattle.rules.specs.State.{State, Outcome, silent, tell, at_queue}
use Rattle.rules.specs.declared.bearer.Bearer.{Bearer}
use Rattle.rules.specs.declared.bearer.Request.{Request}
use Rattle.rules.specs.declared.report.Report.{Report}
use Rattle.rules.specs.declared.report.ReportKind.{ReportKind}
use Rattle.rules.specs.declared.report.ReportKind.TheVariants as kind
use Rattle.rules.specs.declared.report.Cause.{Cause}
use Rattle.rules.specs.declared.report.Cause.TheVariants as cause

-- a report of kind 1, with the size in use
abbrev pub done_report : ℕ → ℕ → ℕ → Report
done_report p r s = record { kind = kind.Done; place = p; rab = r; cause = cause.NoCause; size = s }

-- a report of another kind
abbrev pub report : ReportKind → ℕ → ℕ → Cause → Report
report k p r c = record { kind = k; place = p; rab = r; cause = c; size = 0 }

-- the report that a waiting request fails
abbrev pub failed : Cause → Request → Report
failed c q = report kind.Failed q.place q.rab c

module _ {m : Radio} where
  -- a new grant takes the smallest number not held; where 0 to 62 are held, only 63 is left
  abbrev pub free_grant : State m → ℕ
  free_grant x = first_from (λ g. nat_eq (m.holds x.pool g) 0) 0 63

  -- the RAB's waiting request, if it has one, fails
  abbrev pub fail_waiting : Cause → ℕ → ℕ → State m → Outcome m
  fail_waiting c p r x = cond (is_some (waits_as p r x.queue)) (tell (report kind.Failed p r c) (at_queue x (without_request p r x.queue))) (silent x)

  -- all waiting requests that pass a test fail, by arrival
  abbrev pub fail_all : Cause → (Request → Bool) → State m → Outcome m
  fail_all c test x = record { reports = map (failed c) (filter test x.queue); state = at_queue x (filter (λ q. not (test q)) x.queue) }

  -- a request is refused, and nothing changes
  abbrev pub refuse : ReportKind → ℕ → ℕ → Cause → State m → Outcome m
  refuse k p r c x = tell (report k p r c) x

  -- a set-up RAB's grant is given back, and it stands in the table no more
  abbrev pub free_bearer : Bearer → State m → State m
  free_bearer b x = record {
    number = x.number;
    connections = x.connections;
    bearers = without_bearer b.place b.rab x.bearers;
    queue = x.queue;
    tickets = x.tickets;
    pool = after_give m x.pool b.grant;
  }

  -- a set-up RAB is given up: it is unknown
  abbrev pub drop_bearer : ReportKind → Cause → Bearer → State m → Outcome m
  drop_bearer k c b x = tell (report k b.place b.rab c) (free_bearer b x)

  -- a RAB is set up with a new grant: done, with the size that it now has
  abbrev pub establish : Request → State m → Outcome m
  establish q x = tell (done_report q.place q.rab q.size) record {
    number = x.number;
    connections = x.connections;
    bearers = with_bearer (record { place = q.place; rab = q.rab; grant = free_grant x; size = q.size; priority = q.priority }) x.bearers;
    queue = x.queue;
    tickets = x.tickets;
    pool = after_take m x.pool (free_grant x) q.size;
  }

  -- a modification without RAB parameters is done with the size in use
  abbrev pub keep_size : Bearer → State m → Outcome m
  keep_size b x = tell (done_report b.place b.rab b.size) x

  -- a request waits, behind those that came before
  abbrev pub enqueue : Request → State m → Outcome m
  enqueue q x = tell (report kind.Queued q.place q.rab cause.NoCause) (at_queue x (x.queue ++ q ∷ []))
