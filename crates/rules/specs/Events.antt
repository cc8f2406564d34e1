-- What an accepted frame does: RAB assignment, Iu release, and the two messages of a relocation.
use Rattle.std.specs.Prelude.{ℕ, cond, ◌||◌, List, filter, slice_set}
use Rattle.rules.specs.Radio.{Radio}
use Rattle.rules.specs.Tables.{stands_at, waits_at}
use Rattle.rules.specs.State.{State, Outcome, silent, then, each, at_connections}
use Rattle.rules.specs.Connections.{opened, preparing, prepared, state_at, vacant}
use Rattle.rules.specs.Actions.{refuse, fail_all, drop_bearer}
use Rattle.rules.specs.Request.{assign, release}
use Rattle.rules.specs.Queue.{serve}
use Rattle.rules.specs.Message.{Message, rab_assignment_request, iu_release_command, relocation_command, relocation_preparation_failure, releases, assignments}
use Rattle.rules.specs.Relocation.{commanded, failure}
use Rattle.rules.specs.declared.item.Assignment.{Assignment}
use Rattle.rules.specs.declared.item.ReadItem.{ReadItem}
use Rattle.rules.specs.declared.report.ReportKind.TheVariants as kind
use Rattle.rules.specs.declared.report.Cause.TheVariants as cause

module _ {m : Radio} where
  -- a release item; on a relocating connection it fails with cause 3. Then the queue is served
  unfoldable pub release_item : ℕ → ℕ → State m → Outcome m
  release_item p r x = then (cond (opened (state_at p x)) (release p r x) (refuse kind.NotReleased p r cause.RelocationTriggered x)) serve

  -- any other item, likewise
  unfoldable pub assign_item : ℕ → Assignment → State m → Outcome m
  assign_item p a x = then (cond (opened (state_at p x)) (assign p a x) (refuse kind.Failed p a.rab cause.RelocationTriggered x)) serve

  -- releases are carried out first, in frame order, then the others in frame order
  abbrev pub assignment : ℕ → List ReadItem → State m → Outcome m
  assignment p is x = then (each (release_item p) (releases is) x) (each (assign_item p) (assignments is))

  -- a running relocation ends as by a failure
  abbrev pub end_if_running : ℕ → State m → Outcome m
  end_if_running p x = cond (preparing (state_at p x) || prepared (state_at p x)) (failure p x) (silent x)

  -- the place's set-up RABs are gone with their connection, by RAB ID
  abbrev pub drop_place : ℕ → State m → Outcome m
  drop_place p x = each (drop_bearer kind.Gone cause.IuReleased) (filter (stands_at p) x.bearers) x

  -- a place is closed
  abbrev pub close : ℕ → State m → State m
  close p x = at_connections x (slice_set x.connections p vacant)

  -- Iu release: a running relocation ends, waiting requests fail by arrival, set-up RABs go by RAB ID,
  -- all with cause 11; the place is closed and the queue served
  unfoldable pub iu_release : ℕ → State m → Outcome m
  iu_release p x =
      then (end_if_running p x) λ y.
      then (fail_all cause.IuReleased (waits_at p) y) λ z.
      then (drop_place p z) λ w.
      serve (close p w)

  -- what an accepted frame does
  abbrev pub handled : Message → State m → Outcome m
  handled (rab_assignment_request p is) x = assignment p is x
  handled (iu_release_command p) x = iu_release p x
  handled (relocation_command p) x = commanded p x
  handled (relocation_preparation_failure p) x = failure p x
