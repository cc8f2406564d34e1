-- The items of a frame, each at its turn.
use Rattle.std.specs.Prelude.{ℕ, cond}
use Rattle.rules.specs.Actions.{refuse}
use Rattle.rules.specs.Connections.{opened, state_at}
use Rattle.rules.specs.Queue.{serve}
use Rattle.rules.specs.Radio.{Radio}
use Rattle.rules.specs.Request.{assign, release}
use Rattle.rules.specs.State.{State, Outcome, then}
use Rattle.rules.specs.declared.item.Item.{Item}
use Rattle.rules.specs.declared.item.Item.TheVariants.{Assign, Release}
use Rattle.rules.specs.declared.report.Cause.TheVariants.{RelocationTriggered}
use Rattle.rules.specs.declared.report.ReportKind.TheVariants.{NotReleased, Failed}

module _ {m : Radio} where
  -- an item of either kind; on a relocating connection it fails with cause 3
  abbrev pub taken : ℕ → Item → State m → Outcome m
  taken p (Assign a) x = cond (opened (state_at p x)) (assign p a x) (refuse Failed p a.rab RelocationTriggered x)
  taken p (Release r) x = cond (opened (state_at p x)) (release p r x) (refuse NotReleased p r RelocationTriggered x)

  -- then the queue is served
  abbrev pub item_turn : ℕ → Item → State m → Outcome m
  item_turn p i x = then (taken p i x) serve
