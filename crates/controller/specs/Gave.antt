-- What a part of the controller did: the state after it, and the reports that it wrote.
use Rattle.std.specs.Prelude.{◌≡◌}
use Rattle.rules.specs.Radio.{Radio}
use Rattle.rules.specs.State.{State, Outcome}
use Rattle.controller.specs.Page.{Wrote}
use Rattle.controller.specs.View.{view}
use Rattle.controller.specs.declared.controller.Controller.{Controller}
use Rattle.controller.specs.declared.writing.Sheet.{Sheet}

-- the outcome is what was done: the state is y, and its reports are written
pub record Gave {m : Radio} (o : Outcome m) (y : State m) (before after : Sheet) : Type 0 where
  pub state : y ≡ o.state
  pub wrote : Wrote o.reports before after

-- the same of a controller over a pool P, for what is to be done from the state before
abbrev pub Did : {P : Type 0} (m : Radio) (s : P → m.State) (f : State m → Outcome m) (old new : Controller P) (before after : Sheet) → Type 0
Did m s f old new before after = Gave (f (view m s old)) (view m s new) before after
