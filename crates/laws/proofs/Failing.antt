-- A waiting request that fails leaves the pool and the set-up RABs as they were.
use Rattle.rules.specs.Radio.{Radio}
use Rattle.rules.specs.State.{State, silent, tell, at_queue}
use Rattle.rules.specs.declared.bearer.Request.{Request}
use Rattle.rules.specs.declared.report.Report.{Report}
use Rattle.std.proofs.Common.{◌≡◌, Bool, true, false, cond, List, refl}

module _ {m : Radio} where
  pub failed_pool : (t : Bool) (o : Report) (x : State m) (qs : List Request) → (cond t (tell o (at_queue x qs)) (silent x)).state.pool ≡ x.pool
  failed_pool true o x qs = refl
  failed_pool false o x qs = refl

  pub failed_bearers : (t : Bool) (o : Report) (x : State m) (qs : List Request) → (cond t (tell o (at_queue x qs)) (silent x)).state.bearers ≡ x.bearers
  failed_bearers true o x qs = refl
  failed_bearers false o x qs = refl
