-- After its request has failed, a RAB waits no more.
use Rattle.std.proofs.Common.{◌≡◌, ℕ, Bool, true, false, cond, None, refl}
use Rattle.bearers.proofs.Waiting.{Apart, gone_without, nothing_there}
use Rattle.rules.specs.Actions.{fail_waiting, report}
use Rattle.rules.specs.Radio.{Radio}
use Rattle.rules.specs.State.{State, tell, silent, at_queue}
use Rattle.rules.specs.Tables.{is_some, waits_as, without_request}
use Rattle.rules.specs.declared.report.Cause.{Cause}
use Rattle.rules.specs.declared.report.ReportKind.TheVariants as kind

module _ {m : Radio} (c : Cause) (p r : ℕ) (x : State m) (ok : Apart x.queue) where
  at_test : (w : Bool) → is_some (waits_as p r x.queue) ≡ w →
      waits_as p r (cond w (tell (report kind.Failed p r c) (at_queue x (without_request p r x.queue))) (silent x)).state.queue ≡ None
  at_test true e = gone_without p r x.queue ok
  at_test false e = nothing_there (waits_as p r x.queue) e

  pub waits_no_more : waits_as p r (fail_waiting c p r x).state.queue ≡ None
  waits_no_more = at_test (is_some (waits_as p r x.queue)) refl
