-- The number of known RABs after each action, and who does not wait after it.
use Rattle.std.proofs.Common.{◌≡◌, ℕ, ◌+◌, ◌≤◌, Bool, true, false, cond, Some, None, refl, ap, ◌∙◌, arith}
use Rattle.std.proofs.lemmas.Bool.Decides.{nat_tests}
use Rattle.rules.specs.Radio.{Radio}
use Rattle.rules.specs.State.{State, Outcome, tell, silent, at_queue}
use Rattle.rules.specs.Tables.{is_some, set_up_as, waits_as, with_bearer, without_bearer, without_request}
use Rattle.rules.specs.Checks.{known}
use Rattle.rules.specs.Connections.{opened, state_at}
use Rattle.rules.specs.Actions.{fail_waiting, free_bearer, report, establish, free_grant}
use Rattle.rules.specs.declared.bearer.Bearer.{Bearer}
use Rattle.rules.specs.declared.bearer.Request.{Request}
use Rattle.rules.specs.declared.report.Cause.{Cause}
use Rattle.rules.specs.declared.report.ReportKind.TheVariants as kind
use Rattle.bearers.proofs.Waiting.{Apart, waits_without, none_without, nothing_there}
use Rattle.bearers.proofs.Standing.{set_with}
use Rattle.bearers.proofs.Known.{fewer, same_new, length_without, length_with}
use Rattle.runs.proofs.Bearers.{Well, set_without}

-- no request waits on a place that is not open
abbrev pub Idle : {m : Radio} → State m → Type 0
Idle x = (k j : ℕ) → opened (state_at k x) ≡ false → waits_as k j x.queue ≡ None

module _ {m : Radio} (c : Cause) (k j : ℕ) (x : State m) where
  abbrev failing : Bool → Outcome m
  failing w = cond w (tell (report kind.Failed k j c) (at_queue x (without_request k j x.queue))) (silent x)

  fails_few : (w : Bool) → known (failing w).state ≤ known x
  fails_few true = let f = fewer x.bearers k j x.queue in omega arith
  fails_few false = omega arith

  pub failed_few : known (fail_waiting c k j x).state ≤ known x
  failed_few = fails_few (is_some (waits_as k j x.queue))

  fails_off : (w : Bool) → is_some (waits_as k j x.queue) ≡ w → Apart x.queue → waits_as k j (failing w).state.queue ≡ None
  fails_off true e ok = waits_without k j k j x.queue ok ∙ grind (arith, nat_tests)
  fails_off false e ok = nothing_there (waits_as k j x.queue) e

  -- it waits no more
  pub failed_off : Apart x.queue → waits_as k j (fail_waiting c k j x).state.queue ≡ None
  failed_off ok = fails_off (is_some (waits_as k j x.queue)) refl ok

  fails_else : (w : Bool) (p r : ℕ) → Apart x.queue → waits_as p r x.queue ≡ None → waits_as p r (failing w).state.queue ≡ None
  fails_else true p r ok none = none_without k j p r x.queue ok none
  fails_else false p r ok none = none

  -- nor does another that did not
  pub failed_else : (p r : ℕ) → Apart x.queue → waits_as p r x.queue ≡ None → waits_as p r (fail_waiting c k j x).state.queue ≡ None
  failed_else p r ok none = fails_else (is_some (waits_as k j x.queue)) p r ok none

  fails_idle : (w : Bool) → Apart x.queue → Idle x → Idle (failing w).state
  fails_idle true ok idle = λ k' j' e. none_without k j k' j' x.queue ok (idle k' j' e)
  fails_idle false ok idle = idle

  pub failed_idle : Apart x.queue → Idle x → Idle (fail_waiting c k j x).state
  failed_idle ok idle = fails_idle (is_some (waits_as k j x.queue)) ok idle

  fails_connections : (w : Bool) → (failing w).state.connections ≡ x.connections
  fails_connections true = refl
  fails_connections false = refl

  pub failed_connections : (fail_waiting c k j x).state.connections ≡ x.connections
  failed_connections = fails_connections (is_some (waits_as k j x.queue))

-- a set-up RAB that does not wait is taken out: one fewer
pub down_few : {m : Radio} (b : Bearer) (x : State m) → Well x.bearers → set_up_as b.place b.rab x.bearers ≡ Some b → waits_as b.place b.rab x.queue ≡ None →
    known (free_bearer b x) + 1 ≡ known x
down_few b x ok stands none =
    let p = b.place in
    let r = b.rab in
    let l = length_without p r x.bearers (ap is_some stands) in
    let n = same_new (without_bearer p r x.bearers) x.bearers p r x.queue (λ k j off. set_without p r k j x.bearers ok ∙ ap (λ t. cond t None (set_up_as k j x.bearers)) off) none in
    omega arith

-- a RAB neither set up nor waiting is set up: one more
pub establish_few : {m : Radio} (q : Request) (x : State m) → set_up_as q.place q.rab x.bearers ≡ None → waits_as q.place q.rab x.queue ≡ None →
    known (establish q x).state ≡ known x + 1
establish_few q x unset_up none =
    let b : Bearer = record { place = q.place; rab = q.rab; grant = free_grant x; size = q.size; priority = q.priority } in
    let l = length_with b x.bearers in
    let n = same_new (with_bearer b x.bearers) x.bearers q.place q.rab x.queue (λ k j off. set_with k j b x.bearers unset_up ∙ ap (λ t. cond t (Some b) (set_up_as k j x.bearers)) off) none in
    omega arith
