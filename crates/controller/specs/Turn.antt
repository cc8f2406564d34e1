-- When a request may be set up, and when it may wait: what the tables ask for.
use Rattle.std.specs.Prelude.{◌≡◌, ◌<◌, true, ◌||◌, None, nat_lt}
use Rattle.bearers.specs.Order.{level_good}
use Rattle.rules.specs.Checks.{known}
use Rattle.rules.specs.Radio.{Radio}
use Rattle.rules.specs.State.{State}
use Rattle.rules.specs.Tables.{is_some, set_up_as, waits_as}
use Rattle.rules.specs.declared.bearer.Request.{Request}

-- its level is in range, its RAB is neither set up nor waiting, and fewer than 64 RABs are known
pub record Ready {m : Radio} (q : Request) (x : State m) : Type 0 where
  pub level : level_good q.priority ≡ true
  pub unset : set_up_as q.place q.rab x.bearers ≡ None
  pub idle : waits_as q.place q.rab x.queue ≡ None
  pub room : known x < 64

-- its level is in range, no request of its RAB waits, and its RAB is set up or fewer than 64 are known
pub record Waitable {m : Radio} (q : Request) (x : State m) : Type 0 where
  pub level : level_good q.priority ≡ true
  pub idle : waits_as q.place q.rab x.queue ≡ None
  pub room : (is_some (set_up_as q.place q.rab x.bearers) || nat_lt (known x) 64) ≡ true
