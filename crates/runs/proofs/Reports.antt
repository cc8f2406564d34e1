-- No call of a run makes more than 288 reports: every state of a run has tables of at most their sizes.
use Rattle.std.proofs.Common.{ℕ, ◌≤◌, length, arith}
use Rattle.rules.specs.Radio.{Radio}
use Rattle.rules.specs.State.{State}
use Rattle.rules.specs.Calls.{new_state}
use Rattle.bearers.proofs.Known.{waiting_known}
use Rattle.bounds.specs.Weights.{Small}
use Rattle.bounds.proofs.Calls.{open_within, frame_within, expiry_within, start_within, execute_within, withdraw_within}
use Rattle.runs.specs.Runs.{Call, to_open, to_frame, to_expiry, to_start, to_execute, to_withdraw, step, log, end}
use Rattle.runs.specs.Book.{Book, blank, book}
use Rattle.runs.specs.Law.{Laws, ReportsBounded}
use Rattle.runs.proofs.New.{new_right}
use Rattle.runs.proofs.Every.{run_right}
use Rattle.runs.proofs.Right.{Right}

-- no call makes more than 288 reports
pub call_few : {m : Radio} (x : State m) → Small x → (c : Call) → length (step c x).reports ≤ 288
call_few x h (to_open p u d) = open_within x p u d
call_few x h (to_frame n bs) = frame_within x h n bs
call_few x h (to_expiry n p t) = expiry_within x h n p t
call_few x h (to_start n u) = start_within x h n u
call_few x h (to_execute t) = execute_within x t
call_few x h (to_withdraw n t) = withdraw_within x h n t

-- every state of a run is such
pub right_small : {m : Radio} (k : ℕ) (b : Book) (x : State m) → Right k b x → Small x
right_small k b x r =
    let f = r.rabs.stands.few in
    let w = waiting_known x.bearers x.queue r.rabs.stands.agrees.apart in
    let c = r.wide in
    record { bearers = omega arith; queue = omega arith; connections = omega arith }

-- so no call of a run makes more
pub every_few : {m : Radio} → Laws m → ReportsBounded m
every_few {m} laws k y ok cs c =
    let x = new_state m k y in
    call_few (end cs x) (right_small k (book (log cs x) blank) (end cs x) (run_right laws k cs blank x (new_right laws k y ok))) c
