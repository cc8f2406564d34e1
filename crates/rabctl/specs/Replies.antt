-- What each line is answered, which reports follow, and which controller stands after it.
use Rattle.std.specs.Prelude.{ℕ, Bool, true, false, ◌||◌, List, [], is_some, Some, None, Ok, Err, Option, Result}
use Rattle.rabctl.specs.Cabinets.{Standing, new_cabinet}
use Rattle.rabctl.specs.Grants.{named_set}
use Rattle.rabctl.specs.declared.answer.Answer.{Answer}
use Rattle.rabctl.specs.declared.answer.Answer.TheVariants as answer
use Rattle.rabctl.specs.declared.problem.Problem.{Problem}
use Rattle.rabctl.specs.declared.problem.Problem.TheVariants.{Unread, BeforeCabinet, SecondCabinet, NotBuilt}
use Rattle.rabctl.specs.declared.problem.Unbuilt.TheVariants.{Start, Execute, Withdraw}
use Rattle.rules.specs.Calls.{open_answer, open_outcome, frame_answer, frame_outcome, expiry_answer, expiry_outcome, question}
use Rattle.rules.specs.Frame.{received}
use Rattle.rules.specs.Radio.{Radio}
use Rattle.rules.specs.State.{State}
use Rattle.rules.specs.declared.refusal.Refusal.{Refusal}
use Rattle.rules.specs.declared.report.Report.{Report}
use Rattle.script.specs.Saying.{Saying, skips, makes, opens, hands, expires, starts, executes, withdraws, asks_rab, asks_grant, asks_room, shows}
use Rattle.script.specs.Script.{meaning, may_take_memory}
use Rattle.script.specs.declared.error.Error.TheVariants as unread
use Rattle.script.specs.declared.said.Fault.{Fault}

abbrev pub is_error : Answer → Bool
is_error answer.Silence = false
is_error answer.Ready = false
is_error answer.Opened = false
is_error (answer.Frame count) = false
is_error (answer.Expiry count) = false
is_error (answer.Refused refusal) = false
is_error (answer.Rab state) = false
is_error (answer.Held size) = false
is_error (answer.Room admitted) = false
is_error answer.Shown = false
is_error (answer.Error problem) = true

abbrev pub is_silent : Answer → Bool
is_silent answer.Silence = true
is_silent answer.Ready = false
is_silent answer.Opened = false
is_silent (answer.Frame count) = false
is_silent (answer.Expiry count) = false
is_silent (answer.Refused refusal) = false
is_silent (answer.Rab state) = false
is_silent (answer.Held size) = false
is_silent (answer.Room admitted) = false
is_silent answer.Shown = false
is_silent (answer.Error problem) = false

-- how many reports follow an answer
abbrev pub counted : Answer → ℕ
counted answer.Silence = 0
counted answer.Ready = 0
counted answer.Opened = 0
counted (answer.Frame count) = count
counted (answer.Expiry count) = count
counted (answer.Refused refusal) = 0
counted (answer.Rab state) = 0
counted (answer.Held size) = 0
counted (answer.Room admitted) = 0
counted answer.Shown = 0
counted (answer.Error problem) = 0

-- the answer that a call's result makes, or its refusal
abbrev pub answered : {A : Type 0} → (A → Answer) → Result A Refusal → Answer
answered f (Ok a) = f a
answered f (Err refusal) = answer.Refused refusal

-- an answer, or the error that a problem is
abbrev pub or_error : Result Answer Problem → Answer
or_error (Ok a) = a
or_error (Err problem) = answer.Error problem

-- the problem of a line that there is no memory for
abbrev pub no_memory : Problem
no_memory = Unread unread.NoMemory

-- until the cabinet stands, only a cabinet line is carried out
abbrev pub before_cabinet : Saying → Answer
before_cabinet skips = answer.Silence
before_cabinet (makes number pool) = answer.Ready
before_cabinet (hands bytes) = answer.Error BeforeCabinet
before_cabinet (opens place ue domain) = answer.Error BeforeCabinet
before_cabinet (expires place timer) = answer.Error BeforeCabinet
before_cabinet (starts ue) = answer.Error BeforeCabinet
before_cabinet (executes ticket) = answer.Error BeforeCabinet
before_cabinet (withdraws ticket) = answer.Error BeforeCabinet
before_cabinet (asks_rab place rab) = answer.Error BeforeCabinet
before_cabinet (asks_grant grant) = answer.Error BeforeCabinet
before_cabinet (asks_room size named) = answer.Error BeforeCabinet
before_cabinet shows = answer.Error BeforeCabinet

-- over any radio pool; a cabinet's is `pools`
module _ {m : Radio} where
  -- once the cabinet stands, its controller answers; n is the length of the report list
  abbrev pub at_cabinet : ℕ → State m → Saying → Answer
  at_cabinet n x skips = answer.Silence
  at_cabinet n x (makes number pool) = answer.Error SecondCabinet
  at_cabinet n x (hands bytes) = answered answer.Frame (frame_answer n (received bytes) x)
  at_cabinet n x (opens place ue domain) = answered (λ _. answer.Opened) (open_answer place ue domain x)
  at_cabinet n x (expires place timer) = answered answer.Expiry (expiry_answer n place timer x)
  at_cabinet n x (starts ue) = answer.Error (NotBuilt Start)
  at_cabinet n x (executes ticket) = answer.Error (NotBuilt Execute)
  at_cabinet n x (withdraws ticket) = answer.Error (NotBuilt Withdraw)
  at_cabinet n x (asks_rab place rab) = answered answer.Rab (question place rab x)
  at_cabinet n x (asks_grant grant) = answer.Held (m.holds x.pool grant)
  at_cabinet n x (asks_room size named) = answer.Room (m.admits x.pool (named_set named) size)
  at_cabinet n x shows = answer.Shown

  -- the controller after a line
  abbrev pub left_at : ℕ → State m → Saying → State m
  left_at n x skips = x
  left_at n x (makes number pool) = x
  left_at n x (hands bytes) = (frame_outcome n (received bytes) x).state
  left_at n x (opens place ue domain) = (open_outcome place ue domain x).state
  left_at n x (expires place timer) = (expiry_outcome n place timer x).state
  left_at n x (starts ue) = x
  left_at n x (executes ticket) = x
  left_at n x (withdraws ticket) = x
  left_at n x (asks_rab place rab) = x
  left_at n x (asks_grant grant) = x
  left_at n x (asks_room size named) = x
  left_at n x shows = x

  -- the reports of a line
  abbrev pub told_at : ℕ → State m → Saying → List Report
  told_at n x skips = []
  told_at n x (makes number pool) = []
  told_at n x (hands bytes) = (frame_outcome n (received bytes) x).reports
  told_at n x (opens place ue domain) = []
  told_at n x (expires place timer) = (expiry_outcome n place timer x).reports
  told_at n x (starts ue) = []
  told_at n x (executes ticket) = []
  told_at n x (withdraws ticket) = []
  told_at n x (asks_rab place rab) = []
  told_at n x (asks_grant grant) = []
  told_at n x (asks_room size named) = []
  told_at n x shows = []

-- the controller that a line makes where none stands
abbrev pub made_by : Saying → Option Standing
made_by skips = None
made_by (makes number pool) = Some (new_cabinet number pool)
made_by (hands bytes) = None
made_by (opens place ue domain) = None
made_by (expires place timer) = None
made_by (starts ue) = None
made_by (executes ticket) = None
made_by (withdraws ticket) = None
made_by (asks_rab place rab) = None
made_by (asks_grant grant) = None
made_by (asks_room size named) = None
made_by shows = None

-- the answer to a line, by what it says and the controller that stands
abbrev pub reply : ℕ → Option Standing → Saying → Answer
reply n None s = before_cabinet s
reply n (Some x) s = at_cabinet n x s

-- the controller that stands after a line
abbrev pub after : ℕ → Option Standing → Saying → Option Standing
after n None s = made_by s
after n (Some x) s = Some (left_at n x s)

-- the reports of a line
abbrev pub told : ℕ → Option Standing → Saying → List Report
told n None s = []
told n (Some x) s = told_at n x s

-- a faulty line is an error, and changes nothing
abbrev pub line_reply : ℕ → Option Standing → Result Saying Fault → Answer
line_reply n x (Ok s) = reply n x s
line_reply n x (Err f) = answer.Error (Unread (unread.Fault f))

abbrev pub after_line : ℕ → Option Standing → Result Saying Fault → Option Standing
after_line n x (Ok s) = after n x s
after_line n x (Err f) = x

abbrev pub line_told : ℕ → Option Standing → Result Saying Fault → List Report
line_told n x (Ok s) = told n x s
line_told n x (Err f) = []

-- whether what a line says makes a cabinet where none stands
abbrev pub makes_one : Option Standing → Saying → Bool
makes_one None s = is_some (made_by s)
makes_one (Some x) s = false

abbrev pub line_makes_one : Option Standing → Result Saying Fault → Bool
line_makes_one x (Ok s) = makes_one x s
line_makes_one x (Err f) = false

-- whether a line can fail for want of memory: a frame line, a room line, or the line that makes the cabinet
abbrev pub may_want_memory : Option Standing → List ℕ → Bool
may_want_memory x bs = may_take_memory bs || line_makes_one x (meaning bs)
