-- The numbers of report kinds, causes, refusal reasons, layers, domains, timers and frame kinds.
use Rattle.std.specs.Prelude.{ℕ, cond, Some, None, Option, ◌==◌}
use Rattle.rules.specs.declared.report.ReportKind.{ReportKind}
use Rattle.rules.specs.declared.report.ReportKind.TheVariants as kind
use Rattle.rules.specs.declared.report.Cause.{Cause}
use Rattle.rules.specs.declared.report.Cause.TheVariants as cause
use Rattle.rules.specs.declared.report.Report.{Report}
use Rattle.rules.specs.declared.refusal.Reason.{Reason}
use Rattle.rules.specs.declared.refusal.Reason.TheVariants as reason
use Rattle.rules.specs.declared.refusal.Layer.{Layer}
use Rattle.rules.specs.declared.refusal.Layer.TheVariants as layer
use Rattle.rules.specs.declared.connection.Domain.{Domain}
use Rattle.rules.specs.declared.connection.Domain.TheVariants as domain
use Rattle.rules.specs.declared.connection.Timer.{Timer}
use Rattle.rules.specs.declared.connection.Timer.TheVariants as timer
use Rattle.rules.specs.declared.item.FrameKind.{FrameKind}
use Rattle.rules.specs.declared.item.FrameKind.TheVariants as frame

-- what was done, or what is asked of the core network
abbrev pub kind_number : ReportKind → ℕ
kind_number kind.Done = 1
kind_number kind.Queued = 2
kind_number kind.Failed = 3
kind_number kind.Released = 4
kind_number kind.NotReleased = 5
kind_number kind.ReleaseRequested = 6
kind_number kind.Gone = 7
kind_number kind.RelocationRequired = 8
kind_number kind.RelocationCancel = 9

-- why
abbrev pub cause_number : Cause → ℕ
cause_number cause.NoCause = 0
cause_number cause.RabPreempted = 1
cause_number cause.TqueuingExpiry = 2
cause_number cause.RelocationTriggered = 3
cause_number cause.TrelocprepExpiry = 4
cause_number cause.RelocationCancelled = 5
cause_number cause.MaximumBitRateNotAvailable = 6
cause_number cause.InvalidValue = 7
cause_number cause.InvalidCombination = 8
cause_number cause.RequestSuperseded = 9
cause_number cause.InvalidRabId = 10
cause_number cause.IuReleased = 11
cause_number cause.TableFull = 12

-- why a call is refused
abbrev pub reason_number : Reason → ℕ
reason_number reason.ShortList = 1
reason_number reason.BrokenFrame = 2
reason_number reason.RepeatedRab = 3
reason_number reason.BadPlace = 4
reason_number reason.PlaceTaken = 5
reason_number reason.DomainTaken = 6
reason_number reason.BadCode = 7
reason_number reason.UeRelocating = 8
reason_number reason.NotRunning = 9
reason_number reason.UeAbsent = 10
reason_number reason.TicketOut = 11
reason_number reason.TicketsGone = 12
reason_number reason.ForeignTicket = 13
reason_number reason.NotPrepared = 14

-- frame reader, message check, controller
abbrev pub layer_number : Layer → ℕ
layer_number layer.Frame = 1
layer_number layer.Message = 2
layer_number layer.Controller = 3

-- who refuses for a reason: the reader a broken frame, the message check a repeated RAB, the controller all else
abbrev pub layer_of : Reason → Layer
layer_of reason.ShortList = layer.Controller
layer_of reason.BrokenFrame = layer.Frame
layer_of reason.RepeatedRab = layer.Message
layer_of reason.BadPlace = layer.Controller
layer_of reason.PlaceTaken = layer.Controller
layer_of reason.DomainTaken = layer.Controller
layer_of reason.BadCode = layer.Controller
layer_of reason.UeRelocating = layer.Controller
layer_of reason.NotRunning = layer.Controller
layer_of reason.UeAbsent = layer.Controller
layer_of reason.TicketOut = layer.Controller
layer_of reason.TicketsGone = layer.Controller
layer_of reason.ForeignTicket = layer.Controller
layer_of reason.NotPrepared = layer.Controller

-- the domains by code
abbrev pub domain_number : Domain → ℕ
domain_number domain.Cs = 0
domain_number domain.Ps = 1

-- the domain of a code, if there is one
abbrev pub domain_of : ℕ → Option Domain
domain_of n = cond (n == 0) (Some domain.Cs) (cond (n == 1) (Some domain.Ps) None)

-- the timers by code
abbrev pub timer_number : Timer → ℕ
timer_number timer.Tqueuing = 1
timer_number timer.Trelocprep = 2

-- the timer of a code, if there is one
abbrev pub timer_of : ℕ → Option Timer
timer_of n = cond (n == 1) (Some timer.Tqueuing) (cond (n == 2) (Some timer.Trelocprep) None)

-- the frame kinds by the frame's first byte
abbrev pub frame_kind_number : FrameKind → ℕ
frame_kind_number frame.RabAssignmentRequest = 1
frame_kind_number frame.IuReleaseCommand = 2
frame_kind_number frame.RelocationCommand = 3
frame_kind_number frame.RelocationPreparationFailure = 4

-- the frame kind of a first byte, if there is one
abbrev pub frame_kind_of : ℕ → Option FrameKind
frame_kind_of n =
    cond (n == 1) (Some frame.RabAssignmentRequest)
    (cond (n == 2) (Some frame.IuReleaseCommand)
    (cond (n == 3) (Some frame.RelocationCommand)
    (cond (n == 4) (Some frame.RelocationPreparationFailure) None)))

-- how many items a frame of a kind has at least
abbrev pub fewest_items : FrameKind → ℕ
fewest_items frame.RabAssignmentRequest = 1
fewest_items frame.IuReleaseCommand = 0
fewest_items frame.RelocationCommand = 0
fewest_items frame.RelocationPreparationFailure = 0

-- how many items a frame of a kind has at most
abbrev pub most_items : FrameKind → ℕ
most_items frame.RabAssignmentRequest = 32
most_items frame.IuReleaseCommand = 0
most_items frame.RelocationCommand = 0
most_items frame.RelocationPreparationFailure = 0

-- a report as five numbers: (kind, place, RAB ID, cause, size)
abbrev pub bytes_of : Report → ℕ × ℕ × ℕ × ℕ × ℕ
bytes_of r = (kind_number r.kind, r.place, r.rab, cause_number r.cause, r.size)
