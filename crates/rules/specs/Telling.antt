-- The words for a person: of states, domains, causes, reasons and report kinds, of a priority, a refusal and a report.
use Rattle.std.specs.Fmt.{decimal}
use Rattle.std.specs.Prelude.{ℕ, Bool, true, false, cond, List, [], ◌++◌, codes, nat_lt}
use Rattle.rules.specs.Numbers.{kind_number, cause_number, reason_number, layer_number, layer_of}
use Rattle.rules.specs.declared.bearer.RabState.{RabState}
use Rattle.rules.specs.declared.bearer.RabState.TheVariants as rab
use Rattle.rules.specs.declared.code.UnknownCode.{UnknownCode}
use Rattle.rules.specs.declared.connection.ConnectionState.{ConnectionState}
use Rattle.rules.specs.declared.connection.ConnectionState.TheVariants as state
use Rattle.rules.specs.declared.connection.Domain.{Domain}
use Rattle.rules.specs.declared.connection.Domain.TheVariants as domain
use Rattle.rules.specs.declared.item.Priority.{Priority}
use Rattle.rules.specs.declared.refusal.Reason.{Reason}
use Rattle.rules.specs.declared.refusal.Reason.TheVariants as reason
use Rattle.rules.specs.declared.refusal.Refusal.{Refusal}
use Rattle.rules.specs.declared.report.Cause.{Cause}
use Rattle.rules.specs.declared.report.Cause.TheVariants as cause
use Rattle.rules.specs.declared.report.Report.{Report}
use Rattle.rules.specs.declared.report.ReportKind.{ReportKind}
use Rattle.rules.specs.declared.report.ReportKind.TheVariants as kind

abbrev pub code_text : UnknownCode → List ℕ
code_text c = codes "unknown code " ++ decimal c.0

abbrev pub state_text : ConnectionState → List ℕ
state_text state.Closed = codes "closed"
state_text state.Open = codes "open"
state_text state.Preparing = codes "preparing"
state_text state.Prepared = codes "prepared"
state_text state.Executed = codes "executed"

abbrev pub domain_text : Domain → List ℕ
domain_text domain.Cs = codes "CS"
domain_text domain.Ps = codes "PS"

-- what the question for a RAB is answered, with the size in use
abbrev pub rab_text : RabState → List ℕ
rab_text rab.Unknown = codes "unknown"
rab_text rab.Waiting = codes "waiting"
rab_text (rab.SetUp s) = codes "set up " ++ decimal s
rab_text (rab.SetUpWaiting s) = codes "set up " ++ decimal s ++ codes " and waiting"

-- a right is told only if it is given
abbrev pub told_if : Bool → List ℕ → List ℕ
told_if given text = cond given text []

abbrev pub priority_text : Priority → List ℕ
priority_text p =
    codes "level " ++ decimal p.level
    ++ told_if p.triggers (codes ", may pre-empt")
    ++ told_if p.preemptable (codes ", pre-emptable")
    ++ told_if p.queuing (codes ", may queue")

abbrev pub reason_text : Reason → List ℕ
reason_text reason.ShortList = codes "report list too short"
reason_text reason.BrokenFrame = codes "broken frame"
reason_text reason.RepeatedRab = codes "repeated RAB"
reason_text reason.BadPlace = codes "bad place"
reason_text reason.PlaceTaken = codes "place taken"
reason_text reason.DomainTaken = codes "domain taken"
reason_text reason.BadCode = codes "bad code"
reason_text reason.UeRelocating = codes "UE relocating"
reason_text reason.NotRunning = codes "not running"
reason_text reason.UeAbsent = codes "UE absent"
reason_text reason.TicketOut = codes "ticket out"
reason_text reason.TicketsGone = codes "tickets gone"
reason_text reason.ForeignTicket = codes "foreign ticket"
reason_text reason.NotPrepared = codes "not prepared"

-- its number, layer and place, and why
abbrev pub refusal_text : Refusal → List ℕ
refusal_text r =
    decimal (reason_number r.reason)
    ++ codes " layer " ++ decimal (layer_number (layer_of r.reason))
    ++ codes " place " ++ decimal r.place
    ++ codes " " ++ reason_text r.reason

abbrev pub kind_text : ReportKind → List ℕ
kind_text kind.Done = codes "done"
kind_text kind.Queued = codes "queued"
kind_text kind.Failed = codes "failed"
kind_text kind.Released = codes "released"
kind_text kind.NotReleased = codes "not released"
kind_text kind.ReleaseRequested = codes "release requested"
kind_text kind.Gone = codes "gone"
kind_text kind.RelocationRequired = codes "relocation required"
kind_text kind.RelocationCancel = codes "relocation cancel"

abbrev pub cause_text : Cause → List ℕ
cause_text cause.NoCause = codes "no cause"
cause_text cause.RabPreempted = codes "RAB pre-empted"
cause_text cause.TqueuingExpiry = codes "TQUEUING expiry"
cause_text cause.RelocationTriggered = codes "relocation triggered"
cause_text cause.TrelocprepExpiry = codes "TRELOCprep expiry"
cause_text cause.RelocationCancelled = codes "relocation cancelled"
cause_text cause.MaximumBitRateNotAvailable = codes "requested maximum bit rate not available"
cause_text cause.InvalidValue = codes "invalid RAB parameters value"
cause_text cause.InvalidCombination = codes "invalid RAB parameters combination"
cause_text cause.RequestSuperseded = codes "request superseded"
cause_text cause.InvalidRabId = codes "invalid RAB ID"
cause_text cause.IuReleased = codes "Iu released"
cause_text cause.TableFull = codes "table full"

-- a report about a connection, and not about one of its RABs
abbrev pub of_connection : ReportKind → Bool
of_connection kind.Done = false
of_connection kind.Queued = false
of_connection kind.Failed = false
of_connection kind.Released = false
of_connection kind.NotReleased = false
of_connection kind.ReleaseRequested = false
of_connection kind.Gone = false
of_connection kind.RelocationRequired = true
of_connection kind.RelocationCancel = true

-- a report that gives a size
abbrev pub gives_size : ReportKind → Bool
gives_size kind.Done = true
gives_size kind.Queued = false
gives_size kind.Failed = false
gives_size kind.Released = false
gives_size kind.NotReleased = false
gives_size kind.ReleaseRequested = false
gives_size kind.Gone = false
gives_size kind.RelocationRequired = false
gives_size kind.RelocationCancel = false

-- the first three of a report's numbers: kind, place, RAB ID
unfoldable pub whose_text : Report → List ℕ
whose_text r = codes "(" ++ decimal (kind_number r.kind) ++ codes "," ++ decimal r.place ++ codes "," ++ decimal r.rab

-- a report as five numbers: (kind, place, RAB ID, cause, size)
unfoldable pub numbers_text : Report → List ℕ
numbers_text r = whose_text r ++ codes "," ++ decimal (cause_number r.cause) ++ codes "," ++ decimal r.size ++ codes ") "

-- whom it concerns
abbrev pub subject_text : Report → List ℕ
subject_text r =
    cond (of_connection r.kind)
    (codes "place " ++ decimal r.place)
    (codes "RAB " ++ decimal r.rab ++ codes " at place " ++ decimal r.place)

-- why, if a report says so
abbrev pub why_text : Cause → List ℕ
why_text c = told_if (nat_lt 0 (cause_number c)) (codes ", " ++ cause_text c)

-- what it adds to its kind
abbrev pub detail_text : Report → List ℕ
detail_text r = cond (gives_size r.kind) (codes ", size " ++ decimal r.size) (why_text r.cause)

-- its numbers, and words for a person
abbrev pub report_text : Report → List ℕ
report_text r = numbers_text r ++ subject_text r ++ codes ": " ++ kind_text r.kind ++ detail_text r
