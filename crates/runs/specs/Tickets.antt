-- The book's pages for tickets: which are out, with their connections and what was noted there.
use Rattle.std.specs.Prelude.{ℕ, ◌+◌, Bool, true, false, cond, not, ◌&&◌, List, [], ◌∷◌, map, Some, None, filter, Option}
use Rattle.rules.specs.Message.{among}
use Rattle.rules.specs.declared.connection.TicketId.{TicketId}
use Rattle.rules.specs.declared.report.Report.{Report}
use Rattle.rules.specs.declared.report.ReportKind.{ReportKind}
use Rattle.rules.specs.declared.report.ReportKind.TheVariants.{Done, Queued, Failed, Released, NotReleased, ReleaseRequested, Gone, RelocationRequired, RelocationCancel}
use Rattle.runs.specs.Ledger.{write}

-- what the book keeps of a ticket that is out
pub record Account : Type 0 where
  -- the places of its connections
  pub connections : List ℕ
  -- the places at which a command was noted
  pub commands : List ℕ
  -- whether a failure, a release or a running out was noted at one of them
  pub lost : Bool

-- what the book keeps of tickets
pub record Tickets : Type 0 where
  -- the tickets that are out, by their own number
  pub out : ℕ → Option Account
  -- how many were handed out
  pub handed_out : ℕ
  -- how many were given back
  pub given_back : ℕ

-- the pages are empty at first
abbrev pub no_tickets : Tickets
no_tickets = record { out = λ _. None; handed_out = 0; given_back = 0 }

-- a command at a place is noted for a ticket that has a connection there
abbrev pub with_command : ℕ → Option Account → Option Account
with_command p None = None
with_command p (Some a) = Some (cond (among p a.connections) (record { connections = a.connections; commands = p ∷ a.commands; lost = a.lost }) a)

-- a failure, a release or a running out at a place is noted for a ticket that has a connection there
abbrev pub with_loss : ℕ → Option Account → Option Account
with_loss p None = None
with_loss p (Some a) = Some (cond (among p a.connections) (record { connections = a.connections; commands = a.commands; lost = true }) a)

-- a command at a place
abbrev pub command_at : ℕ → Tickets → Tickets
command_at p b = record { out = λ i. with_command p (b.out i); handed_out = b.handed_out; given_back = b.given_back }

-- a failure, a release or a running out at a place
abbrev pub loss_at : ℕ → Tickets → Tickets
loss_at p b = record { out = λ i. with_loss p (b.out i); handed_out = b.handed_out; given_back = b.given_back }

-- kind 8
abbrev pub is_required : ReportKind → Bool
is_required Done = false
is_required Queued = false
is_required Failed = false
is_required Released = false
is_required NotReleased = false
is_required ReleaseRequested = false
is_required Gone = false
is_required RelocationRequired = true
is_required RelocationCancel = false

-- the places that get kind 8
abbrev pub required_places : List Report → List ℕ
required_places rs = map (λ r. r.place) (filter (λ r. is_required r.kind) rs)

-- a ticket goes out; its connections are the places that get kind 8
abbrev pub hand_out : TicketId → List Report → Tickets → Tickets
hand_out t rs b = record {
  out = write b.out t.number (Some (record { connections = required_places rs; commands = []; lost = false }));
  handed_out = b.handed_out + 1;
  given_back = b.given_back;
}

-- a ticket is given back
abbrev pub take_back : TicketId → Tickets → Tickets
take_back t b = record { out = write b.out t.number None; handed_out = b.handed_out; given_back = b.given_back + 1 }

-- whether all numbers of one list are among those of another
abbrev pub each_among : List ℕ → List ℕ → Bool
each_among [] ks = true
each_among (p ∷ ps) ks = among p ks && each_among ps ks

-- a command was noted for each connection, and for none a failure, a release or a running out
abbrev pub may_execute : Account → Bool
may_execute a = each_among a.connections a.commands && not a.lost
