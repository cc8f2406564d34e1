-- The message: what a frame says once it is read, and the check that it names no RAB twice.
use Rattle.std.specs.Prelude.{ℕ, Bool, true, false, cond, ◌||◌, List, [], ◌∷◌, Some, None, Ok, Err, Option, Result, ◌==◌}
use Rattle.rules.specs.declared.item.Assignment.{Assignment}
use Rattle.rules.specs.declared.item.FrameKind.{FrameKind}
use Rattle.rules.specs.declared.item.FrameKind.TheVariants.{RabAssignmentRequest, IuReleaseCommand, RelocationCommand, RelocationPreparationFailure}
use Rattle.rules.specs.declared.item.Item.{Item}
use Rattle.rules.specs.declared.item.Item.TheVariants.{Assign, Release}
use Rattle.rules.specs.declared.item.ReadItem.{ReadItem}
use Rattle.rules.specs.declared.refusal.Reason.TheVariants.{RepeatedRab}
use Rattle.rules.specs.declared.refusal.Refusal.{Refusal}

-- each kind of message with its place, a RAB ASSIGNMENT REQUEST also with its items
pub data Message : Type 0 where
  rab_assignment_request : ℕ → List ReadItem → Message
  iu_release_command : ℕ → Message
  relocation_command : ℕ → Message
  relocation_preparation_failure : ℕ → Message

-- the kind of a message
abbrev pub kind_of : Message → FrameKind
kind_of (rab_assignment_request p is) = RabAssignmentRequest
kind_of (iu_release_command p) = IuReleaseCommand
kind_of (relocation_command p) = RelocationCommand
kind_of (relocation_preparation_failure p) = RelocationPreparationFailure

-- the place that a message names
abbrev pub place_of : Message → ℕ
place_of (rab_assignment_request p is) = p
place_of (iu_release_command p) = p
place_of (relocation_command p) = p
place_of (relocation_preparation_failure p) = p

-- the items of a message
abbrev pub items_of : Message → List ReadItem
items_of (rab_assignment_request p is) = is
items_of (iu_release_command p) = []
items_of (relocation_command p) = []
items_of (relocation_preparation_failure p) = []

-- a command or a failure, which want a preparing connection
abbrev pub wants_preparing : Message → Bool
wants_preparing (rab_assignment_request p is) = false
wants_preparing (iu_release_command p) = false
wants_preparing (relocation_command p) = true
wants_preparing (relocation_preparation_failure p) = true

-- the RAB ID of an item
abbrev pub rab_of : Item → ℕ
rab_of (Assign a) = a.rab
rab_of (Release r) = r

-- the releases of a frame, in frame order
abbrev pub releases : List ReadItem → List ℕ
releases [] = []
releases (i ∷ is) = elim i.item [ Assign a ↦ releases is | Release r ↦ r ∷ releases is ]

-- the other items of a frame, in frame order
abbrev pub assignments : List ReadItem → List Assignment
assignments [] = []
assignments (i ∷ is) = elim i.item [ Assign a ↦ a ∷ assignments is | Release r ↦ assignments is ]

-- whether a number is among others
abbrev pub among : ℕ → List ℕ → Bool
among n [] = false
among n (k ∷ ks) = n == k || among n ks

-- the offset of the first item whose RAB ID an earlier one already has
abbrev pub repeats_among : List ℕ → List ReadItem → Option ℕ
repeats_among seen [] = None
repeats_among seen (i ∷ is) = cond (among (rab_of i.item) seen) (Some i.offset) (repeats_among (rab_of i.item ∷ seen) is)

-- the place of the first repeated RAB ID, if there is one
abbrev pub repeats : List ReadItem → Option ℕ
repeats is = repeats_among [] is

-- the refusal of a repeated RAB ID, with the offset of the repeating item
abbrev pub repeated : ℕ → Refusal
repeated at' = record { reason = RepeatedRab; place = at' }

-- a refusal where a RAB ID is repeated
abbrev pub unless_repeated : Option ℕ → Result (Unit {0}) Refusal
unless_repeated None = Ok tt
unless_repeated (Some at') = Err (repeated at')

-- the check of a message's items
abbrev pub distinct : List ReadItem → Result (Unit {0}) Refusal
distinct is = unless_repeated (repeats is)

-- a message, or what the check has against it
abbrev pub passed : Result (Unit {0}) Refusal → Message → Result Message Refusal
passed (Ok u) g = Ok g
passed (Err f) g = Err f

-- the check of what the reader gave: its refusal goes on
abbrev pub checked : Result Message Refusal → Result Message Refusal
checked (Err f) = Err f
checked (Ok g) = passed (distinct (items_of g)) g
