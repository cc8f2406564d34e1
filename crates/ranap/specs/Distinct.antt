-- All RAB IDs of a message differ, or which item is the first to repeat one.
use Rattle.std.specs.Prelude.{◌≡◌, ℕ, ◌<◌, ◌⊎◌, List, length, Ok, Err, Result, slice_index_or}
use Rattle.rules.specs.Message.{Message, items_of, rab_of}
use Rattle.rules.specs.declared.item.ReadItem.{ReadItem}
use Rattle.rules.specs.declared.refusal.Reason.TheVariants.{RepeatedRab}
use Rattle.rules.specs.declared.refusal.Refusal.{Refusal}
use Rattle.ranap.specs.Formed.{Reads, WellFormed, Says, blank}

-- the RAB ID of item i
abbrev pub rab_at : List ReadItem → ℕ → ℕ
rab_at is i = rab_of (slice_index_or is i blank).item

-- an item before item j has the RAB ID of item j
abbrev pub Repeats : List ReadItem → ℕ → Type 0
Repeats is j = (i : ℕ) × (i < j) × (rab_at is i ≡ rab_at is j)

-- no item has the RAB ID of an earlier one
abbrev pub Distinct : List ReadItem → Type 0
Distinct is = (j : ℕ) → j < length is → Repeats is j → ⊥

-- item j is the first that repeats a RAB ID
pub record FirstRepeat (is : List ReadItem) (p : ℕ) : Type 0 where
  pub item : ℕ
  pub within : item < length is
  pub repeats : Repeats is item
  pub before : (j : ℕ) → j < item → Repeats is j → ⊥
  pub place : p ≡ (slice_index_or is item blank).offset

-- a message is accepted exactly when all its RAB IDs differ, else refused at the first item that repeats one
abbrev pub Checks : List ReadItem → Result (Unit {0}) Refusal → Type 0
Checks is (Ok u) = Distinct is
Checks is (Err f) = (f.reason ≡ RepeatedRab) × FirstRepeat is f.place

-- a well-formed frame whose message repeats a RAB ID
pub record Repeating (bs : List ℕ) (f : Refusal) : Type 0 where
  pub formed : WellFormed bs
  pub message : Message
  pub says : Says bs message
  pub reason : f.reason ≡ RepeatedRab
  pub first : FirstRepeat (items_of message) f.place

-- a frame is received exactly when it is well formed and its RAB IDs differ; a fault of the frame comes before a repeated RAB
abbrev pub Receives : List ℕ → Result Message Refusal → Type 0
Receives bs (Ok g) = WellFormed bs × Says bs g × Distinct (items_of g)
Receives bs (Err f) = Reads bs (Err f) ⊎ Repeating bs f
