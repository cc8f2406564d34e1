-- What a well-formed frame is, told on its bytes; what an accepted frame says; and which fault of a refused one is the first.
use Rattle.std.specs.Prelude.{◌≡◌, ℕ, zero, suc, ◌+◌, ◌*◌, ◌<◌, ◌≤◌, Bool, cond, ◌⊎◌, List, length, Ok, Err, Result, slice_index_or}
use Rattle.rules.specs.Frame.{byte, word, count_at}
use Rattle.rules.specs.Message.{Message, kind_of, place_of, items_of}
use Rattle.rules.specs.Numbers.{frame_kind_number, fewest_items, most_items}
use Rattle.rules.specs.declared.item.Flags.{Flags}
use Rattle.rules.specs.declared.item.FrameKind.{FrameKind}
use Rattle.rules.specs.declared.item.Item.{Item}
use Rattle.rules.specs.declared.item.Item.TheVariants.{Assign, Release}
use Rattle.rules.specs.declared.item.Priority.{Priority}
use Rattle.rules.specs.declared.item.ReadItem.{ReadItem}
use Rattle.rules.specs.declared.refusal.Reason.TheVariants.{BrokenFrame}
use Rattle.rules.specs.declared.refusal.Refusal.{Refusal}

-- 4 to 1,024 bytes, the first of which is the number of a kind
pub record Starts (k : FrameKind) (bs : List ℕ) : Type 0 where
  pub long : 4 ≤ length bs
  pub short : length bs ≤ 1024
  pub kind : frame_kind_number k ≡ byte bs 0

-- as many items as the kind allows, and all their pairs in the frame
pub record Counts (k : FrameKind) (bs : List ℕ) : Type 0 where
  pub least : fewest_items k ≤ count_at bs
  pub most : count_at bs ≤ most_items k
  pub fits : 4 + 4 * count_at bs ≤ length bs

-- the offset and the length of item i
abbrev pub offset_at : List ℕ → ℕ → ℕ
offset_at bs i = word bs (4 + 4 * i)

abbrev pub length_at : List ℕ → ℕ → ℕ
length_at bs i = word bs (6 + 4 * i)

-- where that ends which stands before item i: the pairs, or the item before it
abbrev pub free_from : List ℕ → ℕ → ℕ
free_from bs zero = 4 + 4 * count_at bs
free_from bs (suc i) = offset_at bs i + length_at bs i

-- item i begins after that, ends in the frame, and has 3 or 6 bytes
pub record Placed (bs : List ℕ) (i : ℕ) : Type 0 where
  pub after : free_from bs i ≤ offset_at bs i
  pub inside : offset_at bs i + length_at bs i ≤ length bs
  pub sized : (length_at bs i ≡ 3) ⊎ (length_at bs i ≡ 6)

-- a set-up or modify item of n bytes at an offset: 6 bytes, the first 1, flags of five bits, rights of three
pub record Assigns (bs : List ℕ) (o n : ℕ) : Type 0 where
  pub sized : n ≡ 6
  pub first : byte bs o ≡ 1
  pub flags : byte bs (o + 2) < 32
  pub rights : byte bs (o + 5) < 8

-- a release item: 3 bytes, the first 2
pub record Releases (bs : List ℕ) (o n : ℕ) : Type 0 where
  pub sized : n ≡ 3
  pub first : byte bs o ≡ 2

-- item i is one of the two
abbrev pub Shaped : List ℕ → ℕ → Type 0
Shaped bs i = Assigns bs (offset_at bs i) (length_at bs i) ⊎ Releases bs (offset_at bs i) (length_at bs i)

-- a well-formed frame
pub record WellFormed (bs : List ℕ) : Type 0 where
  pub kind : FrameKind
  pub starts : Starts kind bs
  pub counts : Counts kind bs
  -- every item begins after the pairs and ends in the frame
  pub behind : (i : ℕ) → i < count_at bs → 4 + 4 * count_at bs ≤ offset_at bs i
  pub inside : (i : ℕ) → i < count_at bs → offset_at bs i + length_at bs i ≤ length bs
  -- the items stand in their order, and no two overlap
  pub apart : (i j : ℕ) → i < j → j < count_at bs → offset_at bs i + length_at bs i ≤ offset_at bs j
  -- every item is a set-up or modify item, or a release item
  pub shaped : (i : ℕ) → i < count_at bs → Shaped bs i

-- the weight of a bit that is set
abbrev pub bit : Bool → ℕ → ℕ
bit b w = cond b w 0

-- the byte that has a bit for each part of an item
abbrev pub flags_byte : Flags → ℕ
flags_byte f = bit f.parameters 1 + bit f.priority 2 + bit f.synchronisation 4 + bit f.transport 8 + bit f.plane 16

-- the byte that has a bit for each right
abbrev pub rights_byte : Priority → ℕ
rights_byte p = bit p.triggers 1 + bit p.preemptable 2 + bit p.queuing 4

-- what stands at an offset is an item with just these parts
abbrev pub Spells : List ℕ → ℕ → Item → Type 0
Spells bs o (Assign a) =
    (byte bs o ≡ 1) × (byte bs (o + 1) ≡ a.rab) × (byte bs (o + 2) ≡ flags_byte a.flags) × (byte bs (o + 3) ≡ a.size) ×
    (byte bs (o + 4) ≡ a.priority.level) × (byte bs (o + 5) ≡ rights_byte a.priority)
Spells bs o (Release r) = (byte bs o ≡ 2) × (byte bs (o + 1) ≡ r)

-- a place holder past the end of a list of items
abbrev pub blank : ReadItem
blank = record { offset = 0; item = Release 0 }

-- what a message says is what the frame's bytes are: kind, place, and item by item what stands at the item's offset
pub record Says (bs : List ℕ) (g : Message) : Type 0 where
  pub kind : frame_kind_number (kind_of g) ≡ byte bs 0
  pub place : place_of g ≡ byte bs 1
  pub many : length (items_of g) ≡ count_at bs
  pub offsets : (i : ℕ) → i < count_at bs → (slice_index_or (items_of g) i blank).offset ≡ offset_at bs i
  pub spelled : (i : ℕ) → i < count_at bs → Spells bs (offset_at bs i) (slice_index_or (items_of g) i blank).item

-- the place of the first fault: whatever is checked before it is in order
pub data FirstFault (bs : List ℕ) (p : ℕ) : Type 0 where
  -- length or kind
  of_start : ((k : FrameKind) → Starts k bs → ⊥) → p ≡ 0 → FirstFault bs p
  -- the count, or pairs past the end
  of_count : (k : FrameKind) → Starts k bs → (Counts k bs → ⊥) → p ≡ 2 → FirstFault bs p
  -- pair i, by the pair's own offset
  of_pair : (k : FrameKind) → Starts k bs → Counts k bs → (i : ℕ) → i < count_at bs → ((j : ℕ) → j < i → Placed bs j) → (Placed bs i → ⊥) →
      p ≡ 4 + 4 * i → FirstFault bs p
  -- item i, by the item's offset; all pairs come before any item
  of_item : (k : FrameKind) → Starts k bs → Counts k bs → ((j : ℕ) → j < count_at bs → Placed bs j) →
      (i : ℕ) → i < count_at bs → ((j : ℕ) → j < i → Shaped bs j) → (Shaped bs i → ⊥) → p ≡ offset_at bs i → FirstFault bs p

-- a frame is accepted exactly when it is well formed: then it says what its bytes say, else it is refused by its first fault
abbrev pub Reads : List ℕ → Result Message Refusal → Type 0
Reads bs (Ok g) = WellFormed bs × Says bs g
Reads bs (Err f) = (WellFormed bs → ⊥) × (f.reason ≡ BrokenFrame) × FirstFault bs f.place
