-- The frame: what it says, or the refusal with the place of its first fault.
use Rattle.std.specs.Prelude.{ℕ, ◌+◌, ◌*◌, Bool, true, false, cond, not, ◌&&◌, ◌||◌, List, [], ◌∷◌, map, length, take, drop, Some, None, Ok, Err, Option, Result, ◌==◌, bit_and, nat_le, nat_lt, slice_index}
use Rattle.std.specs.List.{range_with_len}
use Rattle.rules.specs.Message.{Message, rab_assignment_request, iu_release_command, relocation_command, relocation_preparation_failure, checked}
use Rattle.rules.specs.Numbers.{frame_kind_of, fewest_items, most_items}
use Rattle.rules.specs.declared.item.Flags.{Flags}
use Rattle.rules.specs.declared.item.FrameKind.{FrameKind}
use Rattle.rules.specs.declared.item.FrameKind.TheVariants.{RabAssignmentRequest, IuReleaseCommand, RelocationCommand, RelocationPreparationFailure}
use Rattle.rules.specs.declared.item.Priority.{Priority}
use Rattle.rules.specs.declared.item.Item.{Item}
use Rattle.rules.specs.declared.item.Item.TheVariants.{Assign, Release}
use Rattle.rules.specs.declared.item.Pair.{Pair}
use Rattle.rules.specs.declared.item.ReadItem.{ReadItem}
use Rattle.rules.specs.declared.refusal.Reason.TheVariants.{BrokenFrame}
use Rattle.rules.specs.declared.refusal.Refusal.{Refusal}

-- the byte at an offset, 0 past the end
abbrev pub byte : List ℕ → ℕ → ℕ
byte bs i = slice_index bs i

-- two bytes, the high one first
abbrev pub word : List ℕ → ℕ → ℕ
word bs i = byte bs i * 256 + byte bs (i + 1)

-- the frame's kind: none if the frame has under 4 or over 1,024 bytes, or if its first byte is no kind
abbrev pub kind_at : List ℕ → Option FrameKind
kind_at bs = cond (nat_le 4 (length bs) && nat_le (length bs) 1024) (frame_kind_of (byte bs 0)) None

-- how many items the frame says that it has
abbrev pub count_at : List ℕ → ℕ
count_at bs = word bs 2

-- the count is one that the kind allows, and the pairs do not go past the end
abbrev pub count_good : FrameKind → List ℕ → Bool
count_good k bs = nat_le (fewest_items k) (count_at bs) && nat_le (count_at bs) (most_items k) && nat_le (4 + 4 * count_at bs) (length bs)

-- pair i stands at 4 + 4·i
abbrev pub pair_at : List ℕ → ℕ → Pair
pair_at bs i = record { offset = word bs (4 + 4 * i); length = word bs (6 + 4 * i) }

-- the first n pairs, in their order
abbrev pub pairs_of : List ℕ → ℕ → List Pair
pairs_of bs n = map (pair_at bs) (range_with_len 0 n)

-- the frame's pairs
abbrev pub pairs : List ℕ → List Pair
pairs bs = pairs_of bs (count_at bs)

-- where a pair's item ends
abbrev pub end_of : Pair → ℕ
end_of p = p.offset + p.length

-- a pair's item begins after what stands before it, ends in the frame, and has 3 or 6 bytes
abbrev pub pair_good : ℕ → ℕ → Pair → Bool
pair_good end from p = nat_le from p.offset && nat_le (end_of p) end && (p.length == 3 || p.length == 6)

-- the first pair, counted from i, that is not good, by the pair's own offset
abbrev pub pair_fault : ℕ → ℕ → ℕ → List Pair → Option ℕ
pair_fault end i from [] = None
pair_fault end i from (p ∷ ps) = cond (pair_good end from p) (pair_fault end (i + 1) (end_of p) ps) (Some (4 + 4 * i))

-- the bytes of a pair's item
abbrev pub bytes_at : List ℕ → Pair → List ℕ
bytes_at bs p = take p.length (drop p.offset bs)

-- a set-up or modify item: 6 bytes, the first 1, spare bits of flags and rights 0
abbrev pub assign_good : List ℕ → Bool
assign_good it = length it == 6 && byte it 0 == 1 && nat_lt (byte it 2) 32 && nat_lt (byte it 5) 8

-- a release item: 3 bytes, the first 2
abbrev pub release_good : List ℕ → Bool
release_good it = length it == 3 && byte it 0 == 2

-- one of the two
abbrev pub item_good : List ℕ → Bool
item_good it = assign_good it || release_good it

-- the first item that is not good, by its offset
abbrev pub item_fault : List ℕ → List Pair → Option ℕ
item_fault bs [] = None
item_fault bs (p ∷ ps) = cond (item_good (bytes_at bs p)) (item_fault bs ps) (Some p.offset)

-- whether a byte has a bit
abbrev pub has : ℕ → ℕ → Bool
has n bit = not (bit_and n bit == 0)

-- which parts an item has, by the bits of its flags
abbrev pub flags_at : ℕ → Flags
flags_at n = record { parameters = has n 1; priority = has n 2; synchronisation = has n 4; transport = has n 8; plane = has n 16 }

-- level and rights as an item has them
abbrev pub priority_at : ℕ → ℕ → Priority
priority_at l n = record { level = l; triggers = has n 1; preemptable = has n 2; queuing = has n 4 }

-- what a set-up or modify item says: RAB ID, flags, size, level, rights
abbrev pub assignment_in : List ℕ → Item
assignment_in it = Assign (record {
  rab = byte it 1;
  flags = flags_at (byte it 2);
  size = byte it 3;
  priority = priority_at (byte it 4) (byte it 5);
})

-- what a good item says; of a release the RAB ID, its cause byte is ignored
abbrev pub item_in : List ℕ → Item
item_in it = cond (byte it 0 == 2) (Release (byte it 1)) (assignment_in it)

-- an item with its offset
abbrev pub read_item : List ℕ → Pair → ReadItem
read_item bs p = record { offset = p.offset; item = item_in (bytes_at bs p) }

-- the items of a frame, in its order
abbrev pub read_items : List ℕ → List ReadItem
read_items bs = map (read_item bs) (pairs bs)

-- a message of a kind, with its place and its items
abbrev pub message_with : FrameKind → ℕ → List ReadItem → Message
message_with RabAssignmentRequest p is = rab_assignment_request p is
message_with IuReleaseCommand p is = iu_release_command p
message_with RelocationCommand p is = relocation_command p
message_with RelocationPreparationFailure p is = relocation_preparation_failure p

-- what a frame of a kind says; its place is byte 1
abbrev pub message_of : FrameKind → List ℕ → Message
message_of k bs = message_with k (byte bs 1) (read_items bs)

-- all pairs are checked before any item
abbrev pub body_fault : List ℕ → Option ℕ
body_fault bs = elim (pair_fault (length bs) 0 (4 + 4 * count_at bs) (pairs bs)) [ Some at' ↦ Some at' | None ↦ item_fault bs (pairs bs) ]

-- the place of the first fault in a frame of a kind: 2 for the count, then the pairs, then the items
abbrev pub fault_in : FrameKind → List ℕ → Option ℕ
fault_in k bs = elim (count_good k bs) [ false ↦ Some 2 | true ↦ body_fault bs ]

-- the refusal of a broken frame, with the place of its first fault
abbrev pub broken : ℕ → Refusal
broken at' = record { reason = BrokenFrame; place = at' }

-- what a frame of a kind says, or its fault
abbrev pub read_as : FrameKind → Option ℕ → List ℕ → Result Message Refusal
read_as k (Some at') bs = Err (broken at')
read_as k None bs = Ok (message_of k bs)

-- what a frame says, or its first fault, which is at place 0 if it has no kind
unfoldable pub read : List ℕ → Result Message Refusal
read bs = elim (kind_at bs) [ None ↦ Err (broken 0) | Some k ↦ read_as k (fault_in k bs) bs ]

-- a frame read and its message checked
abbrev pub received : List ℕ → Result Message Refusal
received bs = checked (read bs)
