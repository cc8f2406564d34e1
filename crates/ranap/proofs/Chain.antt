-- The reader's steps together give what the rules say of a frame.
use Rattle.std.proofs.Common.{◌≡◌, ℕ, ◌+◌, ◌*◌, Bool, true, false, cond, List, length, Some, None, Ok, Err, Option, Result, refl}
use Rattle.ranap.specs.Head.{head_as, head_of}
use Rattle.ranap.specs.Steps.{unless_fault, items_unless, items_read, after_pairs, body_read}
use Rattle.ranap.specs.declared.head.Head.{Head}
use Rattle.rules.specs.Frame.{message_with, byte, kind_at, count_at, count_good, pairs, pair_fault, item_fault, read_items, body_fault, fault_in, broken, read_as, read}
use Rattle.rules.specs.Message.{Message}
use Rattle.rules.specs.declared.item.FrameKind.{FrameKind}
use Rattle.rules.specs.declared.item.ReadItem.{ReadItem}
use Rattle.rules.specs.declared.refusal.Refusal.{Refusal}

-- the message of a head, once the items are read
abbrev pub message_after : Head → Result (List ReadItem) Refusal → Result Message Refusal
message_after h (Ok is) = Ok (message_with h.kind h.place is)
message_after h (Err f) = Err f

-- what the whole reader gives, once the head is read
abbrev pub frame_after : Result Head Refusal → List ℕ → Result Message Refusal
frame_after (Ok h) bs = message_after h (body_read bs h.count)
frame_after (Err f) bs = Err f

module _ (bs : List ℕ) where
  at_items : (k : FrameKind) (o : Option ℕ) →
      ◌≡◌ {A = Result Message Refusal} (message_after (record { kind = k; place = byte bs 1; count = count_at bs }) (items_unless o (read_items bs))) (read_as k o bs)
  at_items k None = refl
  at_items k (Some p) = refl

  at_pairs : (k : FrameKind) (o : Option ℕ) →
      message_after (record { kind = k; place = byte bs 1; count = count_at bs }) (after_pairs (unless_fault o) (items_read bs (pairs bs))) ≡
      read_as k (elim o [ Some at' ↦ Some at' | None ↦ item_fault bs (pairs bs) ]) bs
  at_pairs k None = at_items k (item_fault bs (pairs bs))
  at_pairs k (Some p) = refl

  at_count : (k : FrameKind) (b : Bool) →
      frame_after (cond b (Ok (record { kind = k; place = byte bs 1; count = count_at bs })) (Err (broken 2))) bs ≡
      read_as k (elim b [ false ↦ Some 2 | true ↦ body_fault bs ]) bs
  at_count k false = refl
  at_count k true = at_pairs k (pair_fault (length bs) 0 (4 + 4 * count_at bs) (pairs bs))

  at_kind : (o : Option FrameKind) → frame_after (head_as o bs) bs ≡ elim o [ None ↦ Err (broken 0) | Some k ↦ read_as k (fault_in k bs) bs ]
  at_kind None = refl
  at_kind (Some k) = at_count k (count_good k bs)

  pub chained : frame_after (head_of bs) bs ≡ read bs
  unfolding read
  chained = at_kind (kind_at bs)
