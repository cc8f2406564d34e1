-- A received frame has at most 32 items.
use Rattle.std.proofs.Common.{◌≡◌, ℕ, ◌+◌, ◌*◌, ◌≤◌, Bool, true, false, ◌&&◌, leb, List, length, Some, None, Ok, Err, Option, Result, refl, ap, ◌∙◌, subst, arith}
use lib.ListN.{length-map}
use Rattle.std.proofs.lemmas.Bool.{and_parts, leb-true}
use Rattle.std.proofs.lemmas.List.FromFn.{length-map-range_with_len}
use Rattle.rules.specs.Message.{Message, items_of, distinct, passed, checked}
use Rattle.rules.specs.Numbers.{fewest_items, most_items}
use Rattle.rules.specs.Frame.{kind_at, count_at, count_good, pair_at, pairs, read_item, read_items, message_of, body_fault, fault_in, broken, read_as, read, received}
use Rattle.rules.specs.declared.item.FrameKind.{FrameKind}
use Rattle.rules.specs.declared.item.FrameKind.TheVariants.{RabAssignmentRequest, IuReleaseCommand, RelocationCommand, RelocationPreparationFailure}
use Rattle.rules.specs.declared.refusal.Refusal.{Refusal}

-- a frame without a fault has a good count
count_there : (c : Bool) (o : Option ℕ) → ◌≡◌ {A = Option ℕ} (elim c [ false ↦ Some 2 | true ↦ o ]) None → c ≡ true
count_there false o e = let z : ◌≡◌ {A = ℕ} 0 1 = cc in absurd (omega arith)
count_there true o e = refl

kind_few : (k : FrameKind) (bs : List ℕ) → count_at bs ≤ most_items k → length (items_of (message_of k bs)) ≤ 32
kind_few RabAssignmentRequest bs l =
    let n : length (read_items bs) ≡ length (pairs bs) = length-map (pairs bs) (read_item bs) in
    let k : length (pairs bs) ≡ count_at bs = length-map-range_with_len (pair_at bs) 0 (count_at bs) in
    let l' : count_at bs ≤ 32 = l in
    let h : length (read_items bs) ≤ 32 = omega (arith, n, k, l') in
    h
kind_few IuReleaseCommand bs l = omega arith
kind_few RelocationCommand bs l = omega arith
kind_few RelocationPreparationFailure bs l = omega arith

good_count : (k : FrameKind) (bs : List ℕ) → count_good k bs ≡ true → count_at bs ≤ most_items k
good_count k bs e =
    let a = and_parts (leb (fewest_items k) (count_at bs) && leb (count_at bs) (most_items k)) (leb (4 + 4 * count_at bs) (length bs)) e in
    leb-true (count_at bs) (most_items k) (and_parts (leb (fewest_items k) (count_at bs)) (leb (count_at bs) (most_items k)) a.0).1

as_few : (k : FrameKind) (bs : List ℕ) (g : Message) (o : Option ℕ) → fault_in k bs ≡ o → read_as k o bs ≡ Ok g → length (items_of g) ≤ 32
as_few k bs g None f e =
    let same : message_of k bs ≡ g = cc in
    subst (λ z. length (items_of z) ≤ 32) same (kind_few k bs (good_count k bs (count_there (count_good k bs) (body_fault bs) f)))
as_few k bs g (Some at') f e = let z : ◌≡◌ {A = ℕ} 0 1 = cc in absurd (omega arith)

kinds_few : (bs : List ℕ) (g : Message) (o : Option FrameKind) → ◌≡◌ {A = Result Message Refusal} (elim o [ None ↦ Err (broken 0) | Some k ↦ read_as k (fault_in k bs) bs ]) (Ok g) → length (items_of g) ≤ 32
kinds_few bs g None e = let z : ◌≡◌ {A = ℕ} 0 1 = cc in absurd (omega arith)
kinds_few bs g (Some k) e = as_few k bs g (fault_in k bs) refl e

-- a frame that is read
pub read_few : (bs : List ℕ) (g : Message) → read bs ≡ Ok g → length (items_of g) ≤ 32
unfolding read
read_few bs g e = kinds_few bs g (kind_at bs) e

passed_same : (c : Result (Unit {0}) Refusal) (g h : Message) → passed c g ≡ Ok h → g ≡ h
passed_same (Ok u) g h e = cc
passed_same (Err f) g h e = let z : ◌≡◌ {A = ℕ} 0 1 = cc in absurd (omega arith)

checked_few : (bs : List ℕ) (g : Message) (rd : Result Message Refusal) → read bs ≡ rd → checked rd ≡ Ok g → length (items_of g) ≤ 32
checked_few bs g (Err f) r e = let z : ◌≡◌ {A = ℕ} 0 1 = cc in absurd (omega arith)
checked_few bs g (Ok h) r e = read_few bs g (r ∙ ap (λ z. Ok z) (passed_same (distinct (items_of h)) h g e))

-- and checked
pub received_few : (bs : List ℕ) (g : Message) → received bs ≡ Ok g → length (items_of g) ≤ 32
received_few bs g e = checked_few bs g (read bs) refl e
