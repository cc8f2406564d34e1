-- A frame is accepted exactly when it is well formed, and says what its bytes say; a refused one has its first fault at the place named.
use Rattle.std.proofs.Common.{◌≡◌, ℕ, zero, suc, ◌+◌, ◌*◌, ◌<◌, ◌≤◌, Bool, true, false, cond, eqb, List, [], length, get_or, Some, None, Err, Option, Result, sym, refl, ap, ◌∙◌, subst, inl, inr, ⊎_elim, arith}
use Rattle.ranap.proofs.Chain.{frame_after, chained}
use Rattle.ranap.proofs.Bits.{flags_whole, rights_whole}
use Rattle.ranap.proofs.ItemBytes.{at_byte, at_first}
use Rattle.ranap.proofs.ItemsScan.{ItemVerdict, items_told}
use Rattle.ranap.proofs.Starts.{starts_from, starts_kind, one_kind, counts_if_good}
use Rattle.ranap.proofs.PairsScan.{PairVerdict, pairs_told}
use Rattle.ranap.specs.Formed.{Starts, Counts, Placed, Assigns, Releases, Shaped, WellFormed, Says, Spells, FirstFault, of_start, of_count, of_pair, of_item, Reads, free_from, offset_at, length_at, blank}
use Rattle.ranap.specs.Head.{head_of}
use Rattle.rules.specs.declared.refusal.Refusal.{Refusal}
use Rattle.rules.specs.Frame.{byte, kind_at, count_at, count_good, pair_at, pairs, pair_fault, item_fault, bytes_at, item_in, assignment_in, read_item, read_items, message_of, body_fault, fault_in, read_as, broken, read}
use Rattle.rules.specs.Message.{Message, items_of, kind_of, place_of}
use Rattle.rules.specs.Numbers.{frame_kind_number}
use Rattle.rules.specs.declared.item.FrameKind.{FrameKind}
use Rattle.rules.specs.declared.item.FrameKind.TheVariants.{RabAssignmentRequest, IuReleaseCommand, RelocationCommand, RelocationPreparationFailure}
use Rattle.rules.specs.declared.item.Item.TheVariants.{Release}
use Rattle.std.proofs.lemmas.List.FromFn.{get_or-map-range_with_len, length-map-range_with_len}
use Rattle.std.proofs.lemmas.List.{get_or-map, length-map}
use Rattle.std.proofs.lemmas.Bool.{both_ways, cases_eq, eq-eqb, ne_eqb}

-- items one after the other: each begins behind the pairs, and no two overlap
module _ (bs : List ℕ) (placed : (j : ℕ) → j < count_at bs → Placed bs j) where
  behind : (i : ℕ) → i < count_at bs → 4 + 4 * count_at bs ≤ offset_at bs i
  behind zero l = (placed 0 l).after
  behind (suc i) l = omega (arith, behind i (omega (arith, l)), (placed (suc i) l).after)

  apart : (i j : ℕ) → i < j → j < count_at bs → offset_at bs i + length_at bs i ≤ offset_at bs j
  apart i zero l h = absurd (omega (arith, l))
  apart i (suc j) l h =
      ⊎_elim (λ e. subst (λ k. offset_at bs k + length_at bs k ≤ offset_at bs (suc j)) (sym e) (placed (suc j) h).after)
      (λ n. omega (arith, apart i j (omega (arith, l, n)) (omega (arith, h)), (placed (suc j) h).after)) (cases_eq i j)

-- a well-formed frame has no fault
module _ (bs : List ℕ) (w : WellFormed bs) where
  at_place : (i : ℕ) → i < count_at bs → free_from bs i ≤ offset_at bs i
  at_place zero l = w.behind 0 l
  at_place (suc i) l = w.apart i (suc i) (omega arith) l

  placed_in : (i : ℕ) → i < count_at bs → Placed bs i
  placed_in i l = record { after = at_place i l; inside = w.inside i l; sized = ⊎_elim (λ s. inr s.sized) (λ s. inl s.sized) (w.shaped i l) }

  pub no_fault_in : (p : ℕ) → FirstFault bs p → ⊥
  no_fault_in p (of_start none e) = none w.kind w.starts
  no_fault_in p (of_count k s bad e) = bad (subst (λ k'. Counts k' bs) (one_kind w.kind k bs w.starts s) w.counts)
  no_fault_in p (of_pair k s c i l before bad e) = bad (placed_in i l)
  no_fault_in p (of_item k s c placed i l before bad e) = bad (w.shaped i l)

-- a refusal by the first fault
faulty : (bs : List ℕ) (p : ℕ) → FirstFault bs p → Reads bs (Err (broken p))
faulty bs p f = ((λ w. no_fault_in bs w p f), refl, f)

-- what a shaped item says is what stands at its offset
module _ (bs : List ℕ) (i : ℕ) where
  spelled_assign : Assigns bs (offset_at bs i) (length_at bs i) → Spells bs (offset_at bs i) (item_in (bytes_at bs (pair_at bs i)))
  spelled_assign s =
      let o = offset_at bs i in
      let n = length_at bs i in
      let it = bytes_at bs (pair_at bs i) in
      let six : n ≡ 6 = s.sized in
      let first : byte it 0 ≡ 1 = at_first bs o n (omega (arith, six)) ∙ s.first in
      let two = at_byte bs o n 2 (omega (arith, six)) in
      let five = at_byte bs o n 5 (omega (arith, six)) in
      let not-release : eqb (byte it 0) 2 ≡ false = ne_eqb (byte it 0) 2 (λ e. omega (arith, e, first)) in
      subst (Spells bs o) (sym (ap (λ b. cond b (Release (byte it 1)) (assignment_in it)) not-release)) (
        s.first,
        sym (at_byte bs o n 1 (omega (arith, six))),
        sym two ∙ sym (flags_whole (byte it 2) (subst (λ v. v < 32) (sym two) s.flags)),
        sym (at_byte bs o n 3 (omega (arith, six))),
        sym (at_byte bs o n 4 (omega (arith, six))),
        sym five ∙ sym (rights_whole (byte it 4) (byte it 5) (subst (λ v. v < 8) (sym five) s.rights)),
      )

  spelled_release : Releases bs (offset_at bs i) (length_at bs i) → Spells bs (offset_at bs i) (item_in (bytes_at bs (pair_at bs i)))
  spelled_release s =
      let o = offset_at bs i in
      let n = length_at bs i in
      let it = bytes_at bs (pair_at bs i) in
      let three : n ≡ 3 = s.sized in
      let release : eqb (byte it 0) 2 ≡ true = eq-eqb (byte it 0) 2 (at_first bs o n (omega (arith, three)) ∙ s.first) in
      subst (Spells bs o) (sym (ap (λ b. cond b (Release (byte it 1)) (assignment_in it)) release)) (s.first, sym (at_byte bs o n 1 (omega (arith, three))))

  spelled_item : Shaped bs i → Spells bs (offset_at bs i) (item_in (bytes_at bs (pair_at bs i)))
  spelled_item s = ⊎_elim spelled_assign spelled_release s

-- the items of a frame by their index
many_items : (bs : List ℕ) → length (read_items bs) ≡ count_at bs
many_items bs = length-map (pairs bs) (read_item bs) ∙ length-map-range_with_len (pair_at bs) 0 (count_at bs)

item_number : (bs : List ℕ) (i : ℕ) → i < count_at bs → get_or (read_items bs) i blank ≡ read_item bs (pair_at bs i)
item_number bs i l =
    let m : i < length (pairs bs) = subst (λ k. i < k) (sym (length-map-range_with_len (pair_at bs) 0 (count_at bs))) l in
    get_or-map (read_item bs) (pairs bs) i (pair_at bs 0) blank m ∙
    ap (read_item bs) (get_or-map-range_with_len (pair_at bs) 0 (count_at bs) i i (pair_at bs 0) l (omega arith))

-- a frame without items
says_none : (k : FrameKind) (bs : List ℕ) (g : Message) → kind_of g ≡ k → place_of g ≡ byte bs 1 → items_of g ≡ [] → count_at bs ≤ 0 → Starts k bs → Says bs g
says_none k bs g e p is few s = record {
  kind = ap frame_kind_number e ∙ s.kind;
  place = p;
  many = ap length is ∙ omega (arith, few);
  offsets = λ i l. absurd (omega (arith, few, l));
  spelled = λ i l. absurd (omega (arith, few, l));
}

-- what an accepted frame says
says : (k : FrameKind) (bs : List ℕ) → Starts k bs → Counts k bs → ((j : ℕ) → j < count_at bs → Shaped bs j) → Says bs (message_of k bs)
says RabAssignmentRequest bs s c shaped = record {
  kind = s.kind;
  place = refl;
  many = many_items bs;
  offsets = λ i l. ap (λ r. r.offset) (item_number bs i l);
  spelled = λ i l. subst (λ r. Spells bs (offset_at bs i) r.item) (sym (item_number bs i l)) (spelled_item bs i (shaped i l));
}
says IuReleaseCommand bs s c shaped = says_none IuReleaseCommand bs (message_of IuReleaseCommand bs) refl refl refl c.most s
says RelocationCommand bs s c shaped = says_none RelocationCommand bs (message_of RelocationCommand bs) refl refl refl c.most s
says RelocationPreparationFailure bs s c shaped = says_none RelocationPreparationFailure bs (message_of RelocationPreparationFailure bs) refl refl refl c.most s

-- the reader's checks one after the other
module _ (bs : List ℕ) (k : FrameKind) (s : Starts k bs) where
  after_items : Counts k bs → ((j : ℕ) → j < count_at bs → Placed bs j) → (o : Option ℕ) → ItemVerdict bs (count_at bs) o → Reads bs (read_as k o bs)
  after_items c placed None shaped = (
    record {
      kind = k;
      starts = s;
      counts = c;
      behind = behind bs placed;
      inside = λ i l. (placed i l).inside;
      apart = apart bs placed;
      shaped = shaped;
    },
    says k bs s c shaped,
  )
  after_items c placed (Some p) v = faulty bs p (of_item k s c placed v.0 v.1 v.2 v.3 v.4)

  after_pairs : Counts k bs → (o : Option ℕ) → PairVerdict bs (count_at bs) o → Reads bs (read_as k (elim o [ Some at' ↦ Some at' | None ↦ item_fault bs (pairs bs) ]) bs)
  after_pairs c None placed = after_items c placed (item_fault bs (pairs bs)) (items_told bs (count_at bs) placed)
  after_pairs c (Some p) v = faulty bs p (of_pair k s c v.0 v.1 v.2 v.3 v.4)

  after_count : (b : Bool) → count_good k bs ≡ b → Reads bs (read_as k (elim b [ false ↦ Some 2 | true ↦ body_fault bs ]) bs)
  after_count false e = faulty bs 2 (of_count k s (λ c. both_ways (count_good k bs) e ((counts_if_good k bs).1 c)) refl)
  after_count true e =
      after_pairs ((counts_if_good k bs).0 e) (pair_fault (length bs) 0 (4 + 4 * count_at bs) (pairs bs)) (pairs_told bs (count_at bs))

after_kind : (bs : List ℕ) (o : Option FrameKind) → kind_at bs ≡ o → Reads bs (elim o [ None ↦ Err (broken 0) | Some k ↦ read_as k (fault_in k bs) bs ])
after_kind bs None e = faulty bs 0 (of_start (λ k s. cc (starts_kind k bs s, e)) refl)
after_kind bs (Some k) e = after_count bs k (starts_from k bs e) (count_good k bs) refl

pub accepts : (bs : List ℕ) → Reads bs (read bs)
unfolding read
accepts bs = after_kind bs (kind_at bs) refl

-- what the reader's steps give is what the rules say of the frame, and so it is accepted exactly when it is well formed
pub reads : (bs : List ℕ) (r : Result Message Refusal) → r ≡ frame_after (head_of bs) bs → (r ≡ read bs) × Reads bs r
reads bs r e = (e ∙ chained bs, subst (Reads bs) (sym (e ∙ chained bs)) (accepts bs))
