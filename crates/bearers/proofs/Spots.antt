-- What a search finds in the table of set-up RABs, and what the table is without the RAB or with it.
use Rattle.std.proofs.Common.{◌≡◌, ℕ, zero, suc, ◌+◌, ◌<◌, Bool, true, false, cond, List, [], ◌∷◌, length, get_or, Some, None, Result, Ok, Err, IfOk, IfErr, sym, refl, ap, ◌∙◌, ⊎_elim, add-one, arith}
use Rattle.bearers.proofs.Standing.{Once}
use Rattle.bearers.specs.Order.{ascending}
use Rattle.bearers.specs.Spot.{compared, IsAt, IsGapFor}
use Rattle.rules.specs.Tables.{of_rab, set_up_as, before, with_bearer, without_bearer}
use Rattle.rules.specs.declared.bearer.Bearer.{Bearer}
use Rattle.std.proofs.lemmas.Bool.{cases_lt, and_parts}
use Rattle.std.proofs.lemmas.Bool.Decides.{nat_tests}
use Rattle.std.proofs.lemmas.Cmp.{nat_cmp_total, on_total, then_total}
use Rattle.std.proofs.lemmas.List.Sorted.{searchable_from_sorted}
use Rattle.std.specs.Cmp.{IsTotalOrder}
use Rattle.std.specs.List.{insert, remove}
use Rattle.std.specs.List.Sorted.{IsSearchInRange, IsBinarySearchResult, IsNonDecreasingBy}
use Rattle.std.specs.declared.cmp.Ordering.{Ordering}
use Rattle.std.specs.Ordering.{is_lt, nat_cmp, ordering_index, ordering_then}
use Rattle.std.specs.declared.cmp.Ordering.TheVariants.{Less, Equal, Greater}

-- RABs in order, by place and then by RAB ID
abbrev order : ℕ × ℕ → ℕ × ℕ → Ordering
order x y = ordering_then (nat_cmp x.0 y.0) (nat_cmp x.1 y.1)

order_total : IsTotalOrder order
order_total = then_total (on_total (λ t. t.0) nat_cmp_total) (on_total (λ t. t.1) nat_cmp_total)

abbrev key : Bearer → ℕ × ℕ
key b = (b.place, b.rab)

-- what a comparison says
same_rab : (p r : ℕ) (b : Bearer) → compared p r b ≡ Equal → of_rab p r b ≡ true
same_rab p r b e = grind (arith, nat_tests)

lower_rab : (p r : ℕ) (b : Bearer) → compared p r b ≡ Less → of_rab p r b ≡ false
lower_rab p r b e = grind (arith, nat_tests)

higher_rab : (p r : ℕ) (b : Bearer) → compared p r b ≡ Greater → of_rab p r b ≡ false
higher_rab p r b e = grind (arith, nat_tests)

not_before : (b a : Bearer) → compared b.place b.rab a ≡ Less → before b a ≡ false
not_before b a e = grind (arith, nat_tests)

is_before : (b a : Bearer) → compared b.place b.rab a ≡ Greater → before b a ≡ true
is_before b a e = grind (arith, nat_tests)

in_order : (a b : Bearer) → before a b ≡ true → is_lt (order (key b) (key a)) ≡ false
in_order a b e = grind (arith, nat_tests)

-- each stands before the next
next_before : (bs : List Bearer) (k : ℕ) (d : Bearer) → ascending bs ≡ true → suc k < length bs → before (get_or bs k d) (get_or bs (suc k) d) ≡ true
next_before [] k d s l = absurd (omega (arith, l))
next_before (b ∷ []) k d s l = absurd (omega (arith, l))
next_before (b ∷ c ∷ cs) zero d s l = (and_parts (before b c) (ascending (c ∷ cs)) s).0
next_before (b ∷ c ∷ cs) (suc k) d s l = next_before (c ∷ cs) k d (and_parts (before b c) (ascending (c ∷ cs)) s).1 (omega (arith, l))

module _ (bs : List Bearer) (s : ascending bs ≡ true) (p r : ℕ) where
  -- the comparisons with a RAB rise along the table
  rising : IsNonDecreasingBy (λ b. ordering_index (compared p r b)) bs
  rising = searchable_from_sorted order_total key bs (p, r) (λ k d l h. in_order (get_or bs k d) (get_or bs (k + 1) d) (rw add-one (next_before bs k d s (omega (arith, h)))))

  -- a binary search ends at the RAB, or where it belongs
  pub searched : (o : Result ℕ ℕ) → IsSearchInRange o (length bs) → IsBinarySearchResult (compared p r) bs o → record { found : IfOk o (IsAt p r bs); absent : IfErr o (IsGapFor p r bs) }
  searched (Ok i) within same = record { found = record { within = within; there = λ d. same_rab p r (get_or bs i d) (same d) }; absent = tt }
  searched (Err i) within parted = record { found = tt; absent = record { within = within; lower = (parted rising).0; higher = (parted rising).1 } }

tail_at : (p r : ℕ) (b : Bearer) (bs : List Bearer) (i : ℕ) → IsAt p r (b ∷ bs) (suc i) → IsAt p r bs i
tail_at p r b bs i at' = record { within = omega (arith, at'.within); there = at'.there }

-- a RAB that stands further on is not the first
not_first : (p r : ℕ) (b : Bearer) (bs : List Bearer) (x : Bearer) (t : Bool) → of_rab p r b ≡ t → set_up_as b.place b.rab bs ≡ None → set_up_as p r bs ≡ Some x → of_rab p r b ≡ false
not_first p r b bs x true e none some =
    let ep : b.place ≡ p = grind (arith, nat_tests) in
    let er : b.rab ≡ r = grind (arith, nat_tests) in
    let none' : set_up_as p r bs ≡ None = ap (λ z. set_up_as z r bs) (sym ep) ∙ ap (λ z. set_up_as b.place z bs) (sym er) ∙ none in
    cc
not_first p r b bs x false e none some = e

-- where the RAB stands, it is found
pub set_up_at : (p r : ℕ) (bs : List Bearer) (i : ℕ) (d : Bearer) → Once bs → IsAt p r bs i → set_up_as p r bs ≡ Some (get_or bs i d)
set_up_at p r [] i d once at' = absurd (omega (arith, at'.within))
set_up_at p r (b ∷ bs) zero d once at' = ap (λ t. cond t (Some b) (set_up_as p r bs)) (at'.there d)
set_up_at p r (b ∷ bs) (suc i) d once at' =
    let some = set_up_at p r bs i d once.1 (tail_at p r b bs i at') in
    ap (λ t. cond t (Some b) (set_up_as p r bs)) (not_first p r b bs (get_or bs i d) (of_rab p r b) refl once.0 some) ∙ some

-- and the table without it has a hole there
pub removed_at : (p r : ℕ) (bs : List Bearer) (i : ℕ) → Once bs → IsAt p r bs i → remove bs i ≡ without_bearer p r bs
removed_at p r [] i once at' = absurd (omega (arith, at'.within))
removed_at p r (b ∷ bs) zero once at' = ap (λ t. cond t bs (b ∷ without_bearer p r bs)) (sym (at'.there b))
removed_at p r (b ∷ bs) (suc i) once at' =
    let at-tail = tail_at p r b bs i at' in
    let some = set_up_at p r bs i b once.1 at-tail in
    ap (λ bs'. b ∷ bs') (removed_at p r bs i once.1 at-tail) ∙ ap (λ t. cond t bs (b ∷ without_bearer p r bs)) (sym (not_first p r b bs (get_or bs i b) (of_rab p r b) refl once.0 some))

-- a RAB that is not set up is in the table nowhere
pub unset_none : (p r : ℕ) (bs : List Bearer) → ((k : ℕ) (d : Bearer) → k < length bs → of_rab p r (get_or bs k d) ≡ false) → (set_up_as p r bs ≡ None) × (without_bearer p r bs ≡ bs)
unset_none p r [] off = (refl, refl)
unset_none p r (b ∷ bs) off =
    let rest = unset_none p r bs (λ k d l. off (suc k) d (omega (arith, l))) in
    let here : of_rab p r b ≡ false = off 0 b (omega arith) in (
      ap (λ t. cond t (Some b) (set_up_as p r bs)) here ∙ rest.0,
      ap (λ t. cond t bs (b ∷ without_bearer p r bs)) here ∙ ap (λ bs'. b ∷ bs') rest.1,
    )

-- where the RAB belongs, it does not stand yet
pub unset_in_gap : (p r : ℕ) (bs : List Bearer) (i : ℕ) → IsGapFor p r bs i → (set_up_as p r bs ≡ None) × (without_bearer p r bs ≡ bs)
unset_in_gap p r bs i gap =
    unset_none p r bs (λ k d l. ⊎_elim (λ below. lower_rab p r (get_or bs k d) (gap.lower k d (omega arith) below)) (λ above. higher_rab p r (get_or bs k d) (gap.higher k d above l)) (cases_lt k i))

tail_gap : (p r : ℕ) (b : Bearer) (bs : List Bearer) (i : ℕ) → IsGapFor p r (b ∷ bs) (suc i) → IsGapFor p r bs i
tail_gap p r b bs i gap = record {
  within = omega (arith, gap.within);
  lower = λ k d l h. gap.lower (suc k) d (omega arith) (omega (arith, h));
  higher = λ k d l h. gap.higher (suc k) d (omega (arith, l)) (omega (arith, h));
}

-- a RAB put where it belongs makes the table with that RAB
pub lands : (b : Bearer) (bs : List Bearer) (i : ℕ) → IsGapFor b.place b.rab bs i → insert bs i b ≡ with_bearer b bs
lands b [] zero gap = refl
lands b [] (suc i) gap = absurd (omega (arith, gap.within))
lands b (a ∷ as') zero gap = ap (λ t. cond t (b ∷ a ∷ as') (a ∷ with_bearer b as')) (sym (is_before b a (gap.higher 0 a (omega arith) (omega arith))))
lands b (a ∷ as') (suc i) gap =
    ap (λ bs. a ∷ bs) (lands b as' i (tail_gap b.place b.rab a as' i gap)) ∙
    ap (λ t. cond t (b ∷ a ∷ as') (a ∷ with_bearer b as')) (sym (not_before b a (gap.lower 0 a (omega arith) (omega arith))))
