-- The table of RAB IDs that were seen, and what the check tells of every item.
use Rattle.std.proofs.Common.{◌≡◌, ℕ, zero, suc, ◌+◌, ◌<◌, Bool, true, false, cond, eqb, List, [], ◌∷◌, length, get_or, drop, set, Some, None, Decides, Option, Result, sym, refl, ap, ◌∙◌, subst, ⊎_elim, arith, below_none, below_more}
use Rattle.ranap.specs.Distinct.{rab_at, Repeats, Distinct, FirstRepeat, Checks}
use Rattle.ranap.specs.Formed.{blank}
use Rattle.rules.specs.Message.{among, repeats_among, repeats, unless_repeated, distinct}
use Rattle.rules.specs.declared.item.Item.TheVariants.{Assign}
use Rattle.rules.specs.declared.item.ReadItem.{ReadItem}
use Rattle.rules.specs.declared.refusal.Refusal.{Refusal}
use Rattle.std.proofs.lemmas.List.{at_drop_more, at_drop_all, get_or-set_same, get_or-set_other}
use Rattle.std.proofs.lemmas.Bool.Decides.{nat_tests}
use Rattle.std.proofs.lemmas.Bool.{cases_eq, eqb-true, eq-eqb, or_cases, or_left, or_right, both_ways}

-- what the kit reads past the end of a list of items
abbrev pub blank_item : ReadItem
blank_item = record {
  offset = 0;
  item = Assign record {
    rab = 0;
    flags = record { parameters = false; priority = false; synchronisation = false; transport = false; plane = false };
    size = 0;
    priority = record { level = 0; triggers = false; preemptable = false; queuing = false };
  };
}

-- one RAB ID more in the table
pub table_more : (seen : List Bool) (s : List ℕ) (r q : ℕ) → r ≡ q → length seen ≡ 256 → r < 256 → ((k : ℕ) → k < 256 → get_or seen k false ≡ among k s) →
    (k : ℕ) → k < 256 → get_or (set seen r true) k false ≡ among k (q ∷ s)
table_more seen s r q e wide small all k l =
    let same = all k l in
    let here = get_or-set_same seen r true false (omega (arith, wide, small)) in
    let other = get_or-set_other seen r k true false in
    ⊎_elim (λ h. grind (arith, nat_tests)) (λ h. grind (arith, nat_tests)) (cases_eq k q)

-- what the search for a repeat tells
abbrev RepeatVerdict : List ReadItem → Option ℕ → Type 0
RepeatVerdict is None = Distinct is
RepeatVerdict is (Some p) = FirstRepeat is p

-- a list has just the RAB IDs of the first i items
abbrev Has : List ReadItem → List ℕ → ℕ → Type 0
Has is s i = (k : ℕ) → Decides (among k s) ((j : ℕ) × (j < i) × (rab_at is j ≡ k))

has_none : (is : List ReadItem) → Has is [] 0
has_none is k = (λ e. cc, λ h. absurd (omega (arith, h.1)))

has_more : (is : List ReadItem) (s : List ℕ) (i : ℕ) → Has is s i → Has is (rab_at is i ∷ s) (i + 1)
has_more is s i has k = (
  λ e. ⊎_elim (λ h. (i, omega arith, sym (eqb-true k (rab_at is i) h))) (λ h. let o = (has k).0 h in (o.0, omega (arith, o.1), o.2))
      (or_cases (eqb k (rab_at is i)) (among k s) e),
  λ h. ⊎_elim (λ d. or_left (eqb k (rab_at is i)) (among k s) (eq-eqb k (rab_at is i) (sym h.2 ∙ ap (rab_at is) d)))
      (λ n. or_right (eqb k (rab_at is i)) (among k s) ((has k).1 (h.0, omega (arith, h.1, n), h.2))) (cases_eq h.0 i),
)

module _ (is : List ReadItem) where
  step : (s : List ℕ) (i : ℕ) → i < length is → Has is s i → ((j : ℕ) → j < i → Repeats is j → ⊥) →
      (Has is (rab_at is i ∷ s) (i + 1) → ((j : ℕ) → j < i + 1 → Repeats is j → ⊥) → RepeatVerdict is (repeats_among (rab_at is i ∷ s) (drop (i + 1) is))) →
      (b : Bool) → among (rab_at is i) s ≡ b →
      RepeatVerdict is (cond b (Some (get_or is i blank).offset) (repeats_among (rab_at is i ∷ s) (drop (i + 1) is)))
  step s i l has before next true e = record { item = i; within = l; repeats = (has (rab_at is i)).0 e; before = before; place = refl }
  step s i l has before next false e =
      next (has_more is s i has) (below_more (λ j. Repeats is j → ⊥) i before (λ h. both_ways (among (rab_at is i) s) e ((has (rab_at is i)).1 h)))

  scan : (m i : ℕ) (s : List ℕ) → i + m ≡ length is → Has is s i → ((j : ℕ) → j < i → Repeats is j → ⊥) → RepeatVerdict is (repeats_among s (drop i is))
  scan zero i s e has before =
      subst (RepeatVerdict is) (sym (at_drop_all (repeats_among s) is i (omega (arith, e)))) (λ j l. before j (omega (arith, e, l)))
  scan (suc m) i s e has before =
      subst (RepeatVerdict is) (sym (at_drop_more (repeats_among s) is i blank (omega (arith, e))))
      (step s i (omega (arith, e)) has before (scan m (i + 1) (rab_at is i ∷ s) (omega (arith, e))) (among (rab_at is i) s) refl)

  told : RepeatVerdict is (repeats is)
  told = scan (length is) 0 [] (omega arith) (has_none is) (below_none (λ j. Repeats is j → ⊥))

  verdict : (o : Option ℕ) → RepeatVerdict is o → Checks is (unless_repeated o)
  verdict None d = d
  verdict (Some p) f = (refl, f)

  -- the check accepts exactly what is distinct, and refuses at the first repeat
  pub checks : (r : Result (Unit {0}) Refusal) → r ≡ distinct is → Checks is r
  checks r e = subst (Checks is) (sym e) (verdict (repeats is) told)
