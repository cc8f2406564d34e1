-- The first by level, then arrival, as a search level by level finds it.
use Rattle.std.proofs.Common.{◌≡◌, ◌≢◌, ℕ, ◌+◌, ◌-◌, ◌<◌, ◌≤◌, Bool, true, false, cond, ◌&&◌, eqb, leb, List, [], ◌∷◌, filter, find, Some, None, Option, option_map, IfSome, IsSomeAnd, MatchOption, sym, refl, ap, ◌∙◌, subst, ⊎_elim, arith}
use Rattle.bearers.specs.Order.{level_good, requests_good}
use Rattle.controller.specs.Due.{due}
use Rattle.rules.specs.Queue.{ahead, first_by_level}
use Rattle.rules.specs.declared.bearer.Request.{Request}
use Rattle.std.proofs.iter.Yields.{nat_range_steps}
use Rattle.std.proofs.iter.runs.Sources.{range_runs}
use Rattle.std.proofs.lemmas.Bool.{and_parts, leb-true, ne_eqb, eq-eqb, cases_eq, cases_lt}
use Rattle.std.proofs.lemmas.Bool.Decides.{nat_tests}
use Rattle.std.proofs.lemmas.Option.{same_Some}
use Rattle.std.specs.Fn.{Called}
use Rattle.std.specs.Iterator.Runs.{Run, SomeRun, CallKeepsClosure, AllItemsGive, IsFirstToGive}
use Rattle.std.specs.declared.ops.Range.{Range}
use denote.Param.Members.{Mut}

module _ (p : Request → Bool) where
  -- what is found at each level, where w is the first by level of those that pass
  abbrev Least : List Request → Option Request → Type 0
  Least qs None = (l : ℕ) → find (due l p) qs ≡ None
  Least qs (Some w) = (1 ≤ w.priority.level) × (w.priority.level < 16) × (find (due w.priority.level p) qs ≡ Some w) × ((l : ℕ) → l < w.priority.level → find (due l p) qs ≡ None)

  at_level : (l : ℕ) (q : Request) (qs : List Request) (t : Bool) → due l p q ≡ t → find (due l p) (q ∷ qs) ≡ cond t (Some q) (find (due l p) qs)
  at_level l q qs t e = ap (λ b. cond b (Some q) (find (due l p) qs)) e

  -- one that fails is found at no level
  passed_over : (l : ℕ) (q : Request) (qs : List Request) → p q ≡ false → find (due l p) (q ∷ qs) ≡ find (due l p) qs
  passed_over l q qs e = at_level l q qs false (ap (λ b. eqb q.priority.level l && b) e ∙ never (eqb q.priority.level l))
    where
      never : (b : Bool) → (b && false) ≡ false
      never true = refl
      never false = refl

  -- one of another level isn't found either
  elsewhere : (l : ℕ) (q : Request) (qs : List Request) → q.priority.level ≢ l → find (due l p) (q ∷ qs) ≡ find (due l p) qs
  elsewhere l q qs ne = at_level l q qs false (ap (λ b. b && p q) (ne_eqb q.priority.level l ne))

  -- one that passes is the first of its level
  found_here : (q : Request) (qs : List Request) → p q ≡ true → find (due q.priority.level p) (q ∷ qs) ≡ Some q
  found_here q qs e = at_level q.priority.level q qs true (ap (λ b. b && p q) (eq-eqb q.priority.level q.priority.level refl) ∙ e)

  -- one more at the front that fails
  least_passed : (q : Request) (qs : List Request) (o : Option Request) → p q ≡ false → Least qs o → Least (q ∷ qs) o
  least_passed q qs None e ih = λ l. passed_over l q qs e ∙ ih l
  least_passed q qs (Some w) e ih = (ih.0, ih.1, passed_over w.priority.level q qs e ∙ ih.2, λ l h. passed_over l q qs e ∙ ih.3 l h)

  -- one more at the front that passes
  least_ahead : (q : Request) (qs : List Request) (o : Option Request) → p q ≡ true → 1 ≤ q.priority.level → q.priority.level < 16 → Least qs o → Least (q ∷ qs) (ahead q o)
  least_ahead q qs None e low high ih = (low, high, found_here q qs e, λ l h. elsewhere l q qs (λ same. omega (arith, h, same)) ∙ ih l)
  least_ahead q qs (Some w) e low high ih = by (leb q.priority.level w.priority.level) refl
    where
      by : (t : Bool) → leb q.priority.level w.priority.level ≡ t → Least (q ∷ qs) (cond t (Some q) (Some w))
      by true f =
          let before = leb-true q.priority.level w.priority.level f in
          (low, high, found_here q qs e, λ l h. elsewhere l q qs (λ same. omega (arith, h, same)) ∙ ih.3 l (omega (arith, h, before)))
      by false f =
          let after : w.priority.level < q.priority.level = grind (arith, nat_tests) in
          (ih.0, ih.1, elsewhere w.priority.level q qs (λ same. omega (arith, after, same)) ∙ ih.2, λ l h. elsewhere l q qs (λ same. omega (arith, h, after, same)) ∙ ih.3 l h)

  least_with : (q : Request) (qs : List Request) (t : Bool) → p q ≡ t → level_good q.priority ≡ true → Least qs (first_by_level (filter p qs)) → Least (q ∷ qs) (first_by_level (cond t (q ∷ filter p qs) (filter p qs)))
  least_with q qs false e good ih = least_passed q qs (first_by_level (filter p qs)) e ih
  least_with q qs true e good ih =
      let parts = and_parts (leb 1 q.priority.level) (leb q.priority.level 15) good in
      least_ahead q qs (first_by_level (filter p qs)) e (leb-true 1 q.priority.level parts.0) (omega (arith, leb-true q.priority.level 15 parts.1)) ih

  least : (qs : List Request) → requests_good qs ≡ true → Least qs (first_by_level (filter p qs))
  least [] g = λ l. refl
  least (q ∷ qs) g =
      let parts = and_parts (level_good q.priority) (requests_good qs) g in
      least_with q qs (p q) refl parts.0 (least qs parts.1)

  -- what a search of the levels 1 to 15 finds
  abbrev Levels : List Request → Option Request → Type 0
  Levels qs r = MatchOption r ((k : ℕ) → 1 ≤ k → k < 16 → find (due k p) qs ≡ None) (λ q. (l : ℕ) × (find (due l p) qs ≡ Some q) × ((k : ℕ) → 1 ≤ k → k < l → find (due k p) qs ≡ None))

  agree : (qs : List Request) (r o : Option Request) → Levels qs r → Least qs o → r ≡ o
  agree qs None None h b = refl
  agree qs None (Some w) h b = let none = h w.priority.level b.0 b.1 in let some = b.2 in cc
  agree qs (Some q) None h b = let none = b h.0 in let some = h.1 in cc
  agree qs (Some q) (Some w) h b = ⊎_elim
      (λ same. sym h.1 ∙ ap (λ l. find (due l p) qs) same ∙ b.2)
      (λ other. ⊎_elim
      (λ below. let none = b.3 h.0 below in let some = h.1 in cc)
      (λ above. let none = h.2 w.priority.level b.0 (omega (arith, other, above)) in let some = b.2 in cc)
      (cases_lt h.0 w.priority.level))
      (cases_eq h.0 w.priority.level)

  pub first_of_levels : (qs : List Request) (r : Option Request) → requests_good qs ≡ true → Levels qs r → r ≡ first_by_level (filter p qs)
  first_of_levels qs r g h = agree qs r (first_by_level (filter p qs)) h (least qs g)

-- what `find_map` over a range finds, where the closure computes h
module _ {B F : Type 0} (g : Mut F (ℕ × Unit {0}) (Option B)) (f : F) (h : ℕ → Option B) (computes : (x : ℕ) (r : Option B) (q : F) → Called g f (x, tt) r q → (q ≡ f) × (r ≡ h x)) where
  keeps : CallKeepsClosure g f
  keeps x r q c = (computes x.0 r q c).0

  -- each place of a run has the number that stands so far from the start
  number_at : (p : Run nat_range_steps) (k : ℕ) → p.from.start ≤ k → k < p.from.start + p.len → option_map (λ y. y) (p.at (k - p.from.start)) ≡ Some k
  number_at p k a b = let e : p.from.start + (k - p.from.start) ≡ k = omega (arith, a) in (range_runs p p.seen).3 (k - p.from.start) (omega (arith, a, b)) ∙ ap Some e

  gave_none : (o : Option ℕ) (k : ℕ) → option_map (λ y. y) o ≡ Some k → IfSome o (λ x. Called g f (x, tt) None f) → h k ≡ None
  gave_none None k e c = cc
  gave_none (Some x) k e c = let same : x ≡ k = same_Some x k e in ap h (sym same) ∙ sym (computes x None f c).1

  gave_some : (o : Option ℕ) (k : ℕ) (y : B) → option_map (λ y. y) o ≡ Some k → IsSomeAnd o (λ x. Called g f (x, tt) (Some y) f) → h k ≡ Some y
  gave_some None k y e c = absurd c
  gave_some (Some x) k y e c = let same : x ≡ k = same_Some x k e in ap h (sym same) ∙ sym (computes x (Some y) f c).1

  if_there : (o : Option ℕ) → IsSomeAnd o (λ x. Called g f (x, tt) None f) → IfSome o (λ x. Called g f (x, tt) None f)
  if_there None c = absurd c
  if_there (Some x) c = c

  pub first_mapped : (a b : ℕ) (r : Option B) → SomeRun nat_range_steps (record { start = a; end = b }) (λ p. MatchOption r ((p.whole ≡ true) × AllItemsGive p g f None) (λ y. (i : ℕ) × (i < p.len) × (p.len ≡ i + 1) × IsFirstToGive p g f (Some y) None i)) →
      MatchOption r ((k : ℕ) → a ≤ k → k < b → h k ≡ None) (λ q. (l : ℕ) × (h l ≡ Some q) × ((k : ℕ) → a ≤ k → k < l → h k ≡ None))
  first_mapped a b None (p, e, ends) = λ k l m.
      let from : p.from.start ≡ a = ap (λ (s : Range ℕ). s.start) e in
      let to : p.from.end ≡ b = ap (λ (s : Range ℕ). s.end) e in
      let long : p.len ≡ p.from.end - p.from.start = (range_runs p p.seen).1 ends.0 in
      gave_none _ k (number_at p k (omega (arith, from, l)) (omega (arith, from, to, long, l, m))) (ends.1 keeps (k - p.from.start))
  first_mapped a b (Some y) (p, e, ends) =
      let from : p.from.start ≡ a = ap (λ (s : Range ℕ). s.start) e in
      let i = ends.0 in
      let within : i < p.len = ends.1 in
      let here : p.from.start + i - p.from.start ≡ i = omega arith in
      let found = ends.3 keeps in (
        p.from.start + i,
        gave_some _ (p.from.start + i) y (number_at p (p.from.start + i) (omega arith) (omega (arith, within))) (subst (λ n. IsSomeAnd (p.at n) (λ x. Called g f (x, tt) (Some y) f)) (sym here) found.0),
        λ k l m. gave_none _ k (number_at p k (omega (arith, from, l)) (omega (arith, within, m))) (if_there _ (found.1 (k - p.from.start) (omega (arith, from, l, m)))),
      )
