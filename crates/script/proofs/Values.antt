-- The value of digits while they are read.
use Rattle.std.proofs.Common.{◌≡◌, ℕ, ◌+◌, ◌-◌, ◌*◌, ◌^◌, ◌<◌, ◌≤◌, List, [], ◌∷◌, ◌++◌, map, length, get_or, take, drop, Option, Some, None, MatchOption, Bor, sym, refl, ap, ◌∙◌, subst, arith}
use Rattle.script.specs.Numbers.{value, value_from}
use Rattle.std.proofs.lemmas.Iterator.{YieldsList}
use Rattle.std.proofs.lemmas.Iterator.Consumers.{YieldsList-so_far, YieldsList-turn, YieldsList-end}
use Rattle.std.proofs.lemmas.List.{drop_more, take-append-drop}
use Rattle.std.specs.ControlFlow.{continue_value}
use Rattle.std.specs.Fn.{Called}
use Rattle.std.specs.Iterator.{TryFoldTurn, TryFoldsItems, YieldsThen}
use Rattle.std.specs.List.{FoldsTo}
use Rattle.std.specs.Option.{SomeIff}
use Rattle.std.specs.declared.ops.ControlFlow.{ControlFlow}
use Rattle.std.specs.declared.ops.ControlFlow.TheVariants.{Continue, Break}
use denote.Param.Members.{Mut}

never_less : (bs : List ℕ) (n : ℕ) → n ≤ value_from n bs
never_less [] n = omega arith
never_less (b ∷ bs) n = omega (arith, never_less bs (n * 10 + (b - 48)))

value_from-append : (front bs : List ℕ) (n : ℕ) → value_from n (front ++ bs) ≡ value_from (value_from n front) bs
value_from-append [] bs n = refl
value_from-append (a ∷ front) bs n = value_from-append front bs (n * 10 + (a - 48))

-- what is read of the front, with the next digit, is at most the whole
at_most_whole : (word : List ℕ) (k d : ℕ) → k < length word → d ≡ get_or word k d → value (take k word) * 10 + (d - 48) ≤ value word
at_most_whole word k d within is =
    let next = value (take k word) * 10 + (d - 48) in
    let whole : value_from next (drop (k + 1) word) ≡ value word =
    ap (λ x. value_from (value (take k word)) (x ∷ drop (k + 1) word)) is ∙ ap (value_from (value (take k word))) (sym (drop_more word k d within)) ∙
    sym (value_from-append (take k word) (drop k word) 0) ∙ ap value (take-append-drop k word) in
    omega (arith, whole, never_less (drop (k + 1) word) next)

-- the value after one more digit, if it fits
abbrev Grows : ℕ → ℕ → Option ℕ → Type 0
Grows n d v = SomeIff v (n * 10 + (d - 48) < 2 ^ 32) (n * 10 + (d - 48))

module _ {F : Type 0} (E : Type 0) (g : Mut F (ℕ × (Bor ℕ × Unit {0})) (Option ℕ))
    (computes : (f : F) (n : ℕ) (x : Bor ℕ) (v : Option ℕ) (f' : F) → Called g f (n, (x, tt)) v f' → Grows n x.now v) where
  abbrev branches : Option ℕ → ControlFlow E ℕ → Type 0
  branches v c = v ≡ continue_value c

  turns : (xs : List (Bor ℕ)) (f : F) (n : ℕ) (q : F × ℕ) → FoldsTo (TryFoldTurn g branches) (f, n) xs q → q.1 ≡ value_from n (map (λ x. x.now) xs)
  turns [] f n q c = sym (ap (λ (p : F × ℕ). p.1) c)
  turns (x ∷ xs) f n q c =
      let fits : Grows n x.now (Some c.0.1) = subst (Grows n x.now) c.1.2 (computes f n x c.1.0 c.0.0 c.1.1) in
      turns xs c.0.0 c.0.1 q c.2 ∙ ap (λ m. value_from m (map (λ x. x.now) xs)) fits.1

  -- `try_fold` reads the whole value, or stops where it does not fit
  module _ {S : Type 0} {steps : S → Option (Bor ℕ) → S → Type 0} (s u : S) (f : F) (r : Option ℕ) (word : List ℕ) (gives : YieldsList steps (λ x. x.now) s word) where
    by_turns : (xs : List (Bor ℕ)) (o : Option (Bor ℕ)) (f' : F) (n : ℕ) → YieldsThen steps s xs o u → FoldsTo (TryFoldTurn g branches) (f, 0) xs (f', n) →
        MatchOption o (branches r (Continue n)) (λ x. (v : Option ℕ) × (h : F) × (e : E) × Called g f' (n, (x, tt)) v h × branches v (Break e) × (r ≡ None)) →
        MatchOption r (2 ^ 32 ≤ value word) (λ k. k ≡ value word)
    by_turns xs None f' n y c m =
        let all = YieldsList-end gives xs y.0 y.1 None u refl y.2 in
        subst (λ o. MatchOption o (2 ^ 32 ≤ value word) (λ k. k ≡ value word)) (sym m) (turns xs f 0 (f', n) c ∙ ap value all.0)
    by_turns xs (Some x) f' n y c m =
        let front = YieldsList-so_far gives xs y.0 y.1 in
        let next = YieldsList-turn gives xs y.0 y.1 (Some x) u x refl y.2 in
        let total : n ≡ value (take (length xs) word) = turns xs f 0 (f', n) c ∙ ap value front in
        let large : Grows n x.now None = subst (Grows n x.now) m.4 (computes f' n x m.0 m.1 m.3) in
        subst (λ o. MatchOption o (2 ^ 32 ≤ value word) (λ k. k ≡ value word)) (sym m.5)
        (omega (arith, at_most_whole word (length xs) x.now next.0 next.1, total, large))

    pub tried : TryFoldsItems steps g branches (λ _ v. v ≡ None) s f 0 r u → MatchOption r (2 ^ 32 ≤ value word) (λ k. k ≡ value word)
    tried ran = by_turns ran.0 ran.1 ran.2 ran.3 ran.4 ran.5 ran.6
