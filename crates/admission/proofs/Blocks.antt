-- The first block of a list all of whose places pass, as `chunks_exact` and `position` find it.
use Rattle.std.proofs.Common.{◌≡◌, ℕ, zero, suc, ◌+◌, ◌*◌, ◌/◌, ◌<◌, ◌≤◌, Bool, true, false, ◌&&◌, List, [], ◌∷◌, length, get_or, take, drop, is_some, Some, None, Option, MatchOption, IfSome, IsTrue, Bor, sym, refl, ap, ◌∙◌, ⊎_elim, add-one, arith}
use denote.Param.Members.{Mut}
use Rattle.std.specs.List.{list_all, IsSubsliceAt}
use Rattle.std.specs.Fn.{Called}
use Rattle.std.specs.Iterator.Runs.{Run, IsChunksExactRun, AllItemsGive, IsFirstToGive, CallKeepsClosure}
use Rattle.std.proofs.lemmas.Bool.{cases_eq}
use Rattle.std.proofs.lemmas.Grind.{common_steps}
use Rattle.std.proofs.lemmas.List.{drop_more}
use Rattle.std.proofs.lemmas.Nat.{le-div}
use Rattle.admission.specs.Ranges.{all_from, first_from}

-- the first number that passes
first_is : (test : ℕ → Bool) (k n j : ℕ) → k ≤ j → j < k + n → test j ≡ true → ((i : ℕ) → k ≤ i → i < j → test i ≡ false) → first_from test k n ≡ Some j
unfolding first_from
first_is test k zero j l h pass before = absurd (omega arith)
first_is test k (suc n) j l h pass before =
    ⊎_elim (λ e. grind (arith, common_steps, ap test e))
    (λ ne. let later = first_is test (suc k) n j (omega arith) (omega arith) pass (λ i le. before i (omega arith)) in grind (arith, common_steps, before k))
    (cases_eq j k)

none_is : (test : ℕ → Bool) (k n : ℕ) → ((i : ℕ) → k ≤ i → i < k + n → test i ≡ false) → first_from test k n ≡ None
unfolding first_from
none_is test k zero fails = refl
none_is test k (suc n) fails = let later = none_is test (suc k) n (λ i le lt. fails i (omega arith) (omega arith)) in grind (arith, common_steps, fails k)

-- a part of a list passes where each of its places does
part_passes : {X : Type 0} (test : X → Bool) (d : X) (w a : ℕ) (xs : List X) → a + w ≤ length xs → list_all test (take w (drop a xs)) ≡ all_from (λ i. test (get_or xs i d)) a w
unfolding all_from
part_passes test d zero a xs within = refl
part_passes test d (suc w) a xs within =
    ap (λ ys. list_all test (take (suc w) ys)) (drop_more xs a d (omega arith)) ∙
    at (test (get_or xs a d)) (part_passes test d w (a + 1) xs (omega arith) ∙ ap (λ k. all_from (λ i. test (get_or xs i d)) k w) (add-one a)) where
      at :
          (b : Bool) → list_all test (take w (drop (a + 1) xs)) ≡ all_from (λ i. test (get_or xs i d)) (suc a) w →
          (b && list_all test (take w (drop (a + 1) xs))) ≡ elim b [ true ↦ all_from (λ i. test (get_or xs i d)) (suc a) w | false ↦ false ]
      at true rest = rest
      at false rest = refl

-- u is a run over the blocks of w places, of which f says whether all pass
module _
    {X S F : Type 0}
    {steps : S → Option (Bor (List X)) → S → Type 0}
    (g : Mut F (Bor (List X) × Unit {0}) Bool)
    (f : F)
    (test : X → Bool)
    (calls : (x : Bor (List X)) (b : Bool) (q : F) → Called g f (x, tt) b q → (q ≡ f) × (b ≡ list_all test x.now))
    (d : X)
    (xs : List X)
    (w : ℕ)
    (some : 0 < w)
    (u : Run steps)
    (cut : IsChunksExactRun u w xs) where
  passes : ℕ → Bool
  passes k = all_from (λ i. test (get_or xs i d)) (k * w) w

  keeps : CallKeepsClosure g f
  keeps a r q call = (calls a.0 r q call).0

  item : (k : ℕ) → k < u.len → is_some (u.at k) ≡ true
  item k l = at u.items refl where
    at : (ys : List (Bor (List X))) → u.items ≡ ys → is_some (u.at k) ≡ true
    at [] e = absurd (omega (arith, u.long, ap length e))
    at (y ∷ ys) e = grind (arith, common_steps, u.reads k y l)

  answer : (k : ℕ) (b : Bool) → k < u.len → IfSome (u.at k) (λ x. Called g f (x, tt) b f) → passes k ≡ b
  unfolding passes
  answer k b l call = at (u.at k) (item k l) call (cut.2 k) where
    at :
        (o : Option (Bor (List X))) → is_some o ≡ true → IfSome o (λ x. Called g f (x, tt) b f) →
        IfSome o (λ x. (length x.now ≡ w) × (k * w + w ≤ length xs) × IsSubsliceAt w xs (k * w) x.now) → passes k ≡ b
    at None some call block = cc
    at (Some x) some call block = sym (part_passes test d w (k * w) xs block.1) ∙ ap (list_all test) (sym block.2.0) ∙ sym (calls x b f call).1

  pub first_block :
      (r : Option ℕ) → MatchOption r (IsTrue u.whole × AllItemsGive u g f false) (λ i. (u.len ≡ i + 1) × IsFirstToGive u g f true false i) →
      r ≡ first_from (λ k. all_from (λ i. test (get_or xs i d)) (k * w) w) 0 (length xs / w)
  unfolding passes
  first_block None ran = sym (none_is passes 0 (length xs / w) (λ k _ l. answer k false (omega (arith, cut.1 ran.0)) (ran.1 keeps k)))
  first_block (Some i) ran =
      let given = ran.1 keeps in
      let below : i < length xs / w = omega (arith, le-div (i + 1) (length xs) w some (omega (arith, ap (λ n. n * w) ran.0))) in
      let here : passes i ≡ true = grind (arith, common_steps, answer i true, given.0) in
      sym (first_is passes 0 (length xs / w) i (omega arith) (omega arith) here (λ k _ l. grind (arith, common_steps, answer k false, given.1 k l)))
