-- Grants given back one after the other: what is held then, and for what there is room.
use Rattle.std.proofs.Common.{◌≡◌, ℕ, Bool, true, false, cond, ◌||◌, eqb, List, [], ◌∷◌, Some, None, Option, sym, refl, ap, ◌∙◌, ⊎_elim, arith}
use Rattle.std.proofs.lemmas.Bool.Decides.{nat_tests}
use Rattle.std.proofs.lemmas.Bool.{cases_eq, cases_Bool}
use Rattle.rules.specs.Grants.{nothing, added}
use Rattle.rules.specs.Radio.{Radio, Lawful, Taken, Given, takes, gives, after_give}
use Rattle.rules.specs.Preemption.{own_grant}
use Rattle.rules.specs.declared.bearer.Bearer.{Bearer}
use Rattle.laws.specs.Victims.{with_grants}

-- what a kind of pool shows of its sound states
pub record Laws (m : Radio) : Type 0 where
  pub lawful : (x : m.State) → m.sound x → Lawful m x
  pub taken : (x : m.State) (g s : ℕ) → m.sound x → takes m x g s ≡ true → Taken m x g s
  pub given : (x : m.State) (g : ℕ) → m.sound x → gives m x g ≡ true → Given m x g

-- whether a number is the grant of one of them
abbrev theirs : List Bearer → ℕ → Bool
theirs [] k = false
theirs (b ∷ vs) k = eqb k b.grant || theirs vs k

-- the set that giving them back in order comes to
abbrev back : (ℕ → Bool) → List Bearer → ℕ → Bool
back n [] = n
back n (b ∷ vs) = added (back n vs) b.grant

with_is : (n : ℕ → Bool) (vs : List Bearer) (k : ℕ) → with_grants n vs k ≡ (n k || theirs vs k)
with_is n [] k = grind (arith, cases_Bool (n k))
with_is n (b ∷ vs) k = let i = with_is (added n b.grant) vs k in grind (arith, cases_Bool (n k), cases_Bool (eqb k b.grant), cases_Bool (theirs vs k))

back_is : (n : ℕ → Bool) (vs : List Bearer) (k : ℕ) → back n vs k ≡ (n k || theirs vs k)
back_is n [] k = grind (arith, cases_Bool (n k))
back_is n (b ∷ vs) k = let i = back_is n vs k in grind (arith, cases_Bool (n k), cases_Bool (eqb k b.grant), cases_Bool (theirs vs k))

either_way : (a t : Bool) → (a || (false || t)) ≡ ((a || false) || t)
either_way true t = refl
either_way false t = refl

-- own grant first or last, the set is the same
own_both : (g : ℕ) (vs : List Bearer) (k : ℕ) → added (back nothing vs) g k ≡ with_grants (added nothing g) vs k
own_both g vs k = ap (λ t. eqb k g || t) (back_is nothing vs k) ∙ either_way (eqb k g) (theirs vs k) ∙ sym (with_is (added nothing g) vs k)

-- all given back in order, a refused one making no difference
abbrev pub gives_all : (m : Radio) → m.State → List Bearer → m.State
gives_all m y [] = y
gives_all m y (b ∷ vs) = gives_all m (after_give m y b.grant) vs

-- the same with a request's own first
abbrev pub gives_own : (m : Radio) → m.State → Option Bearer → m.State
gives_own m y None = y
gives_own m y (Some b) = after_give m y b.grant

module _ {m : Radio} (laws : Laws m) where
  given_sound : (y : m.State) (g : ℕ) (t : Bool) → m.sound y → gives m y g ≡ t → m.sound (cond t (m.given y g) y)
  given_sound y g true ok e = (laws.given y g ok e).sound
  given_sound y g false ok e = ok

  given_admits : (y : m.State) (g : ℕ) (n : ℕ → Bool) (s : ℕ) (t : Bool) → m.sound y → gives m y g ≡ t → m.admits (cond t (m.given y g) y) n s ≡ m.admits y (added n g) s
  given_admits y g n s true ok e = (laws.given y g ok e).same n s
  given_admits y g n s false ok e =
      (laws.lawful y ok).unheld n (added n g) s (λ k some.
      ⊎_elim (λ same. let h : m.holds y k ≡ m.holds y g = ap (m.holds y) same in absurd (grind (arith, nat_tests))) (λ other. grind (arith, nat_tests)) (cases_eq k g))

  given_holds : (y : m.State) (g k : ℕ) (t : Bool) → m.sound y → gives m y g ≡ t → m.holds (cond t (m.given y g) y) k ≡ cond (eqb k g) 0 (m.holds y k)
  given_holds y g k true ok e = ap (λ f. f k) (laws.given y g ok e).holds
  given_holds y g k false ok e =
      ⊎_elim
      (λ same. let h : m.holds y k ≡ m.holds y g = ap (m.holds y) same in grind (arith, nat_tests))
      (λ other. grind (arith, nat_tests))
      (cases_eq k g)

  one_sound : (y : m.State) (g : ℕ) → m.sound y → m.sound (after_give m y g)
  one_sound y g ok = given_sound y g (gives m y g) ok refl

  all_sound : (y : m.State) (vs : List Bearer) → m.sound y → m.sound (gives_all m y vs)
  all_sound y [] ok = ok
  all_sound y (b ∷ vs) ok = all_sound (after_give m y b.grant) vs (one_sound y b.grant ok)

  all_admits : (y : m.State) (vs : List Bearer) (n : ℕ → Bool) (s : ℕ) → m.sound y → m.admits (gives_all m y vs) n s ≡ m.admits y (back n vs) s
  all_admits y [] n s ok = refl
  all_admits y (b ∷ vs) n s ok = all_admits (after_give m y b.grant) vs n s (one_sound y b.grant ok) ∙ given_admits y b.grant (back n vs) s (gives m y b.grant) ok refl

  all_holds : (y : m.State) (vs : List Bearer) (k : ℕ) → m.sound y → m.holds (gives_all m y vs) k ≡ cond (theirs vs k) 0 (m.holds y k)
  all_holds y [] k ok = refl
  all_holds y (b ∷ vs) k ok =
      let i = all_holds (after_give m y b.grant) vs k (one_sound y b.grant ok) in
      let h = given_holds y b.grant k (gives m y b.grant) ok refl in
      i ∙ ap (λ n. cond (theirs vs k) 0 n) h ∙ either (theirs vs k) (eqb k b.grant) (m.holds y k)
    where
      either : (t u : Bool) (n : ℕ) → cond t 0 (cond u 0 n) ≡ cond (u || t) 0 n
      either true true n = refl
      either true false n = refl
      either false true n = refl
      either false false n = refl

  -- own grant and those of others
  pub back_sound : (y : m.State) (o : Option Bearer) (vs : List Bearer) → m.sound y → m.sound (gives_all m (gives_own m y o) vs)
  back_sound y None vs ok = all_sound y vs ok
  back_sound y (Some b) vs ok = all_sound (after_give m y b.grant) vs (one_sound y b.grant ok)

  pub back_admits : (y : m.State) (o : Option Bearer) (vs : List Bearer) (s : ℕ) → m.sound y → m.admits (gives_all m (gives_own m y o) vs) nothing s ≡ m.admits y (with_grants (own_grant o) vs) s
  back_admits y None vs s ok =
      all_admits y vs nothing s ok ∙ (laws.lawful y ok).unheld (back nothing vs) (with_grants nothing vs) s (λ k _. back_is nothing vs k ∙ sym (with_is nothing vs k))
  back_admits y (Some b) vs s ok =
      all_admits (after_give m y b.grant) vs nothing s (one_sound y b.grant ok) ∙ given_admits y b.grant (back nothing vs) s (gives m y b.grant) ok refl ∙
      (laws.lawful y ok).unheld (added (back nothing vs) b.grant) (with_grants (added nothing b.grant) vs) s (λ k _. own_both b.grant vs k)

  pub back_holds : (y : m.State) (o : Option Bearer) (vs : List Bearer) (k : ℕ) → m.sound y → m.holds (gives_all m (gives_own m y o) vs) k ≡ cond (with_grants (own_grant o) vs k) 0 (m.holds y k)
  back_holds y None vs k ok = all_holds y vs k ok ∙ sym (ap (λ t. cond {A = ℕ} t 0 (m.holds y k)) (with_is nothing vs k))
  back_holds y (Some b) vs k ok =
      all_holds (after_give m y b.grant) vs k (one_sound y b.grant ok) ∙
      ap (λ n. cond (theirs vs k) 0 n) (given_holds y b.grant k (gives m y b.grant) ok refl) ∙
      both (theirs vs k) (eqb k b.grant) (m.holds y k) ∙ sym (ap (λ t. cond {A = ℕ} t 0 (m.holds y k)) (with_is (added nothing b.grant) vs k))
    where
      both : (t u : Bool) (n : ℕ) → cond t 0 (cond u 0 n) ≡ cond ((u || false) || t) 0 n
      both true true n = refl
      both true false n = refl
      both false true n = refl
      both false false n = refl
