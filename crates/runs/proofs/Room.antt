-- What the search for room found is admitted once what the admission set names has been given back.
use Rattle.std.proofs.Common.{◌≡◌, ℕ, Bool, true, false, cond, ◌||◌, eqb, List, [], ◌∷◌, Some, None, Option, sym, refl, ap, ◌∙◌, subst, ⊎_elim, arith}
use Rattle.std.proofs.lemmas.Bool.Decides.{nat_tests}
use Rattle.std.proofs.lemmas.Bool.{cases_eq, cases_Bool}
use Rattle.rules.specs.Grants.{nothing, added}
use Rattle.rules.specs.Radio.{Radio, gives, after_give}
use Rattle.rules.specs.State.{State, Outcome, silent, tell, at_queue, each}
use Rattle.rules.specs.Tables.{is_some, waits_as, without_request}
use Rattle.rules.specs.Actions.{report}
use Rattle.rules.specs.Preemption.{own_grant, and_also, shortest_front}
use Rattle.rules.specs.Request.{pre_empt, free_own}
use Rattle.rules.specs.declared.bearer.Bearer.{Bearer}
use Rattle.rules.specs.declared.report.ReportKind.TheVariants as kind
use Rattle.rules.specs.declared.report.Cause.TheVariants as cause
use Rattle.runs.specs.Law.{Laws}

-- the admission set with RABs added one by one, and the set that giving them back in order comes to
abbrev pub named_by : (ℕ → Bool) → List Bearer → ℕ → Bool
named_by n [] = n
named_by n (b ∷ vs) = named_by (added n b.grant) vs

abbrev pub named_back : (ℕ → Bool) → List Bearer → ℕ → Bool
named_back n [] = n
named_back n (b ∷ vs) = added (named_back n vs) b.grant

-- whether a number is one of theirs
abbrev theirs : List Bearer → ℕ → Bool
theirs [] k = false
theirs (b ∷ vs) k = eqb k b.grant || theirs vs k

by_is : (n : ℕ → Bool) (vs : List Bearer) (k : ℕ) → named_by n vs k ≡ (n k || theirs vs k)
by_is n [] k = grind (arith, cases_Bool (n k))
by_is n (b ∷ vs) k = let i = by_is (added n b.grant) vs k in grind (arith, cases_Bool (n k), cases_Bool (eqb k b.grant), cases_Bool (theirs vs k))

back_is : (n : ℕ → Bool) (vs : List Bearer) (k : ℕ) → named_back n vs k ≡ (n k || theirs vs k)
back_is n [] k = grind (arith, cases_Bool (n k))
back_is n (b ∷ vs) k = let i = back_is n vs k in grind (arith, cases_Bool (n k), cases_Bool (eqb k b.grant), cases_Bool (theirs vs k))

either_way : (a t : Bool) → (a || (false || t)) ≡ ((a || false) || t)
either_way true t = refl
either_way false t = refl

-- own grant first or last, the set is the same
own_both : (g : ℕ) (vs : List Bearer) (k : ℕ) → added (named_back nothing vs) g k ≡ named_by (added nothing g) vs k
own_both g vs k = ap (λ t. eqb k g || t) (back_is nothing vs k) ∙ either_way (eqb k g) (theirs vs k) ∙ sym (by_is (added nothing g) vs k)

-- all given back in order; from any state, a refused give being no difference
abbrev pub gives_all : (m : Radio) → m.State → List Bearer → m.State
gives_all m y [] = y
gives_all m y (b ∷ vs) = gives_all m (after_give m y b.grant) vs

module _ {m : Radio} (laws : Laws m) where
  one_given : (y : m.State) (g : ℕ) (n : ℕ → Bool) (s : ℕ) (t : Bool) → m.sound y → gives m y g ≡ t →
      (m.sound (cond t (m.given y g) y)) × (m.admits (cond t (m.given y g) y) n s ≡ m.admits y (added n g) s)
  one_given y g n s true ok e = ((laws.given y g ok e).sound, (laws.given y g ok e).same n s)
  one_given y g n s false ok e =
      (ok, (laws.lawful y ok).unheld n (added n g) s (λ k some. ⊎_elim (λ same. let h : m.holds y k ≡ m.holds y g = ap (m.holds y) same in absurd (grind (arith, nat_tests))) (λ other. grind (arith, nat_tests)) (cases_eq k g)))

  pub gives_all_sound : (y : m.State) (vs : List Bearer) → m.sound y → m.sound (gives_all m y vs)
  gives_all_sound y [] ok = ok
  gives_all_sound y (b ∷ vs) ok = gives_all_sound (after_give m y b.grant) vs (one_given y b.grant nothing 0 (gives m y b.grant) ok refl).0

  pub gives_all_admits : (y : m.State) (vs : List Bearer) (n : ℕ → Bool) (s : ℕ) → m.sound y → m.admits (gives_all m y vs) n s ≡ m.admits y (named_back n vs) s
  gives_all_admits y [] n s ok = refl
  gives_all_admits y (b ∷ vs) n s ok =
      let o = one_given y b.grant (named_back n vs) s (gives m y b.grant) ok refl in
      gives_all_admits (after_give m y b.grant) vs n s o.0 ∙ o.1

  fail_pool : (w : Bool) (c : Outcome m) (x : State m) → c.state.pool ≡ x.pool → (cond w c (silent x)).state.pool ≡ x.pool
  fail_pool true c x e = e
  fail_pool false c x e = refl

  pre_empt_pool : (b : Bearer) (x : State m) → (pre_empt b x).state.pool ≡ after_give m x.pool b.grant
  pre_empt_pool b x =
      ap (λ y. after_give m y b.grant)
      (fail_pool (is_some (waits_as b.place b.rab x.queue)) (tell (report kind.Failed b.place b.rab cause.RabPreempted) (at_queue x (without_request b.place b.rab x.queue))) x refl)

  -- the pool once all victims are given up
  pub victims_pool : (vs : List Bearer) (x : State m) → (each pre_empt vs x).state.pool ≡ gives_all m x.pool vs
  victims_pool [] x = refl
  victims_pool (b ∷ vs) x = victims_pool vs (pre_empt b x).state ∙ ap (λ y. gives_all m y vs) (pre_empt_pool b x)

  front_step : (x : State m) (n : ℕ → Bool) (s : ℕ) (b : Bearer) (o : Option (List Bearer)) (vs : List Bearer) (t : Bool) → m.admits x.pool (added n b.grant) s ≡ t →
      cond t (Some (b ∷ [])) (and_also b o) ≡ Some vs → ((ws : List Bearer) → o ≡ Some ws → m.admits x.pool (named_by (added n b.grant) ws) s ≡ true) →
      m.admits x.pool (named_by n vs) s ≡ true
  front_step x n s b o vs true e f ih = let v : b ∷ [] ≡ vs = cc in subst (λ z. m.admits x.pool (named_by n z) s ≡ true) v e
  front_step x n s b None vs false e f ih = let z : ◌≡◌ {A = ℕ} 0 1 = cc in absurd (omega arith)
  front_step x n s b (Some ws) vs false e f ih = let v : b ∷ ws ≡ vs = cc in subst (λ z. m.admits x.pool (named_by n z) s ≡ true) v (ih ws refl)

  -- the front that was found gives room
  pub front_room : (x : State m) (n : ℕ → Bool) (s : ℕ) (bs vs : List Bearer) → shortest_front x n s bs ≡ Some vs → m.admits x.pool (named_by n vs) s ≡ true
  front_room x n s [] vs e = let z : ◌≡◌ {A = ℕ} 0 1 = cc in absurd (omega arith)
  front_room x n s (b ∷ bs) vs e = front_step x n s b (shortest_front x (added n b.grant) s bs) vs (m.admits x.pool (added n b.grant) s) refl e (λ ws f. front_room x (added n b.grant) s bs ws f)

  -- so the size is admitted once own grant and victims are given back
  pub room_made : (x : State m) (o : Option Bearer) (s : ℕ) (vs : List Bearer) → m.sound x.pool → m.admits x.pool (named_by (own_grant o) vs) s ≡ true →
      m.admits (each pre_empt vs (free_own o x)).state.pool nothing s ≡ true
  room_made x None s vs ok e =
      ap (λ y. m.admits y nothing s) (victims_pool vs x) ∙ gives_all_admits x.pool vs nothing s ok ∙
      (laws.lawful x.pool ok).unheld (named_back nothing vs) (named_by nothing vs) s (λ k _. back_is nothing vs k ∙ sym (by_is nothing vs k)) ∙ e
  room_made x (Some b) s vs ok e =
      let y = after_give m x.pool b.grant in
      let q = one_given x.pool b.grant (named_back nothing vs) s (gives m x.pool b.grant) ok refl in
      ap (λ y. m.admits y nothing s) (victims_pool vs (free_own (Some b) x)) ∙ gives_all_admits y vs nothing s q.0 ∙ q.1 ∙
      (laws.lawful x.pool ok).unheld (added (named_back nothing vs) b.grant) (named_by (added nothing b.grant) vs) s
      (λ k _. own_both b.grant vs k) ∙ e
