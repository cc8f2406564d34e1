-- The victims of a request are in the table one after the other, once the request's own RAB is out of it.
use Rattle.std.proofs.Common.{◌≡◌, ℕ, zero, suc, ◌+◌, ◌≤◌, Bool, true, false, cond, ◌&&◌, eqb, leb, List, [], ◌∷◌, Some, None, filter, Option, sym, refl, ap, ◌∙◌, subst, ⊎_elim, arith}
use Rattle.std.proofs.lemmas.Bool.Decides.{nat_tests}
use Rattle.rules.specs.Grants.{added}
use Rattle.rules.specs.Radio.{Radio}
use Rattle.rules.specs.State.{State}
use Rattle.rules.specs.Tables.{of_rab}
use Rattle.rules.specs.Preemption.{own, own_grant, admitted, and_also, candidate, candidates_from, candidates, shortest_front, victims}
use Rattle.rules.specs.Request.{free_own}
use Rattle.rules.specs.declared.bearer.Bearer.{Bearer}
use Rattle.rules.specs.declared.bearer.Request.{Request}
use Rattle.bearers.proofs.Waiting.{key_cases}
use Rattle.bounds.proofs.Removals.{set_up_key, times, times_else, times_kept, times_append, Removable, removable}

-- of a level up to l
abbrev upto : ℕ → Bearer → Bool
upto l b = leb b.priority.level l

module _ {m : Radio} (q : Request) (x : State m) (k j : ℕ) where
  level_step : (l : ℕ) (b : Bearer) (bs : List Bearer) (c s t : Bool) → candidate q x (suc l) b ≡ c → upto l b ≡ s → upto (suc l) b ≡ t →
      times k j (filter (candidate q x (suc l)) bs) + times k j (filter (upto l) bs) ≤ times k j (filter (upto (suc l)) bs) →
      times k j (cond c (b ∷ filter (candidate q x (suc l)) bs) (filter (candidate q x (suc l)) bs)) + times k j (cond s (b ∷ filter (upto l) bs) (filter (upto l) bs)) ≤
      times k j (cond t (b ∷ filter (upto (suc l)) bs) (filter (upto (suc l)) bs))
  level_step l b bs true true t e f g ih = absurd (grind (arith, nat_tests))
  level_step l b bs true false true e f g ih = omega arith
  level_step l b bs true false false e f g ih = absurd (grind (arith, nat_tests))
  level_step l b bs false true true e f g ih = omega arith
  level_step l b bs false true false e f g ih = absurd (grind (arith, nat_tests))
  level_step l b bs false false true e f g ih = omega arith
  level_step l b bs false false false e f g ih = omega arith

  -- one level more
  level_more : (l : ℕ) (bs : List Bearer) → times k j (filter (candidate q x (suc l)) bs) + times k j (filter (upto l) bs) ≤ times k j (filter (upto (suc l)) bs)
  level_more l [] = omega arith
  level_more l (b ∷ bs) = level_step l b bs (candidate q x (suc l) b) (upto l b) (upto (suc l) b) refl refl refl (level_more l bs)

  -- a candidate stands among those of its level or a smaller number
  times_from : (l : ℕ) → times k j (candidates_from l q x) ≤ times k j (filter (upto l) x.bearers)
  times_from zero = omega arith
  times_from (suc l) =
      let a = times_append k j (filter (candidate q x (suc l)) x.bearers) (candidates_from l q x) in
      let i = times_from l in
      let n = level_more l x.bearers in
      omega arith

  front_step : (n : ℕ → Bool) (b : Bearer) (bs vs : List Bearer) (o : Option (List Bearer)) (t : Bool) → cond t (Some (b ∷ [])) (and_also b o) ≡ Some vs →
      ((ws : List Bearer) → o ≡ Some ws → times k j ws ≤ times k j bs) → times k j vs ≤ times k j (b ∷ bs)
  front_step n b bs vs o true e ih = let s : b ∷ [] ≡ vs = cc in subst (λ ws. times k j ws ≤ times k j (b ∷ bs)) s (omega arith)
  front_step n b bs vs None false e ih = let z : ◌≡◌ {A = ℕ} 0 1 = cc in absurd (omega arith)
  front_step n b bs vs (Some ws) false e ih = let s : b ∷ ws ≡ vs = cc in let i = ih ws refl in subst (λ ws. times k j ws ≤ times k j (b ∷ bs)) s (omega arith)

  -- a front of a list
  times_front : (n : ℕ → Bool) (s : ℕ) (bs vs : List Bearer) → shortest_front x n s bs ≡ Some vs → times k j vs ≤ times k j bs
  times_front n s [] vs e = let z : ◌≡◌ {A = ℕ} 0 1 = cc in absurd (omega arith)
  times_front n s (b ∷ bs) vs e =
      front_step n b bs vs (shortest_front x (added n b.grant) s bs) (m.admits x.pool (added n b.grant) s) e (λ ws f. times_front (added n b.grant) s bs ws f)

  chosen_step : (vs : List Bearer) (s t : Bool) → cond s (Some []) (cond t (shortest_front x (own_grant (own q x)) q.size (candidates q x)) None) ≡ Some vs → times k j vs ≤ times k j (candidates q x)
  chosen_step vs true t e = let s : [] ≡ vs = cc in subst (λ ws. times k j ws ≤ times k j (candidates q x)) s (omega arith)
  chosen_step vs false true e = times_front (own_grant (own q x)) q.size (candidates q x) vs e
  chosen_step vs false false e = let z : ◌≡◌ {A = ℕ} 0 1 = cc in absurd (omega arith)

  -- victims are candidates
  times_chosen : (vs : List Bearer) → victims q x ≡ Some vs → times k j vs ≤ times k j (candidates q x)
  times_chosen vs e = chosen_step vs (admitted x q) q.priority.triggers e

  times_victims : (vs : List Bearer) → victims q x ≡ Some vs → times k j vs ≤ times k j x.bearers
  times_victims vs e = let a = times_chosen vs e in let b = times_from 14 in let c = times_kept (upto 14) k j x.bearers in omega arith

module _ {m : Radio} (q : Request) (x : State m) where
  other_step : (l : ℕ) (b : Bearer) (bs : List Bearer) (c : Bool) → candidate q x l b ≡ c → times q.place q.rab (filter (candidate q x l) bs) ≡ 0 →
      times q.place q.rab (cond c (b ∷ filter (candidate q x l) bs) (filter (candidate q x l) bs)) ≡ 0
  other_step l b bs true e ih =
      let f : of_rab q.place q.rab b ≡ false = grind (arith, nat_tests) in
      let z : ◌≡◌ {A = ℕ} (cond (of_rab q.place q.rab b) 1 0) 0 = ap (λ t. cond {A = ℕ} t 1 0) f in
      omega arith
  other_step l b bs false e ih = ih

  -- no candidate is the request's own RAB
  none_own : (l : ℕ) (bs : List Bearer) → times q.place q.rab (filter (candidate q x l) bs) ≡ 0
  none_own l [] = refl
  none_own l (b ∷ bs) = other_step l b bs (candidate q x l b) refl (none_own l bs)

  none_own_from : (l : ℕ) → times q.place q.rab (candidates_from l q x) ≡ 0
  none_own_from zero = refl
  none_own_from (suc l) =
      let a = times_append q.place q.rab (filter (candidate q x (suc l)) x.bearers) (candidates_from l q x) in
      let i = none_own_from l in
      let n = none_own (suc l) x.bearers in
      omega arith

  out_of : (vs : List Bearer) → victims q x ≡ Some vs → (o : Option Bearer) → own q x ≡ o → (k j : ℕ) → times k j vs ≤ times k j (free_own o x).bearers
  out_of vs e None f k j = times_victims q x k j vs e
  out_of vs e (Some b) f k j =
      let key = set_up_key q.place q.rab b x.bearers f in
      ⊎_elim
      (λ same.
      let c : times q.place q.rab vs ≤ times q.place q.rab (candidates q x) = times_chosen q x q.place q.rab vs e in
      let n = none_own_from 14 in
      let z : times q.place q.rab vs ≡ 0 = omega arith in
      let w : times k j vs ≡ 0 = ap (λ u. times u j vs) same.0 ∙ ap (λ u. times q.place u vs) same.1 ∙ z in
      omega arith)
      (λ off.
      let off' : (eqb k b.place && eqb j b.rab) ≡ false = subst (λ u. (eqb k u && eqb j b.rab) ≡ false) (sym key.0) (subst (λ u. (eqb k q.place && eqb j u) ≡ false) (sym key.1) off) in
      let s = times_else b.place b.rab k j x.bearers off' in
      let v = times_victims q x k j vs e in
      omega arith)
      (key_cases q.place q.rab k j)

  pub victims_removable : (vs : List Bearer) → victims q x ≡ Some vs → Removable (free_own (own q x) x).bearers vs
  victims_removable vs e = removable vs (free_own (own q x) x).bearers (out_of vs e (own q x) refl)
