-- The front of the candidates that is chosen makes room, and no shorter one does.
use Rattle.std.proofs.Common.{◌≡◌, ℕ, suc, ◌<◌, Bool, true, false, cond, List, [], ◌∷◌, ◌++◌, length, Some, None, Option, refl, ap, ◌∙◌, subst, inl, inr, arith}
use Rattle.rules.specs.Grants.{added}
use Rattle.rules.specs.Radio.{Radio}
use Rattle.rules.specs.State.{State}
use Rattle.rules.specs.Actions.{refuse, enqueue}
use Rattle.rules.specs.Preemption.{own, own_grant, and_also, admitted, candidates, shortest_front, victims}
use Rattle.rules.specs.Request.{done_or_not, wait_or_fail, ask}
use Rattle.rules.specs.declared.bearer.Bearer.{Bearer}
use Rattle.rules.specs.declared.bearer.Request.{Request}
use Rattle.rules.specs.declared.report.ReportKind.TheVariants as kind
use Rattle.rules.specs.declared.report.Cause.TheVariants as cause
use Rattle.laws.specs.Lists.{Front}
use Rattle.laws.specs.Victims.{with_grants, RightlyChosen, WithoutRoom, Decided, CandidatesInOrder, ShortestFronts}
use Rattle.laws.proofs.Candidates.{only_those, every_one, by_level, by_name}

module _ {m : Radio} (x : State m) (s : ℕ) where
  -- whether a set gives room
  abbrev gives_room : (ℕ → Bool) → List Bearer → Bool
  gives_room n vs = m.admits x.pool (with_grants n vs) s

  -- the shortest front, from any set that gives no room
  record Found (n : ℕ → Bool) (bs vs : List Bearer) : Type 0 where
    front : Front vs bs
    room : gives_room n vs ≡ true
    least : (ws rest : List Bearer) → bs ≡ ws ++ rest → length ws < length vs → gives_room n ws ≡ false

  found_step : (n : ℕ → Bool) (b : Bearer) (bs vs : List Bearer) (t : Bool) (o : Option (List Bearer)) → m.admits x.pool n s ≡ false →
      m.admits x.pool (added n b.grant) s ≡ t → cond t (Some (b ∷ [])) (and_also b o) ≡ Some vs →
      (m.admits x.pool (added n b.grant) s ≡ false → (ws : List Bearer) → o ≡ Some ws → Found (added n b.grant) bs ws) → Found n (b ∷ bs) vs
  found_step n b bs vs true o none e f ih =
      let v : b ∷ [] ≡ vs = cc in
      subst (Found n (b ∷ bs)) v record { front = (bs, refl); room = e; least = only_empty }
    where
      only_empty : (ws rest : List Bearer) → b ∷ bs ≡ ws ++ rest → length ws < 1 → gives_room n ws ≡ false
      only_empty [] rest g l = none
      only_empty (w ∷ ws) rest g l = absurd (omega arith)
  found_step n b bs vs false None none e f ih = let z : ◌≡◌ {A = ℕ} 0 1 = cc in absurd (omega arith)
  found_step n b bs vs false (Some us) none e f ih =
      let v : b ∷ us ≡ vs = cc in
      let h = ih e us refl in
      subst (Found n (b ∷ bs)) v record { front = (h.front.0, ap (λ zs. b ∷ zs) h.front.1); room = h.room; least = not_less h }
    where
      not_less : Found (added n b.grant) bs us → (ws rest : List Bearer) → b ∷ bs ≡ ws ++ rest → length ws < suc (length us) → gives_room n ws ≡ false
      not_less h [] rest g l = none
      not_less h (w ∷ ws) rest g l =
          let e₁ : b ≡ w = cc in
          let e₂ : bs ≡ ws ++ rest = cc in
          subst (λ z. gives_room (added n z.grant) ws ≡ false) e₁ (h.least ws rest e₂ (omega arith))

  found : (n : ℕ → Bool) (bs vs : List Bearer) → m.admits x.pool n s ≡ false → shortest_front x n s bs ≡ Some vs → Found n bs vs
  found n [] vs none e = let z : ◌≡◌ {A = ℕ} 0 1 = cc in absurd (omega arith)
  found n (b ∷ bs) vs none e =
      found_step n b bs vs (m.admits x.pool (added n b.grant) s) (shortest_front x (added n b.grant) s bs) none refl e
      (λ still ws f. found (added n b.grant) bs ws still f)

  missed_step : (n : ℕ → Bool) (b : Bearer) (bs : List Bearer) (t : Bool) (o : Option (List Bearer)) → m.admits x.pool n s ≡ false →
      m.admits x.pool (added n b.grant) s ≡ t → cond t (Some (b ∷ [])) (and_also b o) ≡ None →
      (m.admits x.pool (added n b.grant) s ≡ false → o ≡ None → (ws rest : List Bearer) → bs ≡ ws ++ rest → gives_room (added n b.grant) ws ≡ false) →
      (ws rest : List Bearer) → b ∷ bs ≡ ws ++ rest → gives_room n ws ≡ false
  missed_step n b bs true o none e f ih ws rest g = let z : ◌≡◌ {A = ℕ} 0 1 = cc in absurd (omega arith)
  missed_step n b bs false (Some us) none e f ih ws rest g = let z : ◌≡◌ {A = ℕ} 0 1 = cc in absurd (omega arith)
  missed_step n b bs false None none e f ih [] rest g = none
  missed_step n b bs false None none e f ih (w ∷ ws) rest g =
      let e₁ : b ≡ w = cc in
      let e₂ : bs ≡ ws ++ rest = cc in
      subst (λ z. gives_room (added n z.grant) ws ≡ false) e₁ (ih e refl ws rest e₂)

  missed : (n : ℕ → Bool) (bs : List Bearer) → m.admits x.pool n s ≡ false → shortest_front x n s bs ≡ None → (ws rest : List Bearer) → bs ≡ ws ++ rest → gives_room n ws ≡ false
  missed n [] none e [] rest g = none
  missed n [] none e (w ∷ ws) rest g = let z : ◌≡◌ {A = ℕ} 0 1 = cc in absurd (omega arith)
  missed n (b ∷ bs) none e ws rest g =
      missed_step n b bs (m.admits x.pool (added n b.grant) s) (shortest_front x (added n b.grant) s bs) none refl e
      (λ still f. missed (added n b.grant) bs still f) ws rest g

module _ {m : Radio} (q : Request) (x : State m) where
  chosen_when : (vs : List Bearer) (t u : Bool) → admitted x q ≡ t → q.priority.triggers ≡ u →
      cond t (Some []) (cond u (shortest_front x (own_grant (own q x)) q.size (candidates q x)) None) ≡ Some vs → RightlyChosen q x vs
  chosen_when vs true u e f g = let v : vs ≡ [] = cc in inl (e, v)
  chosen_when vs false true e f g =
      let h = found x q.size (own_grant (own q x)) (candidates q x) vs e g in
      inr (e, f, record { front = h.front; room = h.room; least = λ ws w l. h.least ws w.0 w.1 l })
  chosen_when vs false false e f g = let z : ◌≡◌ {A = ℕ} 0 1 = cc in absurd (omega arith)

  refused_when : (t u : Bool) → admitted x q ≡ t → q.priority.triggers ≡ u →
      cond t (Some []) (cond u (shortest_front x (own_grant (own q x)) q.size (candidates q x)) None) ≡ None → WithoutRoom q x
  refused_when true u e f g = let z : ◌≡◌ {A = ℕ} 0 1 = cc in absurd (omega arith)
  refused_when false true e f g = (e, inr (λ ws w. missed x q.size (own_grant (own q x)) (candidates q x) e g ws w.0 w.1))
  refused_when false false e f g = (e, inl f)

  chosen : (vs : List Bearer) → victims q x ≡ Some vs → RightlyChosen q x vs
  chosen vs e = chosen_when vs (admitted x q) q.priority.triggers refl refl e

  refused : victims q x ≡ None → WithoutRoom q x
  refused e = refused_when (admitted x q) q.priority.triggers refl refl e

  waits_when : (t : Bool) → q.priority.queuing ≡ t → ask q x ≡ wait_or_fail q x → WithoutRoom q x → Decided q x
  waits_when true e f h = inr (inl (h, e, f ∙ ap (λ u. cond u (enqueue q x) (refuse kind.Failed q.place q.rab cause.MaximumBitRateNotAvailable x)) e))
  waits_when false e f h = inr (inr (h, e, f ∙ ap (λ u. cond u (enqueue q x) (refuse kind.Failed q.place q.rab cause.MaximumBitRateNotAvailable x)) e))

  decided_when : (o : Option (List Bearer)) → victims q x ≡ o → Decided q x
  unfolding ask
  decided_when None e = waits_when q.priority.queuing refl (ap (λ o. done_or_not q o x) e) (refused e)
  decided_when (Some vs) e = inl (vs, chosen vs e, ap (λ o. done_or_not q o x) e)

pub right_candidates : (m : Radio) → CandidatesInOrder m
right_candidates m = record { only = only_those; every = every_one; order = by_level; named = by_name }

pub right_victims : (m : Radio) → ShortestFronts m
right_victims m = record { chosen = chosen; refused = refused; decided = λ q x. decided_when q x (victims q x) refl }
