-- The candidates of a pre-emption, and the front of them that is chosen.
use Rattle.std.proofs.Common.{◌≡◌, ℕ, zero, suc, ◌≤◌, Bool, true, false, cond, not, ◌&&◌, eqb, ltb, List, [], ◌∷◌, Some, None, filter, Option, sym, refl, ap, ◌∙◌, subst, ⊎_elim, arith}
use Rattle.std.proofs.lemmas.Bool.Decides.{nat_tests}
use Rattle.std.proofs.lemmas.Bool.{and_parts, eqb-true, not-true}
use Rattle.rules.specs.Grants.{added}
use Rattle.rules.specs.Radio.{Radio}
use Rattle.rules.specs.State.{State}
use Rattle.rules.specs.Tables.{of_rab, set_up_as, without_bearer}
use Rattle.rules.specs.Connections.{opened, state_at}
use Rattle.rules.specs.Preemption.{own, own_grant, and_also, admitted, candidate, candidates_from, candidates, shortest_front, victims}
use Rattle.rules.specs.Request.{free_own}
use Rattle.rules.specs.declared.bearer.Bearer.{Bearer}
use Rattle.rules.specs.declared.bearer.Request.{Request}
use Rattle.bearers.proofs.Standing.{Once, once_lookup, once_without}
use Rattle.bounds.proofs.Removals.{set_up_key}
use Rattle.runs.specs.Law.{Laws}
use Rattle.runs.proofs.Hole.{Stand}
use Rattle.runs.proofs.Room.{named_by, front_room}
use Rattle.runs.proofs.Victims.{Listed, among_kept, once_kept, set_append, one_of, once_append, stand_listed}

-- a front of what stands, stands
front_stands : {m : Radio} (x : State m) (n : ℕ → Bool) (s : ℕ) (ts bs vs : List Bearer) → shortest_front x n s bs ≡ Some vs → Stand ts bs → Stand ts vs
front_stands x n s ts [] vs e ok = let z : ◌≡◌ {A = ℕ} 0 1 = cc in absurd (omega arith)
front_stands {m} x n s ts (b ∷ bs) vs e ok =
    at (m.admits x.pool (added n b.grant) s) (shortest_front x (added n b.grant) s bs) e (λ ws f. front_stands x (added n b.grant) s (without_bearer b.place b.rab ts) bs ws f ok.1)
  where
    at : (t : Bool) (o : Option (List Bearer)) → cond t (Some (b ∷ [])) (and_also b o) ≡ Some vs → ((ws : List Bearer) → o ≡ Some ws → Stand (without_bearer b.place b.rab ts) ws) → Stand ts vs
    at true o f ih = let v : b ∷ [] ≡ vs = cc in subst (Stand ts) v (ok.0, tt)
    at false None f ih = let z : ◌≡◌ {A = ℕ} 0 1 = cc in absurd (omega arith)
    at false (Some ws) f ih = let v : b ∷ ws ≡ vs = cc in subst (Stand ts) v (ok.0, ih ws refl)

none_of_both : (o o' : Option Bearer) (P : Type 0) → ((v w : Bearer) → o ≡ Some v → o' ≡ Some w → ⊥) → (v : Bearer) → o ≡ Some v → o' ≡ None
none_of_both o None P f v e = refl
none_of_both o (Some w) P f v e = absurd (f v w e refl)

module _ {m : Radio} (q : Request) (x : State m) (ok : Once x.bearers) where
  -- a candidate is of its level, and another RAB
  level_of : (l : ℕ) (b : Bearer) → candidate q x l b ≡ true → (b.priority.level ≡ l) × (of_rab q.place q.rab b ≡ false)
  level_of l b e =
      let a = eqb b.priority.level l in
      let c = ltb q.priority.level l in
      let d = b.priority.preemptable in
      let o = opened (state_at b.place x) in
      let n = not (of_rab q.place q.rab b) in
      let h = and_parts (a && c && d && o) n e in
      let i = and_parts (a && c && d) o h.0 in
      let j = and_parts (a && c) d i.0 in
      (eqb-true b.priority.level l (and_parts a c j.0).0, not-true (of_rab q.place q.rab b) h.1)

  -- each stands in the table, has at most the level, and is another RAB
  listed_from : (l k j : ℕ) (v : Bearer) → set_up_as k j (candidates_from l q x) ≡ Some v → (set_up_as k j x.bearers ≡ Some v) × (v.priority.level ≤ l) × (of_rab q.place q.rab v ≡ false)
  listed_from zero k j v e = let z : ◌≡◌ {A = ℕ} 0 1 = cc in absurd (omega arith)
  listed_from (suc l) k j v e =
      ⊎_elim
      (λ here.
      let h = among_kept (candidate q x (suc l)) k j v x.bearers ok here in
      let n = level_of (suc l) v h.1 in
      let s : v.priority.level ≡ suc l = n.0 in
      (h.0, omega arith, n.1))
      (λ later. let h = listed_from l k j v later in let s : v.priority.level ≤ l = h.1 in (h.0, omega arith, h.2))
      (one_of (set_up_as k j (filter (candidate q x (suc l)) x.bearers)) (set_up_as k j (candidates_from l q x)) v
      (sym (set_append k j (filter (candidate q x (suc l)) x.bearers) (candidates_from l q x)) ∙ e))

  once_from : (l : ℕ) → Once (candidates_from l q x)
  once_from zero = tt
  once_from (suc l) =
      once_append (filter (candidate q x (suc l)) x.bearers) (candidates_from l q x) (once_kept (candidate q x (suc l)) x.bearers ok) (once_from l) (λ k j v e.
      none_of_both (set_up_as k j (filter (candidate q x (suc l)) x.bearers)) (set_up_as k j (candidates_from l q x)) (Unit {0}) (λ v w f g.
      let h = among_kept (candidate q x (suc l)) k j v x.bearers ok f in
      let i = listed_from l k j w g in
      let a : set_up_as k j x.bearers ≡ Some v = h.0 in
      let b : set_up_as k j x.bearers ≡ Some w = i.0 in
      let same : v ≡ w = cc in
      let s : v.priority.level ≡ w.priority.level = ap (λ z. z.priority.level) same in
      let n : v.priority.level ≡ suc l = (level_of (suc l) v h.1).0 in
      let c : w.priority.level ≤ l = i.1 in
      omega arith) v e)

  -- what is listed of the whole table and is another RAB, is listed once the request's own RAB is out of it
  listed_back : (o : Option Bearer) → own q x ≡ o → Listed (free_own o x).bearers (candidates q x)
  listed_back None e k j v f = (listed_from 14 k j v f).0
  listed_back (Some b) e k j v f =
      let h = listed_from 14 k j v f in
      let key = set_up_key k j v x.bearers h.0 in
      let mine = set_up_key q.place q.rab b x.bearers e in
      let kp : v.place ≡ k = key.0 in
      let kr : v.rab ≡ j = key.1 in
      let mp : b.place ≡ q.place = mine.0 in
      let mr : b.rab ≡ q.rab = mine.1 in
      let off : of_rab q.place q.rab v ≡ false = h.2 in
      let other : (eqb k b.place && eqb j b.rab) ≡ false = grind (arith, nat_tests) in
      once_lookup b.place b.rab k j x.bearers ok ∙ ap (λ t. cond t None (set_up_as k j x.bearers)) other ∙ h.0

  once_back : (o : Option Bearer) → Once (free_own o x).bearers
  once_back None = ok
  once_back (Some b) = once_without b.place b.rab x.bearers ok

  candidates_stand : Stand (free_own (own q x) x).bearers (candidates q x)
  candidates_stand = stand_listed (free_own (own q x) x).bearers (candidates q x) (once_back (own q x)) (once_from 14) (listed_back (own q x) refl)

  stand_when : (vs : List Bearer) (t u : Bool) → cond t (Some []) (cond u (shortest_front x (own_grant (own q x)) q.size (candidates q x)) None) ≡ Some vs → Stand (free_own (own q x) x).bearers vs
  stand_when vs true u f = let v : [] ≡ vs = cc in subst (Stand (free_own (own q x) x).bearers) v tt
  stand_when vs false true f = front_stands x (own_grant (own q x)) q.size (free_own (own q x) x).bearers (candidates q x) vs f candidates_stand
  stand_when vs false false f = let z : ◌≡◌ {A = ℕ} 0 1 = cc in absurd (omega arith)

  -- the victims stand in the table once the request's own RAB is out of it
  pub victims_stand : (vs : List Bearer) → victims q x ≡ Some vs → Stand (free_own (own q x) x).bearers vs
  victims_stand vs e = stand_when vs (admitted x q) q.priority.triggers e

module _ {m : Radio} (laws : Laws m) (q : Request) (x : State m) where
  room_when : (vs : List Bearer) (t u : Bool) → admitted x q ≡ t → cond t (Some []) (cond u (shortest_front x (own_grant (own q x)) q.size (candidates q x)) None) ≡ Some vs →
      m.admits x.pool (named_by (own_grant (own q x)) vs) q.size ≡ true
  room_when vs true u e f = let v : [] ≡ vs = cc in subst (λ z. m.admits x.pool (named_by (own_grant (own q x)) z) q.size ≡ true) v e
  room_when vs false true e f = front_room laws x (own_grant (own q x)) q.size (candidates q x) vs f
  room_when vs false false e f = let z : ◌≡◌ {A = ℕ} 0 1 = cc in absurd (omega arith)

  -- and their going makes room
  pub victims_room : (vs : List Bearer) → victims q x ≡ Some vs → m.admits x.pool (named_by (own_grant (own q x)) vs) q.size ≡ true
  victims_room vs e = room_when vs (admitted x q) q.priority.triggers refl e
