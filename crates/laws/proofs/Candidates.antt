-- The candidates are exactly the RABs that may go, and stand by level, then as in the table.
use Rattle.std.proofs.Common.{◌≡◌, ℕ, zero, suc, ◌<◌, ◌≤◌, true, false, not, ◌&&◌, eqb, ltb, ◌⊎◌, List, [], ◌∷◌, filter, sym, refl, ap, ◌∙◌, subst, inl, inr, ⊎_elim, arith}
use Rattle.std.proofs.lemmas.Bool.Decides.{nat_tests}
use Rattle.std.proofs.lemmas.Bool.{and_parts, and_from, eqb-true, eq-eqb, ltb-true, lt-ltb, not-true, not_from_false, cases_eq}
use Rattle.rules.specs.Radio.{Radio}
use Rattle.rules.specs.State.{State}
use Rattle.rules.specs.Tables.{of_rab, before}
use Rattle.rules.specs.Connections.{opened, state_at}
use Rattle.rules.specs.Preemption.{candidate, candidates_from, candidates}
use Rattle.rules.specs.declared.bearer.Bearer.{Bearer}
use Rattle.rules.specs.declared.bearer.Request.{Request}
use Rattle.rules.specs.declared.connection.ConnectionState.{ConnectionState}
use Rattle.rules.specs.declared.connection.ConnectionState.TheVariants.{Closed, Open, Preparing, Prepared, Executed}
use Rattle.bearers.specs.Order.{heads, ascending}
use Rattle.bearers.proofs.Standing.{before_trans}
use Rattle.laws.specs.Lists.{Among, Earlier}
use Rattle.laws.specs.Victims.{MayGo, NamedBefore}
use Rattle.laws.proofs.Standing.{among_append, among_left, among_right, earlier_append, earlier_both, among_kept, kept_among, earlier_kept}

open_state : (s : ConnectionState) → opened s ≡ true → s ≡ Open
open_state Closed e = let z : ◌≡◌ {A = ℕ} 0 1 = cc in absurd (omega arith)
open_state Open e = refl
open_state Preparing e = let z : ◌≡◌ {A = ℕ} 0 1 = cc in absurd (omega arith)
open_state Prepared e = let z : ◌≡◌ {A = ℕ} 0 1 = cc in absurd (omega arith)
open_state Executed e = let z : ◌≡◌ {A = ℕ} 0 1 = cc in absurd (omega arith)

-- one RAB or another
not_same : (p r : ℕ) (b : Bearer) → of_rab p r b ≡ false → b.place ≡ p → b.rab ≡ r → ⊥
not_same p r b e f g = grind (arith, nat_tests)

is_other : (p r : ℕ) (b : Bearer) → (b.place ≡ p → b.rab ≡ r → ⊥) → of_rab p r b ≡ false
is_other p r b h =
    ⊎_elim
    (λ e. ⊎_elim (λ f. absurd (h e f)) (λ f. grind (arith, nat_tests)) (cases_eq b.rab r))
    (λ e. grind (arith, nat_tests))
    (cases_eq b.place p)

module _ {m : Radio} (q : Request) (x : State m) where
  -- what the test of a candidate says
  passes : (l : ℕ) (b : Bearer) → candidate q x l b ≡ true →
      (b.priority.level ≡ l) × (q.priority.level < l) × (b.priority.preemptable ≡ true) × (state_at b.place x ≡ Open) × (of_rab q.place q.rab b ≡ false)
  passes l b e =
      let a = eqb b.priority.level l in
      let c = ltb q.priority.level l in
      let d = b.priority.preemptable in
      let o = opened (state_at b.place x) in
      let n = not (of_rab q.place q.rab b) in
      let h = and_parts (a && c && d && o) n e in
      let i = and_parts (a && c && d) o h.0 in
      let j = and_parts (a && c) d i.0 in
      let k = and_parts a c j.0 in
      (eqb-true b.priority.level l k.0, ltb-true q.priority.level l k.1, j.1, open_state (state_at b.place x) i.1, not-true (of_rab q.place q.rab b) h.1)

  is_candidate : (l : ℕ) (b : Bearer) → MayGo q x b → b.priority.level ≡ l → candidate q x l b ≡ true
  is_candidate l b g e =
      let a = eqb b.priority.level l in
      let c = ltb q.priority.level l in
      let d = b.priority.preemptable in
      let o = opened (state_at b.place x) in
      let n = not (of_rab q.place q.rab b) in
      let w : q.priority.level < l = subst (λ z. q.priority.level < z) e g.larger in
      and_from (a && c && d && o) n
      (and_from (a && c && d) o (and_from (a && c) d (and_from a c (eq-eqb b.priority.level l e) (lt-ltb q.priority.level l w)) g.pre_emptable) (ap opened g.connected))
      (not_from_false (of_rab q.place q.rab b) (is_other q.place q.rab b g.other))

  -- one of a level
  here : (l : ℕ) (b : Bearer) → Among b (filter (candidate q x (suc l)) x.bearers) → Among b x.bearers × (b.priority.level ≡ suc l)
  here l b e = let h = among_kept (candidate q x (suc l)) b x.bearers e in (h.0, (passes (suc l) b h.1).0)

  only_from : (l : ℕ) (b : Bearer) → l ≤ 14 → Among b (candidates_from l q x) → MayGo q x b × (b.priority.level ≤ l)
  only_from zero b w e = absurd e
  only_from (suc l) b w e =
      ⊎_elim
      (λ now'.
      let h = among_kept (candidate q x (suc l)) b x.bearers now' in
      let k = passes (suc l) b h.1 in
      let s : b.priority.level ≡ suc l = k.0 in
      let u : q.priority.level < suc l = k.1 in
      (record { set_up = h.0; larger = omega arith; at_most = omega arith; pre_emptable = k.2; connected = k.3; other = not_same q.place q.rab b k.4 }, omega arith))
      (λ later. let h = only_from l b (omega arith) later in let s : b.priority.level ≤ l = h.1 in (h.0, omega arith))
      (among_append b (filter (candidate q x (suc l)) x.bearers) (candidates_from l q x) e)

  pub only_those : (b : Bearer) → Among b (candidates q x) → MayGo q x b
  only_those b e = (only_from 14 b (omega arith) e).0

  every_from : (l : ℕ) (b : Bearer) → MayGo q x b → b.priority.level ≤ l → Among b (candidates_from l q x)
  every_from zero b g w = let s = g.larger in absurd (omega arith)
  every_from (suc l) b g w =
      ⊎_elim
      (λ same. among_left b (filter (candidate q x (suc l)) x.bearers) (candidates_from l q x) (kept_among (candidate q x (suc l)) b x.bearers (is_candidate (suc l) b g same) g.set_up))
      (λ less. among_right b (filter (candidate q x (suc l)) x.bearers) (candidates_from l q x) (every_from l b g (grind (arith, nat_tests))))
      (cases_eq b.priority.level (suc l))

  pub every_one : (b : Bearer) → MayGo q x b → Among b (candidates q x)
  every_one b g = every_from 14 b g g.at_most

  order_from : (l : ℕ) (a b : Bearer) → l ≤ 14 → Earlier a b (candidates_from l q x) →
      (b.priority.level < a.priority.level) ⊎ ((a.priority.level ≡ b.priority.level) × Earlier a b x.bearers)
  order_from zero a b w e = absurd e
  order_from (suc l) a b w e =
      let ks = filter (candidate q x (suc l)) x.bearers in
      ⊎_elim
      (λ both.
      let h = earlier_kept (candidate q x (suc l)) a b x.bearers both in
      let k = earlier_both a b ks both in
      inr ((here l a k.0).1 ∙ sym (here l b k.1).1, h))
      (λ rest.
      ⊎_elim
      (λ apart.
      let s : a.priority.level ≡ suc l = (here l a apart.0).1 in
      let t : b.priority.level ≤ l = (only_from l b (omega arith) apart.1).1 in
      inl (omega arith))
      (λ later. order_from l a b (omega arith) later)
      rest)
      (earlier_append a b ks (candidates_from l q x) e)

  pub by_level : (a b : Bearer) → Earlier a b (candidates q x) → (b.priority.level < a.priority.level) ⊎ ((a.priority.level ≡ b.priority.level) × Earlier a b x.bearers)
  by_level a b e = order_from 14 a b (omega arith) e

-- in a table in order, what stands earlier is named before
heads_all : (a b : Bearer) (bs : List Bearer) → heads a bs ≡ true → ascending bs ≡ true → Among b bs → before a b ≡ true
heads_all a b [] h s e = absurd e
heads_all a b (c ∷ cs) h s e =
    ⊎_elim
    (λ same. ap (before a) same ∙ h)
    (λ later. let p = and_parts (heads c cs) (ascending cs) s in before_trans a c b h (heads_all c b cs p.0 p.1 later))
    e

in_order : (a b : Bearer) (bs : List Bearer) → ascending bs ≡ true → Earlier a b bs → before a b ≡ true
in_order a b [] s e = absurd e
in_order a b (c ∷ cs) s e =
    let p = and_parts (heads c cs) (ascending cs) s in
    ⊎_elim
    (λ at'. ap (λ z. before z b) at'.0 ∙ heads_all c b cs p.0 p.1 at'.1)
    (λ later. in_order a b cs p.1 later)
    e

named_so : (a b : Bearer) → before a b ≡ true → NamedBefore a b
named_so a b e =
    ⊎_elim
    (λ same. inr (same, grind (arith, nat_tests)))
    (λ other. inl (grind (arith, nat_tests)))
    (cases_eq a.place b.place)

pub by_name : {m : Radio} (q : Request) (x : State m) (a b : Bearer) → ascending x.bearers ≡ true → Earlier a b (candidates q x) →
    (b.priority.level < a.priority.level) ⊎ ((a.priority.level ≡ b.priority.level) × NamedBefore a b)
by_name q x a b s e = ⊎_elim (λ l. inl l) (λ r. inr (r.0, named_so a b (in_order a b x.bearers s r.1))) (by_level q x a b e)
