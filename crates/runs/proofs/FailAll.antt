-- All waiting requests that pass a test fail.
use Rattle.std.proofs.Common.{◌≡◌, ℕ, ◌+◌, Bool, true, false, cond, not, eqb, List, [], ◌∷◌, map, Some, None, filter, Option, sym, refl, ap, ◌∙◌, subst, ⊎_elim, arith}
use Rattle.std.proofs.lemmas.Bool.Decides.{nat_tests}
use Rattle.rules.specs.Radio.{Radio}
use Rattle.rules.specs.State.{State}
use Rattle.rules.specs.Tables.{is_some, asks_for, waits_as}
use Rattle.rules.specs.Numbers.{cause_number}
use Rattle.rules.specs.Actions.{failed, fail_all}
use Rattle.rules.specs.declared.bearer.Request.{Request}
use Rattle.rules.specs.declared.item.ReadItem.{ReadItem}
use Rattle.rules.specs.declared.report.Cause.{Cause}
use Rattle.bearers.proofs.Waiting.{Apart, key_cases}
use Rattle.bearers.proofs.Known.{fewer_kept}
use Rattle.runs.specs.Ledger.{Ledger, take_reports, settle, deny, asked_at, trades_down}
use Rattle.runs.proofs.Agrees.{size_waited}
use Rattle.runs.proofs.Fed.{Stands}

-- something that passes
abbrev pub if_passes : (Request → Bool) → Option Request → Option Request
if_passes test None = None
if_passes test (Some q) = cond (test q) (Some q) None

kept_step : (test : Request → Bool) (k j : ℕ) (q : Request) (qs : List Request) (s t : Bool) → asks_for k j q ≡ s → test q ≡ t → waits_as q.place q.rab qs ≡ None →
    waits_as k j (filter test qs) ≡ if_passes test (waits_as k j qs) →
    waits_as k j (cond t (q ∷ filter test qs) (filter test qs)) ≡ if_passes test (cond s (Some q) (waits_as k j qs))
kept_step test k j q qs true true e f none ih = ap (λ z. cond z (Some q) (waits_as k j (filter test qs))) e ∙ sym (ap (λ z. cond z (Some q) None) f)
kept_step test k j q qs true false e f none ih =
    let ep : q.place ≡ k = grind (arith, nat_tests) in
    let er : q.rab ≡ j = grind (arith, nat_tests) in
    let n : waits_as k j qs ≡ None = subst (λ z. waits_as z j qs ≡ None) ep (subst (λ z. waits_as q.place z qs ≡ None) er none) in
    ih ∙ ap (if_passes test) n ∙ sym (ap (λ z. cond z (Some q) None) f)
kept_step test k j q qs false true e f none ih = ap (λ z. cond z (Some q) (waits_as k j (filter test qs))) e ∙ ih
kept_step test k j q qs false false e f none ih = ih

-- who waits among those that pass
pub waits_kept : (test : Request → Bool) (k j : ℕ) (qs : List Request) → Apart qs → waits_as k j (filter test qs) ≡ if_passes test (waits_as k j qs)
waits_kept test k j [] ok = refl
waits_kept test k j (q ∷ qs) ok = kept_step test k j q qs (asks_for k j q) (test q) refl refl ok.0 (waits_kept test k j qs ok.1)

apart_step : (test : Request → Bool) (q : Request) (qs : List Request) (t : Bool) → Apart (q ∷ qs) → Apart (filter test qs) → Apart (cond t (q ∷ filter test qs) (filter test qs))
apart_step test q qs true ok ih = (waits_kept test q.place q.rab qs ok.1 ∙ ap (if_passes test) ok.0, ih)
apart_step test q qs false ok ih = ih

pub apart_kept : (test : Request → Bool) (qs : List Request) → Apart qs → Apart (filter test qs)
apart_kept test [] ok = tt
apart_kept test (q ∷ qs) ok = apart_step test q qs (test q) ok (apart_kept test qs ok.1)

-- what the book has after so many have failed
record After (ws : List Request) (l l' : Ledger) : Type 0 where
  requests : (k j : ℕ) → l'.requests k j ≡ l.requests k j
  outcomes : (k j : ℕ) → l'.outcomes k j ≡ l.outcomes k j + cond (is_some (waits_as k j ws)) 1 0
  waiting : (k j : ℕ) → l'.waiting k j ≡ cond (is_some (waits_as k j ws)) None (l.waiting k j)
  bearing : (k j : ℕ) → l'.bearing k j ≡ l.bearing k j
  used : (g : ℕ) → l'.used g ≡ l.used g
  denied : l'.denied ≡ l.denied

module _ (fp : ℕ) (is : List ReadItem) (c : Cause) (other : eqb (cause_number c) 6 ≡ false) where
  after_all : (ws : List Request) (l : Ledger) → Apart ws → After ws l (take_reports fp is (map (failed c) ws) l)
  after_all [] l ok = record { requests = λ _ _. refl; outcomes = λ k j. omega arith; waiting = λ _ _. refl; bearing = λ _ _. refl; used = λ _. refl; denied = refl }
  after_all (w ∷ ws) l ok =
      let n = cond (eqb (cause_number c) 6) (trades_down (l.bearing w.place w.rab) (asked_at fp w.rab w.place is)) 0 in
      let none : n ≡ 0 = ap (λ t. cond {A = ℕ} t (trades_down (l.bearing w.place w.rab) (asked_at fp w.rab w.place is)) 0) other in
      let a = after_all ws (settle w.place w.rab (deny n l)) ok.1 in
      record {
        requests = a.requests;
        outcomes = λ k j.
            let b = a.outcomes k j in
            ⊎_elim
            (λ same.
            let e : waits_as k j ws ≡ None = ap (λ z. waits_as z j ws) same.0 ∙ ap (λ z. waits_as w.place z ws) same.1 ∙ ok.0 in
            let f : is_some (waits_as k j ws) ≡ false = ap is_some e in
            let g : asks_for k j w ≡ true = grind (arith, nat_tests) in
            let h : is_some (waits_as k j (w ∷ ws)) ≡ true = ap (λ t. is_some (cond t (Some w) (waits_as k j ws))) g in
            let i : l.outcomes k j ≡ l.outcomes w.place w.rab = ap (λ z. l.outcomes z j) same.0 ∙ ap (l.outcomes w.place) same.1 in
            grind (arith, nat_tests))
            (λ off.
            let g : asks_for k j w ≡ false = grind (arith, nat_tests) in
            let h : is_some (waits_as k j (w ∷ ws)) ≡ is_some (waits_as k j ws) = ap (λ t. is_some (cond t (Some w) (waits_as k j ws))) g in
            grind (arith, nat_tests))
            (key_cases w.place w.rab k j);
        waiting = λ k j.
            let b = a.waiting k j in
            ⊎_elim
            (λ same.
            let g : asks_for k j w ≡ true = grind (arith, nat_tests) in
            let h : is_some (waits_as k j (w ∷ ws)) ≡ true = ap (λ t. is_some (cond t (Some w) (waits_as k j ws))) g in
            grind (arith, nat_tests))
            (λ off.
            let g : asks_for k j w ≡ false = grind (arith, nat_tests) in
            let h : is_some (waits_as k j (w ∷ ws)) ≡ is_some (waits_as k j ws) = ap (λ t. is_some (cond t (Some w) (waits_as k j ws))) g in
            grind (arith, nat_tests))
            (key_cases w.place w.rab k j);
        bearing = a.bearing;
        used = a.used;
        denied = let s = a.denied in omega arith;
      }

-- whoever waited has failed or waits still
waits_split : (test : Request → Bool) (o : Option Request) → cond (is_some (if_passes test o)) None (size_waited o) ≡ size_waited (if_passes (λ q. not (test q)) o)
waits_split test None = refl
waits_split test (Some q) = at (test q)
  where
    at : (t : Bool) → cond (is_some (cond t (Some q) None)) None (Some q.size) ≡ size_waited (cond (not t) (Some q) None)
    at true = refl
    at false = refl

one_split : (test : Request → Bool) (o : Option Request) → ◌≡◌ {A = ℕ} (cond (is_some (size_waited o)) 1 0) (cond (is_some (if_passes test o)) 1 0 + cond (is_some (cond (is_some (if_passes test o)) None (size_waited o))) 1 0)
one_split test None = refl
one_split test (Some q) = at (test q)
  where
    at : (t : Bool) → ◌≡◌ {A = ℕ} 1 (cond (is_some (cond t (Some q) None)) 1 0 + cond (is_some (cond (is_some (cond t (Some q) None)) None (Some q.size))) 1 0)
    at true = refl
    at false = refl

module _ {m : Radio} (fp : ℕ) (is : List ReadItem) (todo : ℕ → ℕ → ℕ) (c : Cause) (other : eqb (cause_number c) 6 ≡ false) (test : Request → Bool) where
  pub kept_fail_all : (l : Ledger) (x : State m) → Stands todo l x → Stands todo (take_reports fp is (fail_all c test x).reports l) (fail_all c test x).state
  kept_fail_all l x s =
      let ok = s.agrees.apart in
      let a = after_all fp is c other (filter test x.queue) l (apart_kept test x.queue ok) in
      let l' = take_reports fp is (fail_all c test x).reports l in
      let w : (k j : ℕ) → l'.waiting k j ≡ cond (is_some (if_passes test (waits_as k j x.queue))) None (size_waited (waits_as k j x.queue)) =
      λ k j. a.waiting k j ∙ ap (λ o. cond (is_some o) None (l.waiting k j)) (waits_kept test k j x.queue ok) ∙ ap (λ o. cond (is_some (if_passes test (waits_as k j x.queue))) None o) (s.agrees.waiting k j) in
      record {
        agrees = record {
          counts = λ k j.
              let n = s.agrees.counts k j in
              let r = a.requests k j in
              let o = a.outcomes k j in
              let e : ◌≡◌ {A = ℕ} (cond (is_some (waits_as k j (filter test x.queue))) 1 0) (cond (is_some (if_passes test (waits_as k j x.queue))) 1 0) = ap (λ o. cond {A = ℕ} (is_some o) 1 0) (waits_kept test k j x.queue ok) in
              let f : ◌≡◌ {A = ℕ} (cond (is_some (l'.waiting k j)) 1 0) (cond (is_some (cond (is_some (if_passes test (waits_as k j x.queue))) None (size_waited (waits_as k j x.queue)))) 1 0) =
              ap (λ o. cond {A = ℕ} (is_some o) 1 0) (w k j) in
              let g : ◌≡◌ {A = ℕ} (cond (is_some (l.waiting k j)) 1 0) (cond (is_some (size_waited (waits_as k j x.queue))) 1 0) = ap (λ o. cond {A = ℕ} (is_some o) 1 0) (s.agrees.waiting k j) in
              let h = one_split test (waits_as k j x.queue) in
              omega arith;
          waiting = λ k j. w k j ∙ waits_split test (waits_as k j x.queue) ∙ ap size_waited (sym (waits_kept (λ q. not (test q)) k j x.queue ok));
          bearing = λ k j. a.bearing k j ∙ s.agrees.bearing k j;
          used = λ g. a.used g ∙ s.agrees.used g;
          undenied = a.denied ∙ s.agrees.undenied;
          apart = apart_kept (λ q. not (test q)) x.queue ok;
          well = s.agrees.well;
          sound = s.agrees.sound;
          held = s.agrees.held;
        };
        few = let f = fewer_kept x.bearers (λ q. not (test q)) x.queue in let g = s.few in omega arith;
        idle = λ k j e. waits_kept (λ q. not (test q)) k j x.queue ok ∙ ap (if_passes (λ q. not (test q))) (s.idle k j e);
      }
