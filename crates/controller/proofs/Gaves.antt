-- One part of the controller after another, and loops of such parts.
use Rattle.std.proofs.Common.{◌≡◌, ℕ, ◌+◌, ◌<◌, ◌≤◌, Bool, true, false, cond, filter, List, [], ◌∷◌, ◌++◌, length, get_or, drop, sym, refl, ap, ◌∙◌, subst}
use Rattle.controller.specs.Gave.{Gave}
use Rattle.controller.specs.Page.{Page, page_of, write, write_all, Wrote}
use Rattle.controller.specs.declared.writing.Sheet.{Sheet}
use Rattle.rules.specs.Radio.{Radio}
use Rattle.rules.specs.State.{State, Outcome, silent, then, each}
use Rattle.rules.specs.declared.report.Report.{Report}
use Rattle.std.proofs.lemmas.List.{at_drop_more, at_drop_all}

pub write_append : (rs qs : List Report) (p : Page) → write_all (rs ++ qs) p ≡ write_all qs (write_all rs p)
write_append [] qs p = refl
write_append (r ∷ rs) qs p = write_append rs qs (write r p)

-- reports, then others
pub wrote_then : (rs qs : List Report) {s s₁ s₂ : Sheet} → Wrote rs s s₁ → Wrote qs s₁ s₂ → Wrote (rs ++ qs) s s₂
wrote_then rs qs {s} a b = record { page = b.page ∙ ap (write_all qs) a.page ∙ sym (write_append rs qs (page_of s)); same = b.same ∙ a.same }

-- what is still to be written from here leads to what the whole writes
pub record Leads (rs : List Report) (s : Sheet) (whole : List Report) (start : Sheet) : Type 0 where
  pub page : write_all rs (page_of s) ≡ write_all whole (page_of start)
  pub same : s.reports.ghost_name ≡ start.reports.ghost_name

-- some of it is written
pub leads_then : (rs qs : List Report) {s s₁ start : Sheet} {whole : List Report} → Leads (rs ++ qs) s whole start → Wrote rs s s₁ → Leads qs s₁ whole start
leads_then rs qs {s} l w = record { page = ap (write_all qs) w.page ∙ sym (write_append rs qs (page_of s)) ∙ l.page; same = w.same ∙ l.same }

-- nothing is left to write
pub leads_end : {s start : Sheet} {whole : List Report} → Leads [] s whole start → Wrote whole start s
leads_end l = record { page = l.page; same = l.same }

module _ {m : Radio} where
  -- one part, then another from the state that it left
  pub gave_then : {o : Outcome m} (f : State m → Outcome m) {y z : State m} {s s₁ s₂ : Sheet} → Gave o y s s₁ → Gave (f y) z s₁ s₂ → Gave (then o f) z s s₂
  gave_then {o} f {y} {z} {s} {s₁} {s₂} a b = record {
    state = b.state ∙ ap (λ w. (f w).state) a.state;
    wrote = wrote_then o.reports (f o.state).reports a.wrote (subst (λ w. Wrote (f w).reports s₁ s₂) a.state b.wrote);
  }

  -- the same outcome under another name
  pub gave_as : {o o' : Outcome m} {y : State m} {s s₁ : Sheet} → o ≡ o' → Gave o y s s₁ → Gave o' y s s₁
  gave_as {o} {o'} {y} {s} {s₁} e a = subst (λ w. Gave w y s s₁) e a

  -- what is still to do from here leads to the outcome of the whole
  pub record Toward (o : Outcome m) (s : Sheet) (whole : Outcome m) (start : Sheet) : Type 0 where
    pub state : o.state ≡ whole.state
    pub leads : Leads o.reports s whole.reports start

  -- a part is done
  pub toward_then : {o : Outcome m} (f : State m → Outcome m) {y : State m} {s s₁ start : Sheet} {whole : Outcome m} → Toward (then o f) s whole start → Gave o y s s₁ → Toward (f y) s₁ whole start
  toward_then {o} f {y} {s} {s₁} {start} {whole} t a = record {
    state = ap (λ w. (f w).state) a.state ∙ t.state;
    leads = subst (λ w. Leads (f w).reports s₁ whole.reports start) (sym a.state) (leads_then o.reports (f o.state).reports t.leads a.wrote);
  }

  -- nothing is left to do
  pub toward_end : {x : State m} {s start : Sheet} {whole : Outcome m} → Toward (silent x) s whole start → Gave whole x start s
  toward_end t = record { state = t.state; wrote = leads_end t.leads }

  pub toward_as : {o o' : Outcome m} {s start : Sheet} {whole : Outcome m} → o ≡ o' → Toward o s whole start → Toward o' s whole start
  toward_as {o} {o'} {s} {start} {whole} e t = subst (λ w. Toward w s whole start) e t

  -- of a list, those that pass a test: one of them is done
  pub toward_picked : {X : Type 0} (F : X → State m → Outcome m) (test : X → Bool) (xs : List X) (i : ℕ) (d : X) (x : State m) {y : State m} {s s₁ start : Sheet} {whole : Outcome m} → i < length xs → test (get_or xs i d) ≡ true →
      Toward (each F (filter test (drop i xs)) x) s whole start → Gave (F (get_or xs i d) x) y s s₁ → Toward (each F (filter test (drop (i + 1) xs)) y) s₁ whole start
  toward_picked F test xs i d x {y} {s} {s₁} {start} {whole} l on t a =
      let rest = filter test (drop (i + 1) xs) in
      let e = at_drop_more (λ ys. each F (filter test ys) x) xs i d l ∙ ap (λ b. each F (cond b (get_or xs i d ∷ rest) rest) x) on in
      toward_then {o = F (get_or xs i d) x} (each F rest) (toward_as e t) a

  -- one that does not pass is left out
  pub toward_passed : {X : Type 0} (F : X → State m → Outcome m) (test : X → Bool) (xs : List X) (i : ℕ) (d : X) (x : State m) {s start : Sheet} {whole : Outcome m} → i < length xs → test (get_or xs i d) ≡ false →
      Toward (each F (filter test (drop i xs)) x) s whole start → Toward (each F (filter test (drop (i + 1) xs)) x) s whole start
  toward_passed F test xs i d x l off t =
      let rest = filter test (drop (i + 1) xs) in
      toward_as (at_drop_more (λ ys. each F (filter test ys) x) xs i d l ∙ ap (λ b. each F (cond b (get_or xs i d ∷ rest) rest) x) off) t

  -- all of them are done
  pub toward_picked_end : {X : Type 0} (F : X → State m → Outcome m) (test : X → Bool) (xs : List X) (i : ℕ) (x : State m) {s start : Sheet} {whole : Outcome m} → length xs ≤ i →
      Toward (each F (filter test (drop i xs)) x) s whole start → Gave whole x start s
  toward_picked_end F test xs i x l t = toward_end (toward_as (at_drop_all (λ ys. each F (filter test ys) x) xs i l) t)
