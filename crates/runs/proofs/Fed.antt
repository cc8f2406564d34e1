-- The book fed with the reports of one thing after another, and ledgers that tell the same.
use Rattle.std.proofs.Common.{◌≡◌, ℕ, ◌+◌, ◌≤◌, cond, List, [], ◌∷◌, ◌++◌, sym, refl, ap, ◌∙◌, subst, arith}
use Rattle.rules.specs.Radio.{Radio}
use Rattle.rules.specs.State.{State, Outcome, then}
use Rattle.rules.specs.Tables.{is_some}
use Rattle.rules.specs.Checks.{known}
use Rattle.rules.specs.declared.item.ReadItem.{ReadItem}
use Rattle.rules.specs.declared.report.Report.{Report}
use Rattle.runs.specs.Ledger.{Ledger, take_reports, take_kind, asked_at}
use Rattle.runs.proofs.Few.{Idle}
use Rattle.runs.proofs.Agrees.{Agrees}

pub take_append : (fp : ℕ) (is : List ReadItem) (rs ss : List Report) (l : Ledger) → take_reports fp is (rs ++ ss) l ≡ take_reports fp is ss (take_reports fp is rs l)
take_append fp is [] ss l = refl
take_append fp is (r ∷ rs) ss l = take_append fp is rs ss (take_kind r.kind r (asked_at fp r.rab r.place is) l)

-- one thing after the other: what the second makes of what the first has made
pub fed_then : {m : Radio} (fp : ℕ) (is : List ReadItem) (P : Ledger → State m → Type 0) (l : Ledger) (o : Outcome m) (f : State m → Outcome m) →
    P (take_reports fp is (f o.state).reports (take_reports fp is o.reports l)) (f o.state).state → P (take_reports fp is (then o f).reports l) (then o f).state
fed_then fp is P l o f h = subst (λ k. P k (f o.state).state) (sym (take_append fp is o.reports (f o.state).reports l)) h

-- two ledgers that tell the same
pub record Like (l l' : Ledger) : Type 0 where
  pub requests : (p r : ℕ) → l.requests p r ≡ l'.requests p r
  pub outcomes : (p r : ℕ) → l.outcomes p r ≡ l'.outcomes p r
  pub waiting : (p r : ℕ) → l.waiting p r ≡ l'.waiting p r
  pub bearing : (p r : ℕ) → l.bearing p r ≡ l'.bearing p r
  pub used : (g : ℕ) → l.used g ≡ l'.used g
  pub denied : l.denied ≡ l'.denied

module _ {m : Radio} (todo : ℕ → ℕ → ℕ) (l l' : Ledger) (x : State m) (a : Agrees todo l x) where
  pub agrees_like : Like l l' → Agrees todo l' x
  agrees_like e = record {
    counts = λ p r.
        let n = a.counts p r in
        let f = e.requests p r in
        let g = e.outcomes p r in
        let h : ◌≡◌ {A = ℕ} (cond (is_some (l.waiting p r)) 1 0) (cond (is_some (l'.waiting p r)) 1 0) = ap (λ o. cond {A = ℕ} (is_some o) 1 0) (e.waiting p r) in
        omega arith;
    waiting = λ p r. sym (e.waiting p r) ∙ a.waiting p r;
    bearing = λ p r. sym (e.bearing p r) ∙ a.bearing p r;
    used = λ g. sym (e.used g) ∙ a.used g;
    undenied = sym e.denied ∙ a.undenied;
    apart = a.apart;
    well = a.well;
    sound = a.sound;
    held = a.held;
  }

-- other requests, outcomes and items to come, where all else is the same
pub agrees_recounted : {m : Radio} (todo todo' requests outcomes : ℕ → ℕ → ℕ) (l : Ledger) (x : State m) → Agrees todo l x →
    ((p r : ℕ) → requests p r ≡ outcomes p r + cond (is_some (l.waiting p r)) 1 0 + todo' p r) →
    Agrees todo' (record { requests = requests; outcomes = outcomes; waiting = l.waiting; bearing = l.bearing; used = l.used; denied = l.denied }) x
agrees_recounted todo todo' requests outcomes l x a e = record {
  counts = e;
  waiting = a.waiting;
  bearing = a.bearing;
  used = a.used;
  undenied = a.undenied;
  apart = a.apart;
  well = a.well;
  sound = a.sound;
  held = a.held;
}

-- the same number of items to come
pub agrees_todo : {m : Radio} (todo todo' : ℕ → ℕ → ℕ) (l : Ledger) (x : State m) → Agrees todo l x → ((p r : ℕ) → todo p r ≡ todo' p r) → Agrees todo' l x
agrees_todo todo todo' l x a e = agrees_recounted todo todo' l.requests l.outcomes l x a (λ p r. let n = a.counts p r in let f = e p r in omega arith)

-- book and state agree, at most 64 RABs are known, and none waits on a place that is not open
pub record Stands {m : Radio} (todo : ℕ → ℕ → ℕ) (l : Ledger) (x : State m) : Type 0 where
  pub agrees : Agrees todo l x
  pub few : known x ≤ 64
  pub idle : Idle x
