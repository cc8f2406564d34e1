-- The first by level, then arrival, of those that pass a test.
use Rattle.std.proofs.Common.{◌≡◌, ℕ, ◌<◌, ◌≤◌, Bool, true, false, cond, leb, ◌⊎◌, List, [], ◌∷◌, ◌++◌, Some, None, filter, Option, sym, refl, ap, ◌∙◌, subst, ⊎_elim, arith}
use Rattle.std.proofs.lemmas.Bool.{leb-true, leb-false}
use Rattle.rules.specs.Queue.{ahead, first_by_level}
use Rattle.rules.specs.declared.bearer.Request.{Request}
use Rattle.laws.specs.Lists.{Among}
use Rattle.laws.proofs.Standing.{among_append}

-- one of a list, with what stands before it and what behind it
pub record Leads (test : Request → Bool) (qs : List Request) (q : Request) : Type 0 where
  pub came_before : List Request
  pub came_behind : List Request
  pub waits : qs ≡ came_before ++ q ∷ came_behind
  pub fits : test q ≡ true
  pub before : (w : Request) → Among w came_before → test w ≡ true → q.priority.level < w.priority.level
  pub behind : (w : Request) → Among w came_behind → test w ≡ true → q.priority.level ≤ w.priority.level

-- none has a smaller level number
leads_all : (test : Request → Bool) (qs : List Request) (q w : Request) → Leads test qs q → Among w qs → test w ≡ true → q.priority.level ≤ w.priority.level
leads_all test qs q w l a t =
    ⊎_elim
    (λ front. let h = l.before w front t in omega arith)
    (λ rest. ⊎_elim (λ same. let h : w.priority.level ≡ q.priority.level = ap (λ z. z.priority.level) same in omega arith) (λ later. l.behind w later t) rest)
    (among_append w l.came_before (q ∷ l.came_behind) (subst (Among w) l.waits a))

-- one that does not pass, or passes with a larger number, comes before
one_before : (test : Request → Bool) (v q : Request) (qs : List Request) → Leads test qs q → (test v ≡ true → q.priority.level < v.priority.level) → Leads test (v ∷ qs) q
one_before test v q qs l h = record {
  came_before = v ∷ l.came_before;
  came_behind = l.came_behind;
  waits = ap (λ zs. v ∷ zs) l.waits;
  fits = l.fits;
  before = λ w a t. ⊎_elim (λ same. subst (λ z. q.priority.level < z.priority.level) (sym same) (h (sym (ap test same) ∙ t))) (λ later. l.before w later t) a;
  behind = l.behind;
}

-- one that passes, and none behind it with a smaller number
one_first : (test : Request → Bool) (v : Request) (qs : List Request) → test v ≡ true → ((w : Request) → Among w qs → test w ≡ true → v.priority.level ≤ w.priority.level) → Leads test (v ∷ qs) v
one_first test v qs t h = record { came_before = []; came_behind = qs; waits = refl; fits = t; before = λ w a u. absurd a; behind = h }

ahead_some : (q : Request) (o : Option Request) → ahead q o ≡ None → ⊥
ahead_some q None e = let z : ◌≡◌ {A = ℕ} 0 1 = cc in omega arith
ahead_some q (Some w) e = at (leb q.priority.level w.priority.level) e
  where
    at : (t : Bool) → cond t (Some q) (Some w) ≡ None → ⊥
    at true f = let z : ◌≡◌ {A = ℕ} 0 1 = cc in omega arith
    at false f = let z : ◌≡◌ {A = ℕ} 0 1 = cc in omega arith

none_step : (test : Request → Bool) (v w : Request) (qs : List Request) (t : Bool) → test v ≡ t → first_by_level (cond t (v ∷ filter test qs) (filter test qs)) ≡ None →
    (first_by_level (filter test qs) ≡ None → Among w qs → test w ≡ false) → (w ≡ v) ⊎ Among w qs → test w ≡ false
none_step test v w qs true e f ih a = absurd (ahead_some v (first_by_level (filter test qs)) f)
none_step test v w qs false e f ih a = ⊎_elim (λ same. ap test same ∙ e) (ih f) a

-- none is first, so none passes
pub none_passes : (test : Request → Bool) (w : Request) (qs : List Request) → first_by_level (filter test qs) ≡ None → Among w qs → test w ≡ false
none_passes test w [] e a = absurd a
none_passes test w (v ∷ qs) e a = none_step test v w qs (test v) refl e (none_passes test w qs) a

no_both : (b : Bool) → b ≡ true → b ≡ false → ⊥
no_both b e f = let z : ◌≡◌ {A = ℕ} 0 1 = cc in omega arith

some_step : (test : Request → Bool) (v q : Request) (qs : List Request) (o : Option Request) → test v ≡ true → ahead v o ≡ Some q →
    (o ≡ None → (w : Request) → Among w qs → test w ≡ false) → ((w : Request) → o ≡ Some w → Leads test qs w) → Leads test (v ∷ qs) q
some_step test v q qs None t e none some =
    let s : v ≡ q = cc in subst (Leads test (v ∷ qs)) s (one_first test v qs t (λ w a u. absurd (no_both (test w) u (none refl w a))))
some_step test v q qs (Some w) t e none some = at (leb v.priority.level w.priority.level) refl e
  where
    at : (k : Bool) → leb v.priority.level w.priority.level ≡ k → cond k (Some v) (Some w) ≡ Some q → Leads test (v ∷ qs) q
    at true f g =
        let s : v ≡ q = cc in
        let l = leb-true v.priority.level w.priority.level f in
        subst (Leads test (v ∷ qs)) s (one_first test v qs t (λ u a p. let h = leads_all test qs w u (some w refl) a p in omega arith))
    at false f g = let s : w ≡ q = cc in let l = leb-false v.priority.level w.priority.level f in subst (Leads test (v ∷ qs)) s (one_before test v w qs (some w refl) (λ _. omega arith))

lead_step : (test : Request → Bool) (v q : Request) (qs : List Request) (t : Bool) → test v ≡ t → first_by_level (cond t (v ∷ filter test qs) (filter test qs)) ≡ Some q →
    ((w : Request) → first_by_level (filter test qs) ≡ Some w → Leads test qs w) → Leads test (v ∷ qs) q
lead_step test v q qs true e f ih = some_step test v q qs (first_by_level (filter test qs)) e f (λ none w a. none_passes test w qs none a) ih
lead_step test v q qs false e f ih = one_before test v q qs (ih q f) (λ t. absurd (no_both (test v) t e))

pub leads : (test : Request → Bool) (q : Request) (qs : List Request) → first_by_level (filter test qs) ≡ Some q → Leads test qs q
leads test q [] e = let z : ◌≡◌ {A = ℕ} 0 1 = cc in absurd (omega arith)
leads test q (v ∷ qs) e = lead_step test v q qs (test v) refl e (λ w f. leads test w qs f)
