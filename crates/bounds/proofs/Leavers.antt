-- Requests that leave the queue: what is next waits, and the queue without it is shorter.
use Rattle.std.proofs.Common.{◌≡◌, ℕ, suc, ◌+◌, ◌<◌, ◌≤◌, Bool, true, false, cond, not, leb, ◌⊎◌, List, [], ◌∷◌, length, Some, None, filter, Option, refl, ap, subst, inl, inr, ⊎_elim, arith}
use Rattle.std.proofs.lemmas.Bool.Decides.{nat_tests}
use Rattle.rules.specs.Tables.{is_some, asks_for, waits_as, without_request}
use Rattle.rules.specs.Queue.{ahead, first_by_level}
use Rattle.rules.specs.declared.bearer.Request.{Request}

head_waits : (q : Request) (qs : List Request) → is_some (cond (asks_for q.place q.rab q) (Some q) (waits_as q.place q.rab qs)) ≡ true
head_waits q qs = let t : asks_for q.place q.rab q ≡ true = grind (arith, nat_tests) in ap (λ b. is_some (cond b (Some q) (waits_as q.place q.rab qs))) t

tail_waits : (b : Bool) (w : Request) (o : Option Request) → is_some o ≡ true → is_some (cond b (Some w) o) ≡ true
tail_waits true w o e = refl
tail_waits false w o e = e

-- what is ahead is one or the other
pub pick : (w q : Request) (o : Option Request) → ahead w o ≡ Some q → (w ≡ q) ⊎ (o ≡ Some q)
pick w q None e = inl (cc)
pick w q (Some v) e = at (leb w.priority.level v.priority.level) e
  where
    at : (t : Bool) → cond t (Some w) (Some v) ≡ Some q → (w ≡ q) ⊎ (Some v ≡ Some q)
    at true f = inl (cc)
    at false f = inr f

next_step : (test : Request → Bool) (w q : Request) (qs : List Request) (t : Bool) → first_by_level (cond t (w ∷ filter test qs) (filter test qs)) ≡ Some q →
    (first_by_level (filter test qs) ≡ Some q → is_some (waits_as q.place q.rab qs) ≡ true) → is_some (waits_as q.place q.rab (w ∷ qs)) ≡ true
next_step test w q qs true e ih =
    ⊎_elim
    (λ same. subst (λ z. is_some (waits_as z.place z.rab (w ∷ qs)) ≡ true) same (head_waits w qs))
    (λ later. tail_waits (asks_for q.place q.rab w) w (waits_as q.place q.rab qs) (ih later))
    (pick w q (first_by_level (filter test qs)) e)
next_step test w q qs false e ih = tail_waits (asks_for q.place q.rab w) w (waits_as q.place q.rab qs) (ih e)

-- what is next waits
pub next_waits : (test : Request → Bool) (q : Request) (qs : List Request) → first_by_level (filter test qs) ≡ Some q → is_some (waits_as q.place q.rab qs) ≡ true
next_waits test q [] e = let z : ◌≡◌ {A = ℕ} 0 1 = cc in absurd (omega arith)
next_waits test q (w ∷ qs) e = next_step test w q qs (test w) e (next_waits test q qs)

shorter_step : (p r : ℕ) (w : Request) (qs : List Request) (t : Bool) → is_some (cond t (Some w) (waits_as p r qs)) ≡ true →
    (is_some (waits_as p r qs) ≡ true → length (without_request p r qs) < length qs) → length (cond t qs (w ∷ without_request p r qs)) < suc (length qs)
shorter_step p r w qs true e ih = omega arith
shorter_step p r w qs false e ih = let i = ih e in omega arith

-- the queue without one that waits is shorter
pub shorter : (p r : ℕ) (qs : List Request) → is_some (waits_as p r qs) ≡ true → length (without_request p r qs) < length qs
shorter p r [] e = let z : ◌≡◌ {A = ℕ} 0 1 = cc in absurd (omega arith)
shorter p r (w ∷ qs) e = shorter_step p r w qs (asks_for p r w) e (shorter p r qs)

-- what passes and what does not are all
pub kept_both : {X : Type 0} (test : X → Bool) (xs : List X) → length (filter test xs) + length (filter (λ a. not (test a)) xs) ≡ length xs
kept_both test [] = omega arith
kept_both test (a ∷ as') = at (test a) (kept_both test as')
  where
    at : (t : Bool) → length (filter test as') + length (filter (λ a. not (test a)) as') ≡ length as' →
        length (cond t (a ∷ filter test as') (filter test as')) + length (cond (not t) (a ∷ filter (λ a. not (test a)) as') (filter (λ a. not (test a)) as')) ≡ suc (length as')
    at true ih = omega arith
    at false ih = omega arith

pub kept_few : {X : Type 0} (test : X → Bool) (xs : List X) → length (filter test xs) ≤ length xs
kept_few test xs = let k = kept_both test xs in omega arith
