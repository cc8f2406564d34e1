-- Who is served next waits; it leaves the queue, and may be set up.
use Rattle.std.proofs.Common.{◌≡◌, ℕ, zero, suc, ◌+◌, ◌<◌, Bool, true, false, cond, ◌||◌, ltb, leb, ◌⊎◌, List, [], ◌∷◌, length, get_or, Some, None, filter, Option, sym, refl, ap, ◌∙◌, inl, inr, ⊎_elim, arith}
use Rattle.bearers.proofs.Known.{one_fewer}
use Rattle.bearers.proofs.Waiting.{apart_from, gone_without}
use Rattle.bearers.specs.Order.{level_good, bearers_good, requests_good}
use Rattle.controller.proofs.Readies.{Ordered}
use Rattle.controller.specs.Turn.{Waitable}
use Rattle.rules.specs.Preemption.{own, admitted}
use Rattle.rules.specs.Queue.{ahead, first_by_level, next, serve_one, serve_up_to}
use Rattle.rules.specs.Radio.{Radio}
use Rattle.rules.specs.Request.{free_own, done}
use Rattle.rules.specs.State.{State, silent, then, at_queue}
use Rattle.rules.specs.Tables.{is_some, asks_for, set_up_as, waits_as, without_request, known_in}
use Rattle.rules.specs.declared.bearer.Bearer.{Bearer}
use Rattle.rules.specs.declared.bearer.Request.{Request}
use Rattle.std.proofs.lemmas.Bool.{and_parts, lt-ltb, or_right}
use Rattle.std.proofs.lemmas.Bool.Decides.{nat_tests}

-- a request stands in a list
abbrev pub In : Request → List Request → Type 0
In q [] = ⊥
In q (a ∷ as') = (a ≡ q) ⊎ In q as'

ahead_in : (a q : Request) (as' : List Request) (o : Option Request) → ((w : Request) → o ≡ Some w → In w as') → ahead a o ≡ Some q → In q (a ∷ as')
ahead_in a q as' None f e = let s : a ≡ q = cc in inl s
ahead_in a q as' (Some w) f e = at (leb a.priority.level w.priority.level) e
  where
    at : (t : Bool) → cond t (Some a) (Some w) ≡ Some q → In q (a ∷ as')
    at true h = let s : a ≡ q = cc in inl s
    at false h = inr (f q h)

first_in : (qs : List Request) (q : Request) → first_by_level qs ≡ Some q → In q qs
first_in [] q e = cc
first_in (a ∷ as') q e = ahead_in a q as' (first_by_level as') (first_in as') e

kept_in_step : (test : Request → Bool) (a q : Request) (as' : List Request) (t : Bool) → (In q (filter test as') → In q as') → In q (cond t (a ∷ filter test as') (filter test as')) → In q (a ∷ as')
kept_in_step test a q as' true f h = ⊎_elim inl (λ k. inr (f k)) h
kept_in_step test a q as' false f h = inr (f h)

kept_in : (test : Request → Bool) (qs : List Request) (q : Request) → In q (filter test qs) → In q qs
kept_in test [] q h = h
kept_in test (a ∷ as') q h = kept_in_step test a q as' (test a) (kept_in test as' q) h

-- the next is one of the queue
pub next_in : {m : Radio} (x : State m) (q : Request) → next x ≡ Some q → In q x.queue
unfolding next
next_in x q e = kept_in (admitted x) x.queue q (first_in (filter (admitted x) x.queue) q e)

-- so it waits, and its level is in range
own_asks : (q : Request) → asks_for q.place q.rab q ≡ true
own_asks q = grind (arith, nat_tests)

waits_step : (p r : ℕ) (a : Request) (as' : List Request) (t : Bool) → is_some (waits_as p r as') ≡ true → is_some (cond t (Some a) (waits_as p r as')) ≡ true
waits_step p r a as' true e = refl
waits_step p r a as' false e = e

pub in_waits : (qs : List Request) (q : Request) → In q qs → is_some (waits_as q.place q.rab qs) ≡ true
in_waits [] q h = elim h [ ]
in_waits (a ∷ as') q (inl e) = ap (λ t. is_some (cond t (Some a) (waits_as q.place q.rab as'))) (ap (asks_for q.place q.rab) e ∙ own_asks q)
in_waits (a ∷ as') q (inr h) = waits_step q.place q.rab a as' (asks_for q.place q.rab a) (in_waits as' q h)

at_in : (qs : List Request) (q : Request) (i : ℕ) → i < length qs → get_or qs i q ≡ q → In q qs
at_in [] q i l e = absurd (omega (arith, l))
at_in (a ∷ as') q zero l e = inl e
at_in (a ∷ as') q (suc i) l e = inr (at_in as' q i (omega (arith, l)) e)

pub at_waits : (qs : List Request) (q : Request) (i : ℕ) → i < length qs → get_or qs i q ≡ q → is_some (waits_as q.place q.rab qs) ≡ true
at_waits qs q i l e = in_waits qs q (at_in qs q i l e)

in_good : (qs : List Request) (q : Request) → requests_good qs ≡ true → In q qs → level_good q.priority ≡ true
in_good [] q g h = elim h [ ]
in_good (a ∷ as') q g (inl e) = ap (λ w. level_good w.priority) (sym e) ∙ (and_parts (level_good a.priority) (requests_good as') g).0
in_good (a ∷ as') q g (inr h) = in_good as' q (and_parts (level_good a.priority) (requests_good as') g).1 h

-- once it has left the queue, it may be set up
pub served_waitable : {m : Radio} (x : State m) (q : Request) → Ordered x → next x ≡ Some q → Waitable q (at_queue x (without_request q.place q.rab x.queue))
served_waitable x q k e =
    let p = q.place in
    let r = q.rab in
    let qs = x.queue in
    let here = next_in x q e in
    let waits = in_waits qs q here in
    record {
      level = in_good qs q (and_parts (bearers_good x.bearers) (requests_good qs) k.ranges).1 here;
      idle = gone_without p r qs (apart_from qs k.single);
      room = room (set_up_as p r x.bearers) refl waits;
    }
  where
    room : (o : Option Bearer) → set_up_as q.place q.rab x.bearers ≡ o → is_some (waits_as q.place q.rab x.queue) ≡ true →
        (is_some (set_up_as q.place q.rab x.bearers) || ltb (known_in x.bearers (without_request q.place q.rab x.queue)) 64) ≡ true
    room (Some b) f w = ap (λ v. is_some v || ltb (known_in x.bearers (without_request q.place q.rab x.queue)) 64) f
    room None f w =
        let n = one_fewer x.bearers q.place q.rab x.queue f w in
        or_right (is_some (set_up_as q.place q.rab x.bearers)) (ltb (known_in x.bearers (without_request q.place q.rab x.queue)) 64)
        (lt-ltb (known_in x.bearers (without_request q.place q.rab x.queue)) 64 (omega (arith, n, k.few)))

-- a turn of serving, and the end
pub serve_turn : {m : Radio} (x : State m) (q : Request) (n : ℕ) → next x ≡ Some q → serve_up_to (suc n) x ≡ then (serve_one q x) (serve_up_to n)
unfolding serve_up_to
serve_turn x q n e = ap (λ o. elim o [ None ↦ silent x | Some w ↦ then (serve_one w x) (serve_up_to n) ]) e

pub serve_none : {m : Radio} (x : State m) (n : ℕ) → next x ≡ None → serve_up_to n x ≡ silent x
unfolding serve_up_to
serve_none x zero e = refl
serve_none x (suc n) e = ap (λ o. elim o [ None ↦ silent x | Some w ↦ then (serve_one w x) (serve_up_to n) ]) e

pub serve_empty : {m : Radio} (x : State m) (n : ℕ) → n ≡ 0 → serve_up_to n x ≡ silent x
unfolding serve_up_to
serve_empty x n e = ap (λ k. serve_up_to k x) e

shorter_step : (p r : ℕ) (a : Request) (as' : List Request) (t : Bool) → is_some (cond t (Some a) (waits_as p r as')) ≡ true →
    (is_some (waits_as p r as') ≡ true → length (without_request p r as') + 1 ≡ length as') → length (cond t as' (a ∷ without_request p r as')) + 1 ≡ suc (length as')
shorter_step p r a as' true e ih = omega arith
shorter_step p r a as' false e ih = let i = ih e in omega (arith, i)

pub shorter : (p r : ℕ) (qs : List Request) → is_some (waits_as p r qs) ≡ true → length (without_request p r qs) + 1 ≡ length qs
shorter p r [] e = cc
shorter p r (a ∷ as') e = shorter_step p r a as' (asks_for p r a) e (shorter p r as')

free_queue : {m : Radio} (o : Option Bearer) (x : State m) → (free_own o x).queue ≡ x.queue
free_queue None x = refl
free_queue (Some b) x = refl

-- each turn makes the queue one shorter
pub turn_shorter : {m : Radio} (x : State m) (q : Request) → next x ≡ Some q → length (serve_one q x).state.queue + 1 ≡ length x.queue
unfolding done
turn_shorter x q e =
    let y = at_queue x (without_request q.place q.rab x.queue) in
    ap (λ qs. length qs + 1) (free_queue (own q y) y) ∙ shorter q.place q.rab x.queue (in_waits x.queue q (next_in x q e))
