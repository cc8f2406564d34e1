-- How many RABs are known: what each change of the tables does to the number.
use Rattle.std.proofs.Common.{◌≡◌, ℕ, suc, ◌+◌, ◌≤◌, Bool, true, false, cond, not, ◌&&◌, eqb, List, [], ◌∷◌, ◌++◌, length, Some, None, filter, sym, refl, ap, ◌∙◌, subst, arith, length-append}
use Rattle.rules.specs.Tables.{is_some, of_rab, asks_for, set_up_as, waits_as, before, with_bearer, without_bearer, without_request, fresh, known_in}
use Rattle.rules.specs.declared.bearer.Bearer.{Bearer}
use Rattle.rules.specs.declared.bearer.Request.{Request}
use Rattle.std.proofs.lemmas.Bool.Decides.{nat_tests}
use Rattle.bearers.proofs.Standing.{Once, once_lookup, set_with}
use Rattle.bearers.proofs.Waiting.{Apart, apart_append, none_head}

-- how many requests wait for a set-up
abbrev pub newcomers : List Bearer → List Request → ℕ
newcomers bs qs = length (filter (fresh bs) qs)

-- one more in front counts where it passes
pub length_kept : {X : Type 0} (t : Bool) (a : X) (as' : List X) → length (cond t (a ∷ as') as') ≡ cond t 1 0 + length as'
length_kept true a as' = omega arith
length_kept false a as' = omega arith

fewer_step : (bs : List Bearer) (p r : ℕ) (q : Request) (qs : List Request) (t : Bool) → newcomers bs (without_request p r qs) ≤ newcomers bs qs →
    newcomers bs (cond t qs (q ∷ without_request p r qs)) ≤ newcomers bs (q ∷ qs)
fewer_step bs p r q qs true ih = let e = length_kept (fresh bs q) q (filter (fresh bs) qs) in omega arith
fewer_step bs p r q qs false ih =
    let e = length_kept (fresh bs q) q (filter (fresh bs) qs) in
    let f = length_kept (fresh bs q) q (filter (fresh bs) (without_request p r qs)) in
    omega arith

-- a request that leaves the queue makes them no more
pub fewer : (bs : List Bearer) (p r : ℕ) (qs : List Request) → newcomers bs (without_request p r qs) ≤ newcomers bs qs
fewer bs p r [] = omega arith
fewer bs p r (q ∷ qs) = fewer_step bs p r q qs (asks_for p r q) (fewer bs p r qs)

kept_step : (bs : List Bearer) (q : Request) (qs ks : List Request) (t : Bool) → newcomers bs ks ≤ newcomers bs qs → newcomers bs (cond t (q ∷ ks) ks) ≤ newcomers bs (q ∷ qs)
kept_step bs q qs ks true i =
    let e = length_kept (fresh bs q) q (filter (fresh bs) qs) in
    let f = length_kept (fresh bs q) q (filter (fresh bs) ks) in
    omega arith
kept_step bs q qs ks false i = let e = length_kept (fresh bs q) q (filter (fresh bs) qs) in omega arith

-- and so with those that pass no test
pub fewer_kept : (bs : List Bearer) (test : Request → Bool) (qs : List Request) → newcomers bs (filter test qs) ≤ newcomers bs qs
fewer_kept bs test [] = omega arith
fewer_kept bs test (q ∷ qs) = kept_step bs q qs (filter test qs) (test q) (fewer_kept bs test qs)

one_step : (bs : List Bearer) (p r : ℕ) (q : Request) (qs : List Request) (t : Bool) → asks_for p r q ≡ t → set_up_as p r bs ≡ None →
    is_some (cond t (Some q) (waits_as p r qs)) ≡ true →
    (is_some (waits_as p r qs) ≡ true → newcomers bs (without_request p r qs) + 1 ≡ newcomers bs qs) →
    newcomers bs (cond t qs (q ∷ without_request p r qs)) + 1 ≡ newcomers bs (q ∷ qs)
one_step bs p r q qs true k none w ih =
    let ep : q.place ≡ p = grind (arith, nat_tests) in
    let er : q.rab ≡ r = grind (arith, nat_tests) in
    let u : set_up_as q.place q.rab bs ≡ None = ap (λ z. set_up_as z q.rab bs) ep ∙ ap (λ z. set_up_as p z bs) er ∙ none in
    let f : fresh bs q ≡ true = ap (λ o. not (is_some o)) u in
    let e = length_kept (fresh bs q) q (filter (fresh bs) qs) in
    let g : ◌≡◌ {A = ℕ} (cond (fresh bs q) 1 0) 1 = ap (λ b. cond {A = ℕ} b 1 0) f in
    omega arith
one_step bs p r q qs false k none w ih =
    let i = ih w in
    let e = length_kept (fresh bs q) q (filter (fresh bs) qs) in
    let f = length_kept (fresh bs q) q (filter (fresh bs) (without_request p r qs)) in
    omega arith

-- a request for set-up that leaves the queue makes them one fewer
pub one_fewer : (bs : List Bearer) (p r : ℕ) (qs : List Request) → set_up_as p r bs ≡ None → is_some (waits_as p r qs) ≡ true → newcomers bs (without_request p r qs) + 1 ≡ newcomers bs qs
one_fewer bs p r [] none w = let z : ◌≡◌ {A = ℕ} 0 1 = cc in absurd (omega arith)
one_fewer bs p r (q ∷ qs) none w = one_step bs p r q qs (asks_for p r q) refl none w (one_fewer bs p r qs none)

-- tables that tell the same of every RAB but one, which does not wait
pub same_new : (bs bs' : List Bearer) (p r : ℕ) (qs : List Request) → ((k j : ℕ) → (eqb k p && eqb j r) ≡ false → set_up_as k j bs ≡ set_up_as k j bs') → waits_as p r qs ≡ None →
    newcomers bs qs ≡ newcomers bs' qs
same_new bs bs' p r [] like none = refl
same_new bs bs' p r (q ∷ qs) like none =
    let n = none_head p r q qs (asks_for p r q) refl none in
    let i = same_new bs bs' p r qs like n.1 in
    let f : fresh bs q ≡ fresh bs' q = ap (λ o. not (is_some o)) (like q.place q.rab n.0) in
    let e = length_kept (fresh bs q) q (filter (fresh bs) qs) in
    let g = length_kept (fresh bs' q) q (filter (fresh bs') qs) in
    let h : ◌≡◌ {A = ℕ} (cond (fresh bs q) 1 0) (cond (fresh bs' q) 1 0) = ap (λ b. cond {A = ℕ} b 1 0) f in
    omega arith

shorter_step : (p r : ℕ) (b : Bearer) (bs : List Bearer) (t : Bool) → is_some (cond t (Some b) (set_up_as p r bs)) ≡ true → (is_some (set_up_as p r bs) ≡ true → length (without_bearer p r bs) + 1 ≡ length bs) →
    length (cond t bs (b ∷ without_bearer p r bs)) + 1 ≡ suc (length bs)
shorter_step p r b bs true e ih = omega arith
shorter_step p r b bs false e ih = let i = ih e in omega arith

pub length_without : (p r : ℕ) (bs : List Bearer) → is_some (set_up_as p r bs) ≡ true → length (without_bearer p r bs) + 1 ≡ length bs
length_without p r [] e = let z : ◌≡◌ {A = ℕ} 0 1 = cc in absurd (omega arith)
length_without p r (b ∷ bs) e = shorter_step p r b bs (of_rab p r b) e (length_without p r bs)

longer_step : (b a : Bearer) (as' : List Bearer) (t : Bool) → length (with_bearer b as') ≡ length as' + 1 → length (cond t (b ∷ a ∷ as') (a ∷ with_bearer b as')) ≡ suc (length as') + 1
longer_step b a as' true ih = omega arith
longer_step b a as' false ih = omega arith

pub length_with : (b : Bearer) (bs : List Bearer) → length (with_bearer b bs) ≡ length bs + 1
length_with b [] = refl
length_with b (a ∷ as') = longer_step b a as' (before b a) (length_with b as')

-- one more at the end of the queue
pub new_append : (bs : List Bearer) (q : Request) (qs : List Request) → newcomers bs (qs ++ q ∷ []) ≡ newcomers bs qs + cond (fresh bs q) 1 0
new_append bs q [] = let e = length_kept (fresh bs q) q [] in omega arith
new_append bs q (a ∷ qs) =
    let i = new_append bs q qs in
    let e = length_kept (fresh bs a) a (filter (fresh bs) qs) in
    let f = length_kept (fresh bs a) a (filter (fresh bs) (qs ++ q ∷ [])) in
    omega arith

pub at_most_one : (b : Bool) → cond {A = ℕ} b 1 0 ≤ 1
at_most_one true = omega arith
at_most_one false = omega arith

-- with no RAB set up, all requests wait for a set-up
all_new : (qs : List Request) → newcomers [] qs ≡ length qs
all_new [] = refl
all_new (q ∷ qs) = ap (λ n. suc n) (all_new qs)

-- tables that tell the same of every RAB but one
nearly_step : (bs bs' : List Bearer) (p r : ℕ) (q : Request) (qs : List Request) (t : Bool) → asks_for p r q ≡ t →
    ((k j : ℕ) → (eqb k p && eqb j r) ≡ false → set_up_as k j bs ≡ set_up_as k j bs') → Apart (q ∷ qs) →
    newcomers bs qs ≤ newcomers bs' qs + 1 → newcomers bs (q ∷ qs) ≤ newcomers bs' (q ∷ qs) + 1
nearly_step bs bs' p r q qs true e like ok ih =
    let ep : q.place ≡ p = grind (arith, nat_tests) in
    let er : q.rab ≡ r = grind (arith, nat_tests) in
    let none : waits_as p r qs ≡ None = subst (λ z. waits_as z r qs ≡ None) ep (subst (λ z. waits_as q.place z qs ≡ None) er ok.0) in
    let s = same_new bs bs' p r qs like none in
    let f = length_kept (fresh bs q) q (filter (fresh bs) qs) in
    let g = length_kept (fresh bs' q) q (filter (fresh bs') qs) in
    let one = at_most_one (fresh bs q) in
    omega arith
nearly_step bs bs' p r q qs false e like ok ih =
    let off : (eqb q.place p && eqb q.rab r) ≡ false = e in
    let same : fresh bs q ≡ fresh bs' q = ap (λ o. not (is_some o)) (like q.place q.rab off) in
    let f = length_kept (fresh bs q) q (filter (fresh bs) qs) in
    let g = length_kept (fresh bs' q) q (filter (fresh bs') qs) in
    let h : ◌≡◌ {A = ℕ} (cond (fresh bs q) 1 0) (cond (fresh bs' q) 1 0) = ap (λ b. cond {A = ℕ} b 1 0) same in
    omega arith

-- then one of them has at most one newcomer more
nearly : (bs bs' : List Bearer) (p r : ℕ) (qs : List Request) → ((k j : ℕ) → (eqb k p && eqb j r) ≡ false → set_up_as k j bs ≡ set_up_as k j bs') → Apart qs →
    newcomers bs qs ≤ newcomers bs' qs + 1
nearly bs bs' p r [] like ok = omega arith
nearly bs bs' p r (q ∷ qs) like ok = nearly_step bs bs' p r q qs (asks_for p r q) refl like ok (nearly bs bs' p r qs like ok.1)

-- a RAB taken out of the table makes no more known
pub known_without : (p r : ℕ) (bs : List Bearer) (qs : List Request) → Once bs → Apart qs → is_some (set_up_as p r bs) ≡ true → known_in (without_bearer p r bs) qs ≤ known_in bs qs
known_without p r bs qs once ok some =
    let n = nearly (without_bearer p r bs) bs p r qs (λ k j off. once_lookup p r k j bs once ∙ ap (λ t. cond t None (set_up_as k j bs)) off) ok in
    let l = length_without p r bs some in
    omega arith

-- a RAB that neither stands nor waits, entered: one more
pub known_with : (b : Bearer) (bs : List Bearer) (qs : List Request) → set_up_as b.place b.rab bs ≡ None → waits_as b.place b.rab qs ≡ None →
    known_in (with_bearer b bs) qs ≡ known_in bs qs + 1
known_with b bs qs unset none =
    let l = length_with b bs in
    let n = same_new (with_bearer b bs) bs b.place b.rab qs (λ k j off. set_with k j b bs unset ∙ ap (λ t. cond t (Some b) (set_up_as k j bs)) off) none in
    omega arith

cons_like : (b : Bearer) (bs : List Bearer) (k j : ℕ) → (eqb k b.place && eqb j b.rab) ≡ false → set_up_as k j bs ≡ set_up_as k j (b ∷ bs)
cons_like b bs k j off = let e : of_rab k j b ≡ false = grind (arith, nat_tests) in sym (ap (λ t. cond t (Some b) (set_up_as k j bs)) e)

-- requests wait for RABs that are known, each for another
pub waiting_known : (bs : List Bearer) (qs : List Request) → Apart qs → length qs ≤ known_in bs qs
waiting_known [] qs ok = let a = all_new qs in omega arith
waiting_known (b ∷ bs) qs ok =
    let n = nearly bs (b ∷ bs) b.place b.rab qs (cons_like b bs) ok in
    let i = waiting_known bs qs ok in
    omega arith

-- one more may wait for a RAB that is set up and does not wait
pub room_for : (q : Request) (bs : List Bearer) (qs : List Request) → Apart qs → waits_as q.place q.rab qs ≡ None → fresh bs q ≡ false → length qs + 1 ≤ known_in bs qs
room_for q bs qs ok none set_up =
    let w = waiting_known bs (qs ++ q ∷ []) (apart_append q qs ok none) in
    let a = new_append bs q qs in
    let z : ◌≡◌ {A = ℕ} (cond (fresh bs q) 1 0) 0 = ap (λ b. cond {A = ℕ} b 1 0) set_up in
    let l = length-append qs (q ∷ []) in
    omega arith
