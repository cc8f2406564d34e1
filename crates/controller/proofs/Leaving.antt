-- Entries that leave a table one by one: all of a place or of a UE, in their order.
use Rattle.std.proofs.Common.{◌≡◌, ℕ, ◌+◌, Bool, true, false, cond, not, List, [], ◌∷◌, map, length, Some, None, filter, sym, refl, ap, ◌∙◌, inl, inr, arith}
use Rattle.bearers.proofs.Firsts.{all_but, bearers_but, requests_but}
use Rattle.std.specs.List.{find}
use Rattle.controller.proofs.Served.{In, in_waits, shorter}
use Rattle.controller.specs.Whose.{fail_meant}
use Rattle.rules.specs.Actions.{failed, fail_waiting, drop_bearer}
use Rattle.rules.specs.Events.{drop_place}
use Rattle.rules.specs.Radio.{Radio}
use Rattle.rules.specs.State.{State, Outcome, silent, tell, then, each, at_queue}
use Rattle.rules.specs.Tables.{is_some, of_rab, asks_for, stands_at, waits_as, without_bearer, without_request}
use Rattle.rules.specs.declared.bearer.Bearer.{Bearer}
use Rattle.rules.specs.declared.bearer.Request.{Request}
use Rattle.rules.specs.declared.connection.Connection.{Connection}
use Rattle.rules.specs.declared.report.Cause.{Cause}
use Rattle.rules.specs.declared.report.Cause.TheVariants.{IuReleased}
use Rattle.rules.specs.declared.report.ReportKind.TheVariants as kind
use Rattle.std.proofs.lemmas.Bool.Decides.{nat_tests}

module _ {X : Type 0} (test : X → Bool) (same : X → X → Bool) (self : (x : X) → same x x ≡ true) (apart : (x y : X) → test x ≡ true → test y ≡ false → same x y ≡ false) where
  passes_step : (x y : X) (ys : List X) (t : Bool) → test y ≡ t → cond t (Some y) (find test ys) ≡ Some x → (find test ys ≡ Some x → test x ≡ true) → test x ≡ true
  passes_step x y ys true e f ih = let s : y ≡ x = cc in ap test (sym s) ∙ e
  passes_step x y ys false e f ih = ih f

  first_passes : (xs : List X) (x : X) → find test xs ≡ Some x → test x ≡ true
  first_passes [] x e = cc
  first_passes (y ∷ ys) x e = passes_step x y ys (test y) refl e (first_passes ys x)

  abbrev Leaves : X → List X → List X → Type 0
  Leaves x xs rest = (filter test xs ≡ x ∷ filter test rest) × (filter (λ y. not (test y)) rest ≡ filter (λ y. not (test y)) xs) × (length rest + 1 ≡ length xs)

  first_step : (x y : X) (ys : List X) (t : Bool) → test y ≡ t → cond t (Some y) (find test ys) ≡ Some x → test x ≡ true →
      (find test ys ≡ Some x → Leaves x ys (all_but (same x) ys)) → Leaves x (y ∷ ys) (cond (same x y) ys (y ∷ all_but (same x) ys))
  first_step x y ys true e f p ih =
      let s : y ≡ x = cc in
      let own : same x y ≡ true = ap (same x) s ∙ self x in
      let out : cond (same x y) ys (y ∷ all_but (same x) ys) ≡ ys = ap (λ t. cond t ys (y ∷ all_but (same x) ys)) own in (
        ap (λ t. cond t (y ∷ filter test ys) (filter test ys)) e ∙ ap (λ z. z ∷ filter test ys) s ∙ ap (λ zs. x ∷ filter test zs) (sym out),
        ap (filter (λ z. not (test z))) out ∙ sym (ap (λ t. cond (not t) (y ∷ filter (λ z. not (test z)) ys) (filter (λ z. not (test z)) ys)) e),
        ap (λ zs. length zs + 1) out ∙ omega arith,
      )
  first_step x y ys false e f p ih =
      let i = ih f in
      let off : same x y ≡ false = apart x y p e in
      let stay : cond (same x y) ys (y ∷ all_but (same x) ys) ≡ y ∷ all_but (same x) ys = ap (λ t. cond t ys (y ∷ all_but (same x) ys)) off in
      let skip = λ (zs : List X). ap (λ t. cond t (y ∷ filter test zs) (filter test zs)) e in
      let keep = λ (zs : List X). ap (λ t. cond (not t) (y ∷ filter (λ z. not (test z)) zs) (filter (λ z. not (test z)) zs)) e in (
        skip ys ∙ i.0 ∙ ap (λ zs. x ∷ zs) (sym (ap (filter test) stay ∙ skip (all_but (same x) ys))),
        ap (filter (λ z. not (test z))) stay ∙ keep (all_but (same x) ys) ∙ ap (λ zs. y ∷ zs) i.1 ∙ sym (keep ys),
        ap (λ zs. length zs + 1) stay ∙ omega (arith, i.2),
      )

  first_leaves : (xs : List X) (x : X) → find test xs ≡ Some x → Leaves x xs (all_but (same x) xs)
  first_leaves [] x e = cc
  first_leaves (y ∷ ys) x e = first_step x y ys (test y) refl e (first_passes (y ∷ ys) x e) (first_leaves ys x)

  none_step : (y : X) (ys : List X) (t : Bool) → test y ≡ t → cond t (Some y) (find test ys) ≡ None →
      (find test ys ≡ None → (filter test ys ≡ []) × (filter (λ z. not (test z)) ys ≡ ys)) →
      (cond t (y ∷ filter test ys) (filter test ys) ≡ []) × (cond (not t) (y ∷ filter (λ z. not (test z)) ys) (filter (λ z. not (test z)) ys) ≡ y ∷ ys)
  none_step y ys true e f ih = cc
  none_step y ys false e f ih = let i = ih f in (i.0, ap (λ zs. y ∷ zs) i.1)

  none_leaves : (xs : List X) → find test xs ≡ None → (filter test xs ≡ []) × (filter (λ z. not (test z)) xs ≡ xs)
  none_leaves [] e = (refl, refl)
  none_leaves (y ∷ ys) e = none_step y ys (test y) refl e (none_leaves ys)

-- a RAB's own request, and one that is not meant while that is
own_request : (q : Request) → asks_for q.place q.rab q ≡ true
own_request q = grind (arith, nat_tests)

other_request : (t : ℕ → Bool) (q a : Request) → t q.place ≡ true → t a.place ≡ false → asks_for q.place q.rab a ≡ false
other_request t q a e f = grind (arith, nat_tests)

-- the set-up RABs of a place
module _ (p : ℕ) where
  own_bearer : (b : Bearer) → of_rab b.place b.rab b ≡ true
  own_bearer b = grind (arith, nat_tests)

  other_bearer : (b a : Bearer) → stands_at p b ≡ true → stands_at p a ≡ false → of_rab b.place b.rab a ≡ false
  other_bearer b a e f = grind (arith, nat_tests)

first_in_step : (test : Request → Bool) (q a : Request) (as' : List Request) (t : Bool) → cond t (Some a) (find test as') ≡ Some q → (find test as' ≡ Some q → In q as') → In q (a ∷ as')
first_in_step test q a as' true e ih = let s : a ≡ q = cc in inl s
first_in_step test q a as' false e ih = inr (ih e)

first_in : (test : Request → Bool) (qs : List Request) (q : Request) → find test qs ≡ Some q → In q qs
first_in test [] q e = cc
first_in test (a ∷ as') q e = first_in_step test q a as' (test a) e (first_in test as' q)

request_leaves : (t : ℕ → Bool) (qs : List Request) (q : Request) → find (λ a. t a.place) qs ≡ Some q →
    (filter (λ a. t a.place) qs ≡ q ∷ filter (λ a. t a.place) (without_request q.place q.rab qs)) ×
    (filter (λ a. not (t a.place)) (without_request q.place q.rab qs) ≡ filter (λ a. not (t a.place)) qs) ×
    (length (without_request q.place q.rab qs) + 1 ≡ length qs)
request_leaves t qs q e =
    let l = first_leaves (λ a. t a.place) (λ a b. asks_for a.place a.rab b) own_request (other_request t) qs q e in
    let r = sym (requests_but q.place q.rab qs) in
    (l.0 ∙ ap (λ zs. q ∷ filter (λ a. t a.place) zs) r, ap (filter (λ a. not (t a.place))) (sym r) ∙ l.1, ap (λ zs. length zs + 1) (sym r) ∙ l.2)

bearer_leaves : (p : ℕ) (bs : List Bearer) (b : Bearer) → find (stands_at p) bs ≡ Some b →
    (filter (stands_at p) bs ≡ b ∷ filter (stands_at p) (without_bearer b.place b.rab bs)) × (length (without_bearer b.place b.rab bs) + 1 ≡ length bs)
bearer_leaves p bs b e =
    let l = first_leaves (stands_at p) (λ a d. of_rab a.place a.rab d) (own_bearer p) (other_bearer p) bs b e in
    let w = sym (bearers_but b.place b.rab bs) in
    (l.0 ∙ ap (λ zs. b ∷ filter (stands_at p) zs) w, ap (λ zs. length zs + 1) (sym w) ∙ l.2)

module _ {m : Radio} (c : Cause) (x : State m) where
  gone : (q : Request) → is_some (waits_as q.place q.rab x.queue) ≡ true → fail_waiting c q.place q.rab x ≡ tell (failed c q) (at_queue x (without_request q.place q.rab x.queue))
  gone q e = ap (λ t. cond t (tell (failed c q) (at_queue x (without_request q.place q.rab x.queue))) (silent x)) e

  -- a request that waits leaves the queue
  pub fail_shorter : (q : Request) → is_some (waits_as q.place q.rab x.queue) ≡ true → length (fail_waiting c q.place q.rab x).state.queue + 1 ≡ length x.queue
  fail_shorter q e = ap (λ o. length o.state.queue + 1) (gone q e) ∙ shorter q.place q.rab x.queue e

  module _ (t : List Connection → ℕ → Bool) where
    abbrev pub meant : Request → Bool
    meant q = t x.connections q.place

    -- the first of them fails, then the others
    pub fail_turn : (q : Request) → find meant x.queue ≡ Some q → fail_meant c t x ≡ then (fail_waiting c q.place q.rab x) (fail_meant c t)
    fail_turn q e =
        let rest = without_request q.place q.rab x.queue in
        let l = request_leaves (t x.connections) x.queue q e in
        let r : map (failed c) (filter meant x.queue) ≡ failed c q ∷ map (failed c) (filter meant rest) = ap (map (failed c)) l.0 in
        let s : at_queue x (filter (λ a. not (meant a)) x.queue) ≡ at_queue x (filter (λ a. not (meant a)) rest) = ap (at_queue x) (sym l.1) in
        let both : ◌≡◌ {A = Outcome m} (fail_meant c t x) (then (tell (failed c q) (at_queue x rest)) (fail_meant c t)) = λ i. record { reports = r i; state = s i } in
        both ∙ ap (λ o. then o (fail_meant c t)) (sym (gone q (in_waits x.queue q (first_in meant x.queue q e))))

    -- none is left
    pub fail_none : find meant x.queue ≡ None → fail_meant c t x ≡ silent x
    fail_none e =
        let n = none_leaves meant (λ a b. asks_for a.place a.rab b) own_request (other_request (t x.connections)) x.queue e in
        let r : map (failed c) (filter meant x.queue) ≡ [] = ap (map (failed c)) n.0 in
        let s : at_queue x (filter (λ a. not (meant a)) x.queue) ≡ x = ap (at_queue x) n.1 in
        λ i. record { reports = r i; state = s i }

module _ {m : Radio} (p : ℕ) (x : State m) where
  -- the first of the place's RABs goes, then the others
  pub drop_turn : (b : Bearer) → find (stands_at p) x.bearers ≡ Some b → drop_place p x ≡ then (drop_bearer kind.Gone IuReleased b x) (drop_place p)
  drop_turn b e = ap (λ bs. each (drop_bearer kind.Gone IuReleased) bs x) (bearer_leaves p x.bearers b e).0

  pub drop_shorter : (b : Bearer) → find (stands_at p) x.bearers ≡ Some b → length (drop_bearer kind.Gone IuReleased b x).state.bearers + 1 ≡ length x.bearers
  drop_shorter b e = (bearer_leaves p x.bearers b e).1

  pub drop_none : find (stands_at p) x.bearers ≡ None → drop_place p x ≡ silent x
  drop_none e =
      ap (λ bs. each (drop_bearer kind.Gone IuReleased) bs x) (none_leaves (stands_at p) (λ a d. of_rab a.place a.rab d) (own_bearer p) (other_bearer p) x.bearers e).0
