-- Grant numbers and levels stay in their ranges.
use Rattle.std.proofs.Common.{◌≡◌, ℕ, zero, suc, ◌<◌, Bool, true, false, cond, List, [], ◌∷◌, ◌++◌, length, get_or, refl, arith}
use Rattle.bearers.specs.Order.{level_good, bearer_good, bearers_good, requests_good}
use Rattle.rules.specs.Tables.{of_rab, asks_for, before, with_bearer, without_bearer, without_request}
use Rattle.rules.specs.declared.bearer.Bearer.{Bearer}
use Rattle.rules.specs.declared.bearer.Request.{Request}
use Rattle.std.proofs.lemmas.Bool.{and_parts, and_from}

but_step : (p r : ℕ) (b : Bearer) (bs : List Bearer) (t : Bool) → bearers_good (b ∷ bs) ≡ true → bearers_good (without_bearer p r bs) ≡ true → bearers_good (cond t bs (b ∷ without_bearer p r bs)) ≡ true
but_step p r b bs true g ih = (and_parts (bearer_good b) (bearers_good bs) g).1
but_step p r b bs false g ih = and_from (bearer_good b) (bearers_good (without_bearer p r bs)) (and_parts (bearer_good b) (bearers_good bs) g).0 ih

pub good_without : (p r : ℕ) (bs : List Bearer) → bearers_good bs ≡ true → bearers_good (without_bearer p r bs) ≡ true
good_without p r [] g = refl
good_without p r (b ∷ bs) g = but_step p r b bs (of_rab p r b) g (good_without p r bs (and_parts (bearer_good b) (bearers_good bs) g).1)

with_step : (b a : Bearer) (as' : List Bearer) (t : Bool) → bearer_good b ≡ true → bearers_good (a ∷ as') ≡ true → bearers_good (with_bearer b as') ≡ true → bearers_good (cond t (b ∷ a ∷ as') (a ∷ with_bearer b as')) ≡ true
with_step b a as' true h g ih = and_from (bearer_good b) (bearers_good (a ∷ as')) h g
with_step b a as' false h g ih = and_from (bearer_good a) (bearers_good (with_bearer b as')) (and_parts (bearer_good a) (bearers_good as') g).0 ih

pub good_with : (b : Bearer) (bs : List Bearer) → bearer_good b ≡ true → bearers_good bs ≡ true → bearers_good (with_bearer b bs) ≡ true
good_with b [] h g = and_from (bearer_good b) true h refl
good_with b (a ∷ as') h g = with_step b a as' (before b a) h g (good_with b as' h (and_parts (bearer_good a) (bearers_good as') g).1)

left_step : (p r : ℕ) (q : Request) (qs : List Request) (t : Bool) → requests_good (q ∷ qs) ≡ true → requests_good (without_request p r qs) ≡ true → requests_good (cond t qs (q ∷ without_request p r qs)) ≡ true
left_step p r q qs true g ih = (and_parts (level_good q.priority) (requests_good qs) g).1
left_step p r q qs false g ih = and_from (level_good q.priority) (requests_good (without_request p r qs)) (and_parts (level_good q.priority) (requests_good qs) g).0 ih

pub requests_without : (p r : ℕ) (qs : List Request) → requests_good qs ≡ true → requests_good (without_request p r qs) ≡ true
requests_without p r [] g = refl
requests_without p r (q ∷ qs) g = left_step p r q qs (asks_for p r q) g (requests_without p r qs (and_parts (level_good q.priority) (requests_good qs) g).1)

pub requests_append : (q : Request) (qs : List Request) → level_good q.priority ≡ true → requests_good qs ≡ true → requests_good (qs ++ q ∷ []) ≡ true
requests_append q [] h g = and_from (level_good q.priority) true h refl
requests_append q (a ∷ qs) h g =
    let p = and_parts (level_good a.priority) (requests_good qs) g in
    and_from (level_good a.priority) (requests_good (qs ++ q ∷ [])) p.0 (requests_append q qs h p.1)

-- each of a table is in range
pub good_at : (bs : List Bearer) (i : ℕ) (d : Bearer) → bearers_good bs ≡ true → i < length bs → bearer_good (get_or bs i d) ≡ true
good_at [] i d g l = absurd (omega arith)
good_at (b ∷ bs) zero d g l = (and_parts (bearer_good b) (bearers_good bs) g).0
good_at (b ∷ bs) (suc i) d g l = good_at bs i d (and_parts (bearer_good b) (bearers_good bs) g).1 (omega arith)
