-- The tables of RABs: set-up RABs by place and RAB ID, waiting requests by arrival.
use Rattle.std.specs.Prelude.{ℕ, zero, suc, ◌+◌, Bool, true, false, cond, not, ◌&&◌, ◌||◌, List, [], ◌∷◌, length, Some, None, filter, Option, ◌==◌, nat_lt}
use Rattle.rules.specs.declared.bearer.Bearer.{Bearer}
use Rattle.rules.specs.declared.bearer.Request.{Request}

-- whether there is something
abbrev pub is_some : {X : Type 0} → Option X → Bool
is_some None = false
is_some (Some a) = true

-- the bearer of a RAB, which is named by place and RAB ID
abbrev pub of_rab : ℕ → ℕ → Bearer → Bool
of_rab p r b = b.place == p && b.rab == r

-- the request of a RAB
abbrev pub asks_for : ℕ → ℕ → Request → Bool
asks_for p r q = q.place == p && q.rab == r

-- a set-up RAB on a place
abbrev pub stands_at : ℕ → Bearer → Bool
stands_at p b = b.place == p

-- a request on a place
abbrev pub waits_at : ℕ → Request → Bool
waits_at p q = q.place == p

-- some request passes a test
abbrev pub any_request : (Request → Bool) → List Request → Bool
any_request test [] = false
any_request test (q ∷ qs) = test q || any_request test qs

-- a RAB as it is set up, if it is
abbrev pub set_up_as : ℕ → ℕ → List Bearer → Option Bearer
set_up_as p r [] = None
set_up_as p r (b ∷ bs) = cond (of_rab p r b) (Some b) (set_up_as p r bs)

-- the waiting request of a RAB, if one waits
abbrev pub waits_as : ℕ → ℕ → List Request → Option Request
waits_as p r [] = None
waits_as p r (q ∷ qs) = cond (asks_for p r q) (Some q) (waits_as p r qs)

-- by place, then by RAB ID
abbrev pub before : Bearer → Bearer → Bool
before a b = nat_lt a.place b.place || (a.place == b.place && nat_lt a.rab b.rab)

-- the table with one RAB more, in its order
abbrev pub with_bearer : Bearer → List Bearer → List Bearer
with_bearer b [] = b ∷ []
with_bearer b (a ∷ as') = cond (before b a) (b ∷ a ∷ as') (a ∷ with_bearer b as')

-- the table without a RAB
abbrev pub without_bearer : ℕ → ℕ → List Bearer → List Bearer
without_bearer p r [] = []
without_bearer p r (b ∷ bs) = cond (of_rab p r b) bs (b ∷ without_bearer p r bs)

-- the queue without the request of a RAB
abbrev pub without_request : ℕ → ℕ → List Request → List Request
without_request p r [] = []
without_request p r (q ∷ qs) = cond (asks_for p r q) qs (q ∷ without_request p r qs)

-- a request whose RAB is not set up: it waits for its set-up
abbrev pub fresh : List Bearer → Request → Bool
fresh bs q = not (is_some (set_up_as q.place q.rab bs))

-- how many RABs are known: set up, or waiting for their set-up
abbrev pub known_in : List Bearer → List Request → ℕ
known_in bs qs = length bs + length (filter (fresh bs) qs)

-- the first number from k on that passes, of n numbers; the one after them where none does
unfoldable pub first_from : (ℕ → Bool) → ℕ → ℕ → ℕ
first_from test k zero = k
first_from test k (suc n) = let later = first_from test (suc k) n in cond (test k) k later
