-- Connections by place: after a change, and what a test of all of them says of each.
use Rattle.std.proofs.Common.{◌≡◌, ℕ, zero, suc, ◌+◌, ◌<◌, Bool, true, false, cond, ◌||◌, eqb, ◌⊎◌, List, [], ◌∷◌, length, get_or, set, sym, refl, ap, ◌∙◌, inl, inr, ⊎_elim, arith, get_or-set_other, get_or-set_same}
use lib.ListN.{get_or-map}
use Rattle.std.proofs.lemmas.Bool.Decides.{nat_tests}
use Rattle.std.proofs.lemmas.Bool.{cases_eq, or_parts, or_cases, or_from, or_left}
use Rattle.rules.specs.Message.{among}
use Rattle.rules.specs.Connections.{of_ue, moved_to, changed, any_connection, places_from, vacant}
use Rattle.rules.specs.declared.connection.Connection.{Connection}
use Rattle.rules.specs.declared.connection.ConnectionState.{ConnectionState}

-- what stands at a place
abbrev pub seat : List Connection → ℕ → Connection
seat cs k = get_or cs k vacant

-- one connection changed if it is the UE's
abbrev pub change : ℕ → (ConnectionState → ConnectionState) → Connection → Connection
change u f c = cond (of_ue u c) (moved_to (f c.state) c) c

pub seat_changed : (u : ℕ) (f : ConnectionState → ConnectionState) (cs : List Connection) (k : ℕ) → seat (changed u f cs) k ≡ change u f (seat cs k)
seat_changed u f cs k = get_or-map (change u f) cs k vacant

-- after a write: the place itself, in range, or another
pub seat_set : (cs : List Connection) (p k : ℕ) (v : Connection) → p < length cs → ((k ≡ p) × (seat (set cs p v) k ≡ v)) ⊎ ((k ≡ p → ⊥) × (seat (set cs p v) k ≡ seat cs k))
seat_set cs p k v l =
    ⊎_elim
    (λ same. inl (same, ap (λ z. seat (set cs p v) z) same ∙ get_or-set_same cs p v vacant l))
    (λ other. inr (other, get_or-set_other cs p k v vacant other))
    (cases_eq k p)

-- no connection passes: so none at any place
pub none_seat : (test : Connection → Bool) → test vacant ≡ false → (cs : List Connection) → any_connection test cs ≡ false → (k : ℕ) → test (seat cs k) ≡ false
none_seat test v [] e k = v
none_seat test v (c ∷ cs) e zero = (or_parts (test c) (any_connection test cs) e).0
none_seat test v (c ∷ cs) e (suc k) = none_seat test v cs (or_parts (test c) (any_connection test cs) e).1 k

-- and none at any place: so no connection
pub no_seat : (test : Connection → Bool) (cs : List Connection) → ((k : ℕ) → test (seat cs k) ≡ false) → any_connection test cs ≡ false
no_seat test [] h = refl
no_seat test (c ∷ cs) h = or_from (test c) (any_connection test cs) (h 0) (no_seat test cs (λ k. h (suc k)))

-- some connection passes: so one at some place
pub some_seat : (test : Connection → Bool) (cs : List Connection) → any_connection test cs ≡ true → (k : ℕ) × (test (seat cs k) ≡ true)
some_seat test [] e = let z : ◌≡◌ {A = ℕ} 0 1 = cc in absurd (omega arith)
some_seat test (c ∷ cs) e =
    ⊎_elim (λ here. (0, here)) (λ later. let h = some_seat test cs later in (suc h.0, h.1)) (or_cases (test c) (any_connection test cs) e)

below_step : (n i : ℕ) (ps : List ℕ) (t : Bool) → n < i → among n ps ≡ false → among n (cond t (i ∷ ps) ps) ≡ false
below_step n i ps true l ih = or_from (eqb n i) (among n ps) (grind (arith, nat_tests)) ih
below_step n i ps false l ih = ih

none_below : (test : Connection → Bool) (i n : ℕ) (cs : List Connection) → n < i → among n (places_from test i cs) ≡ false
none_below test i n [] l = refl
none_below test i n (c ∷ cs) l = below_step n i (places_from test (suc i) cs) (test c) l (none_below test (suc i) n cs (omega arith))

here_step : (n i : ℕ) (ps : List ℕ) (t : Bool) → n ≡ i → among n ps ≡ false → among n (cond t (i ∷ ps) ps) ≡ t
here_step n i ps true e ih = or_left (eqb n i) (among n ps) (grind (arith, nat_tests))
here_step n i ps false e ih = ih

above_step : (n i : ℕ) (ps : List ℕ) (t : Bool) → i < n → among n (cond t (i ∷ ps) ps) ≡ among n ps
above_step n i ps true l = let e : eqb n i ≡ false = grind (arith, nat_tests) in ap (λ b. b || among n ps) e
above_step n i ps false l = refl

-- the places of those that pass, counted from i
pub among_places : (test : Connection → Bool) → test vacant ≡ false → (i n k : ℕ) (cs : List Connection) → n ≡ i + k → among n (places_from test i cs) ≡ test (seat cs k)
among_places test v i n k [] e = sym v
among_places test v i n zero (c ∷ cs) e = here_step n i (places_from test (suc i) cs) (test c) (omega arith) (none_below test (suc i) n cs (omega arith))
among_places test v i n (suc k) (c ∷ cs) e = above_step n i (places_from test (suc i) cs) (test c) (omega arith) ∙ among_places test v (suc i) n k cs (omega arith)
