-- A RAB is set up with a new grant: the book takes the number that the pool is given.
use Rattle.std.proofs.Common.{◌≡◌, ℕ, ◌+◌, ◌<◌, Bool, true, false, cond, not, ◌&&◌, ◌||◌, eqb, ltb, List, Some, None, Option, sym, refl, ap, ◌∙◌, subst, ⊎_elim, arith}
use mathlib.Core.Path.{fun_ext}
use Rattle.std.proofs.lemmas.Bool.Decides.{nat_tests}
use Rattle.std.proofs.lemmas.Bool.{cases_Bool}
use Rattle.rules.specs.Grants.{nothing}
use Rattle.rules.specs.Radio.{Radio, Taken, takes, after_take}
use Rattle.rules.specs.State.{State}
use Rattle.rules.specs.Tables.{is_some, set_up_as, with_bearer, first_from}
use Rattle.rules.specs.Actions.{free_grant, establish}
use Rattle.rules.specs.declared.bearer.Bearer.{Bearer}
use Rattle.rules.specs.declared.bearer.Request.{Request}
use Rattle.rules.specs.declared.item.ReadItem.{ReadItem}
use Rattle.bearers.proofs.Waiting.{key_cases}
use Rattle.bearers.proofs.Standing.{set_with}
use Rattle.runs.specs.Ledger.{Ledger, take_reports, settle, write_rab, freed, asked_at, with_parameters, take_number, keep_number, smallest_free, write}
use Rattle.runs.specs.Law.{Laws}
use Rattle.runs.proofs.Inserts.{first_passes, sizes_with, well_with}
use Rattle.runs.proofs.Bearers.{sizes_by}
use Rattle.runs.proofs.Free.{free_is, free_below}
use Rattle.runs.proofs.Few.{establish_few}
use Rattle.runs.proofs.Agrees.{Agrees, one_more, number_and_size}
use Rattle.runs.proofs.Fed.{Stands}
use Rattle.runs.proofs.Hole.{Hole, cleared, hole_unset}

-- a number is free in the book where the pool does not hold it
free_test : (t : Bool) (n : ℕ) → t ≡ ltb 0 n → not t ≡ eqb n 0
free_test t n e = grind (arith, nat_tests, cases_Bool t)

number_with : (t : Bool) (b : Bearer) (o : Option Bearer) → number_and_size (cond t (Some b) o) ≡ cond t (Some (b.grant, b.size)) (number_and_size o)
number_with true b o = refl
number_with false b o = refl

-- a second write at a key
over : {X : Type 0} (t : Bool) (v w o : X) → cond t v o ≡ cond t v (cond t w o)
over true v w o = refl
over false v w o = refl

module _
    {m : Radio} (laws : Laws m) (fp : ℕ) (is : List ReadItem) (todo : ℕ → ℕ → ℕ) (q : Request) (l : Ledger) (x : State m) (h : Hole todo q.place q.rab l x)
    (room : m.admits x.pool nothing q.size ≡ true)
  where
    a : Agrees (one_more todo q.place q.rab) (cleared q.place q.rab l) x
    a = h.agrees

    unset_up : set_up_as q.place q.rab x.bearers ≡ None
    unset_up = hole_unset laws fp is todo q.place q.rab l x h

    left : free_grant x < 64
    left = let f = h.few in free_below x a.held (omega arith)

    free_is_it : free_grant x ≡ first_from (λ g. eqb (m.holds x.pool g) 0) 0 64
    free_is_it = let f = h.few in free_is x a.held (omega arith)

    same_number : smallest_free (freed l.used (l.bearing q.place q.rab)) ≡ free_grant x
    same_number = ap (λ t. first_from t 0 64) (fun_ext (λ g. free_test (freed l.used (l.bearing q.place q.rab) g) (m.holds x.pool g) (a.used g))) ∙ sym free_is_it

    unheld : m.holds x.pool (free_grant x) ≡ 0
    unheld =
        let l = left in
        let e = free_is_it in
        let f = first_passes (λ g. eqb (m.holds x.pool g) 0) 0 64 (omega arith) in
        let f' : eqb (m.holds x.pool (free_grant x)) 0 ≡ true = ap (λ g. eqb (m.holds x.pool g) 0) e ∙ f in
        grind (arith, nat_tests)

    some_size : 0 < q.size
    some_size = (laws.lawful x.pool a.sound).least nothing q.size room

    takes_it : takes m x.pool (free_grant x) q.size ≡ true
    takes_it = let h = unheld in let f = left in grind (arith, nat_tests)

    took : Taken m x.pool (free_grant x) q.size
    took = laws.taken x.pool (free_grant x) q.size a.sound takes_it

    taken_is : after_take m x.pool (free_grant x) q.size ≡ m.taken x.pool (free_grant x) q.size
    taken_is = ap (λ t. cond t (m.taken x.pool (free_grant x) q.size) x.pool) takes_it

    holds_taken : (g : ℕ) → m.holds (after_take m x.pool (free_grant x) q.size) g ≡ cond (eqb g (free_grant x)) q.size (m.holds x.pool g)
    holds_taken g = ap (λ y. m.holds y g) taken_is ∙ ap (λ f. f g) took.holds

    counts_done : (k j : ℕ) →
        l.requests k j ≡
        write_rab l.outcomes q.place q.rab (l.outcomes q.place q.rab + 1) k j + cond (is_some (write_rab l.waiting q.place q.rab None k j)) 1 0 + todo k j
    counts_done k j =
        ⊎_elim
        (λ same.
        let n = a.counts k j in
        let e : l.outcomes k j ≡ l.outcomes q.place q.rab = ap (λ z. l.outcomes z j) same.0 ∙ ap (l.outcomes q.place) same.1 in
        grind (arith, nat_tests))
        (λ other. let n = a.counts k j in grind (arith, nat_tests))
        (key_cases q.place q.rab k j)

    bearing_done : (k j : ℕ) →
        write_rab l.bearing q.place q.rab (Some (smallest_free (freed l.used (l.bearing q.place q.rab)), q.size)) k j ≡
        number_and_size (set_up_as k j (with_bearer record { place = q.place; rab = q.rab; grant = free_grant x; size = q.size; priority = q.priority } x.bearers))
    bearing_done k j =
        let b : Bearer = record { place = q.place; rab = q.rab; grant = free_grant x; size = q.size; priority = q.priority } in
        ap (λ n. cond (eqb k q.place && eqb j q.rab) (Some (n, q.size)) (l.bearing k j)) same_number ∙
        over (eqb k q.place && eqb j q.rab) (Some (free_grant x, q.size)) None (l.bearing k j) ∙
        ap (λ o. cond (eqb k q.place && eqb j q.rab) (Some (free_grant x, q.size)) o) (a.bearing k j) ∙
        sym (number_with (eqb k q.place && eqb j q.rab) b (set_up_as k j x.bearers)) ∙
        ap number_and_size (sym (set_with k j b x.bearers unset_up))

    used_done : (g : ℕ) →
        write (freed l.used (l.bearing q.place q.rab)) (smallest_free (freed l.used (l.bearing q.place q.rab))) true g ≡
        ltb 0 (m.holds (after_take m x.pool (free_grant x) q.size) g)
    used_done g =
        let u = a.used g in
        let h = holds_taken g in
        let s = some_size in
        ap (λ n. write (freed l.used (l.bearing q.place q.rab)) n true g) same_number ∙ grind (arith, nat_tests)

    held_done : (g : ℕ) →
        m.holds (after_take m x.pool (free_grant x) q.size) g ≡
        sizes_by (with_bearer record { place = q.place; rab = q.rab; grant = free_grant x; size = q.size; priority = q.priority } x.bearers) g
    held_done g =
        let b : Bearer = record { place = q.place; rab = q.rab; grant = free_grant x; size = q.size; priority = q.priority } in
        holds_taken g ∙ ap (λ n. cond (eqb g (free_grant x)) q.size n) (a.held g) ∙ sym (sizes_with g b x.bearers a.well (sym (a.held (free_grant x)) ∙ unheld))

    established : Agrees todo (settle q.place q.rab (take_number q.place q.rab q.size l)) (establish q x).state
    established = record {
      counts = counts_done;
      waiting = a.waiting;
      bearing = bearing_done;
      used = used_done;
      undenied = a.undenied;
      apart = a.apart;
      well = well_with _ x.bearers a.well some_size unset_up (sym (a.held (free_grant x)) ∙ unheld);
      sound = subst m.sound (sym taken_is) took.sound;
      held = held_done;
    }

    -- the RAB is set up, at its item's turn with RAB parameters or after waiting
    pub filled : (is_some (l.waiting q.place q.rab) || with_parameters (asked_at fp q.rab q.place is)) ≡ true →
        Stands todo (take_reports fp is (establish q x).reports l) (establish q x).state
    filled e = record {
      agrees = subst
          (λ t. Agrees todo (settle q.place q.rab (cond t (take_number q.place q.rab q.size l) (keep_number q.place q.rab q.size l))) (establish q x).state)
          (sym e) established;
      few = let f = establish_few q x unset_up h.unqueued in let g = h.few in omega arith;
      idle = h.idle;
    }
