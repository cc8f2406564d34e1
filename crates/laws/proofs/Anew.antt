-- A RAB is set up anew: what stands in the table then.
use Rattle.std.proofs.Common.{◌≡◌, ℕ, Bool, true, false, cond, ◌&&◌, eqb, List, [], ◌∷◌, Some, None, Option, sym, refl, ap, ◌∙◌, ⊎_elim, arith}
use Rattle.std.proofs.lemmas.Bool.Decides.{nat_tests}
use Rattle.std.proofs.lemmas.Bool.{cases_eq}
use Rattle.rules.specs.Radio.{Radio}
use Rattle.rules.specs.State.{State}
use Rattle.rules.specs.Tables.{of_rab, set_up_as, with_bearer}
use Rattle.rules.specs.Actions.{free_grant}
use Rattle.rules.specs.Preemption.{own}
use Rattle.rules.specs.Request.{free_own, done}
use Rattle.rules.specs.declared.bearer.Bearer.{Bearer}
use Rattle.rules.specs.declared.bearer.Request.{Request}
use Rattle.bearers.proofs.Standing.{Once, once_lookup, once_without, once_from, set_with}
use Rattle.laws.specs.Done.{DoneAlone}

key_step : (p r : ℕ) (a b : Bearer) (o : Option Bearer) (t : Bool) → of_rab p r a ≡ t → cond t (Some a) o ≡ Some b → (o ≡ Some b → (b.place ≡ p) × (b.rab ≡ r)) → (b.place ≡ p) × (b.rab ≡ r)
key_step p r a b o true e f ih =
    let s : a ≡ b = cc in
    let ep : a.place ≡ p = grind (arith, nat_tests) in
    let er : a.rab ≡ r = grind (arith, nat_tests) in
    (ap (λ z. z.place) (sym s) ∙ ep, ap (λ z. z.rab) (sym s) ∙ er)
key_step p r a b o false e f ih = ih f

-- what is found is the RAB's
pub set_up_key : (p r : ℕ) (b : Bearer) (bs : List Bearer) → set_up_as p r bs ≡ Some b → (b.place ≡ p) × (b.rab ≡ r)
set_up_key p r b [] e = let z : ◌≡◌ {A = ℕ} 0 1 = cc in absurd (omega arith)
set_up_key p r b (a ∷ bs) e = key_step p r a b (set_up_as p r bs) (of_rab p r a) refl e (set_up_key p r b bs)

pub other_key : (p r k j : ℕ) → (k ≡ p → j ≡ r → ⊥) → (eqb k p && eqb j r) ≡ false
other_key p r k j h =
    ⊎_elim
    (λ e. ⊎_elim (λ f. absurd (h e f)) (λ f. grind (arith, nat_tests)) (cases_eq j r))
    (λ e. grind (arith, nat_tests))
    (cases_eq k p)

module _ {m : Radio} (p r : ℕ) (x : State m) (ok : Once x.bearers) where
  -- a RAB's own grant given back, it is not set up, and the others are as they were
  pub freed : (o : Option Bearer) → set_up_as p r x.bearers ≡ o → set_up_as p r (free_own o x).bearers ≡ None
  freed None e = e
  freed (Some b) e =
      let k = set_up_key p r b x.bearers e in
      let kp : b.place ≡ p = k.0 in
      let kr : b.rab ≡ r = k.1 in
      let t : (eqb p b.place && eqb r b.rab) ≡ true = grind (arith, nat_tests) in
      once_lookup b.place b.rab p r x.bearers ok ∙ ap (λ z. cond z None (set_up_as p r x.bearers)) t

  pub freed_others : (k j : ℕ) → (eqb k p && eqb j r) ≡ false → (o : Option Bearer) → set_up_as p r x.bearers ≡ o → set_up_as k j (free_own o x).bearers ≡ set_up_as k j x.bearers
  freed_others k j off None e = refl
  freed_others k j off (Some b) e =
      let key = set_up_key p r b x.bearers e in
      let kp : b.place ≡ p = key.0 in
      let kr : b.rab ≡ r = key.1 in
      let t : (eqb k b.place && eqb j b.rab) ≡ false = grind (arith, nat_tests) in
      once_lookup b.place b.rab k j x.bearers ok ∙ ap (λ z. cond z None (set_up_as k j x.bearers)) t

pub freed_once : {m : Radio} (x : State m) → Once x.bearers → (o : Option Bearer) → Once (free_own o x).bearers
freed_once x ok None = ok
freed_once x ok (Some b) = once_without b.place b.rab x.bearers ok

pub entered : (b : Bearer) (bs : List Bearer) → set_up_as b.place b.rab bs ≡ None → set_up_as b.place b.rab (with_bearer b bs) ≡ Some b
entered b bs none =
    let t : (eqb b.place b.place && eqb b.rab b.rab) ≡ true = grind (arith, nat_tests) in
    set_with b.place b.rab b bs none ∙ ap (λ z. cond z (Some b) (set_up_as b.place b.rab bs)) t

pub entered_others : (b : Bearer) (k j : ℕ) (bs : List Bearer) → (eqb k b.place && eqb j b.rab) ≡ false → set_up_as b.place b.rab bs ≡ None →
    set_up_as k j (with_bearer b bs) ≡ set_up_as k j bs
entered_others b k j bs off none = set_with k j b bs none ∙ ap (λ z. cond z (Some b) (set_up_as k j bs)) off

module _ {m : Radio} where
  -- a request's own grant given back, only pool and table change
  pub free_queue : (o : Option Bearer) (x : State m) → (free_own o x).queue ≡ x.queue
  free_queue None x = refl
  free_queue (Some b) x = refl

  pub free_connections : (o : Option Bearer) (x : State m) → (free_own o x).connections ≡ x.connections
  free_connections None x = refl
  free_connections (Some b) x = refl

  pub free_tickets : (o : Option Bearer) (x : State m) → (free_own o x).tickets ≡ x.tickets
  free_tickets None x = refl
  free_tickets (Some b) x = refl

  -- the RAB as it is set up then
  abbrev newly : Request → State m → Bearer
  newly q x = record { place = q.place; rab = q.rab; grant = free_grant (free_own (own q x) x); size = q.size; priority = q.priority }

  -- a request is done without victims
  pub alone : (q : Request) (x : State m) → DoneAlone q x (done q [] x)
  unfolding done
  alone q x = record {
    report = refl;
    set_up = λ s. (newly q x, entered (newly q x) (free_own (own q x) x).bearers (freed q.place q.rab x (once_from x.bearers s) (own q x) refl), refl, refl);
    others = λ s p r other.
        let off = other_key q.place q.rab p r other in
        let ok = once_from x.bearers s in
        entered_others (newly q x) p r (free_own (own q x) x).bearers off (freed q.place q.rab x ok (own q x) refl) ∙
        freed_others q.place q.rab x ok p r off (own q x) refl;
    queue = free_queue (own q x) x;
    connections = free_connections (own q x) x;
    tickets = free_tickets (own q x) x;
  }
