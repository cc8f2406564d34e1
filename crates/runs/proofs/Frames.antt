-- A whole frame of items: each is counted as a request, and each has its turn.
use Rattle.std.proofs.Common.{◌≡◌, ℕ, ◌+◌, Bool, true, false, cond, ◌&&◌, eqb, List, [], ◌∷◌, Some, None, Option, refl, ap, ◌∙◌, ⊎_elim, arith}
use Rattle.std.proofs.lemmas.Bool.Decides.{nat_tests}
use Rattle.std.proofs.lemmas.Bool.{or_parts}
use Rattle.rules.specs.Radio.{Radio}
use Rattle.rules.specs.State.{State, each}
use Rattle.rules.specs.Message.{rab_of, releases, assignments, among, repeats_among, repeats}
use Rattle.rules.specs.Events.{release_item, assign_item, assignment}
use Rattle.rules.specs.declared.item.Item.{Item}
use Rattle.rules.specs.declared.item.Item.TheVariants.{Assign, Release}
use Rattle.rules.specs.declared.item.Assignment.{Assignment}
use Rattle.rules.specs.declared.item.ReadItem.{ReadItem}
use Rattle.bearers.proofs.Waiting.{key_cases}
use Rattle.runs.specs.Ledger.{Ledger, take_reports, asked, count_request, count_requests}
use Rattle.runs.specs.Law.{Laws}
use Rattle.runs.proofs.Agrees.{Agrees, one_more}
use Rattle.runs.proofs.Fed.{agrees_recounted, agrees_todo, Stands, fed_then}
use Rattle.runs.proofs.Releases.{kept_release_item, kept_assign_item}

-- items to come, one for each of a list
abbrev due : (ℕ → ℕ → ℕ) → ℕ → List ℕ → ℕ → ℕ → ℕ
due todo p [] = todo
due todo p (r ∷ rs) = one_more (due todo p rs) p r

abbrev due_of : (ℕ → ℕ → ℕ) → ℕ → List Assignment → ℕ → ℕ → ℕ
due_of todo p [] = todo
due_of todo p (a ∷ as') = one_more (due_of todo p as') p a.rab

-- those of a frame, in its order
abbrev due_all : (ℕ → ℕ → ℕ) → ℕ → List ReadItem → ℕ → ℕ → ℕ
due_all todo p [] = todo
due_all todo p (i ∷ is) = due_all (one_more todo p (rab_of i.item)) p is

-- each is the frame's item of its RAB
abbrev Asked : List ReadItem → List Assignment → Type 0
Asked is [] = Unit {0}
Asked is (a ∷ as') = (asked a.rab is ≡ Some a) × Asked is as'

-- none is of a RAB already seen
abbrev Unseen : List ℕ → List Assignment → Type 0
Unseen seen [] = Unit {0}
Unseen seen (a ∷ as') = (among a.rab seen ≡ false) × Unseen seen as'

unseen_less : (k : ℕ) (seen : List ℕ) (as' : List Assignment) → Unseen (k ∷ seen) as' → Unseen seen as'
unseen_less k seen [] u = tt
unseen_less k seen (a ∷ as') u = ((or_parts (eqb a.rab k) (among a.rab seen) u.0).1, unseen_less k seen as' u.1)

not_repeated : (t : Bool) (n : ℕ) (o : Option ℕ) → cond t (Some n) o ≡ None → (t ≡ false) × (o ≡ None)
not_repeated true n o e = let z : ◌≡◌ {A = ℕ} 0 1 = cc in absurd (omega arith)
not_repeated false n o e = (refl, e)

unseen_step : (seen : List ℕ) (it : Item) (as' : List Assignment) → among (rab_of it) seen ≡ false → Unseen (rab_of it ∷ seen) as' → Unseen seen (elim it [ Assign a ↦ a ∷ as' | Release r ↦ as' ])
unseen_step seen (Assign a) as' e u = (e, unseen_less a.rab seen as' u)
unseen_step seen (Release r) as' e u = unseen_less r seen as' u

unseen : (seen : List ℕ) (is : List ReadItem) → repeats_among seen is ≡ None → Unseen seen (assignments is)
unseen seen [] e = tt
unseen seen (i ∷ is) e =
    let n = not_repeated (among (rab_of i.item) seen) i.offset (repeats_among (rab_of i.item ∷ seen) is) e in
    unseen_step seen i.item (assignments is) n.0 (unseen (rab_of i.item ∷ seen) is n.1)

-- the frame's item of a RAB, with one more item in front
abbrev asked_of : ℕ → Item → Option Assignment → Option Assignment
asked_of r it o = elim it [ Assign a ↦ cond (eqb a.rab r) (Some a) o | Release k ↦ o ]

asked_more : (r : ℕ) (it : Item) (o : Option Assignment) → eqb r (rab_of it) ≡ false → asked_of r it o ≡ o
asked_more r (Assign a) o e = let f : eqb a.rab r ≡ false = grind (arith, nat_tests) in ap (λ t. cond t (Some a) o) f
asked_more r (Release k) o e = refl

asked_rest : (seen : List ℕ) (i : ReadItem) (is : List ReadItem) (as' : List Assignment) → Asked is as' → Unseen (rab_of i.item ∷ seen) as' → Asked (i ∷ is) as'
asked_rest seen i is [] h u = tt
asked_rest seen i is (a ∷ as') h u =
    (asked_more a.rab i.item (asked a.rab is) (or_parts (eqb a.rab (rab_of i.item)) (among a.rab seen) u.0).0 ∙ h.0, asked_rest seen i is as' h.1 u.1)

asked_step : (i : ReadItem) (is : List ReadItem) (it : Item) → i.item ≡ it → (as' : List Assignment) → Asked (i ∷ is) as' → Asked (i ∷ is) (elim it [ Assign a ↦ a ∷ as' | Release r ↦ as' ])
asked_step i is (Assign a) e as' h =
    let self : eqb a.rab a.rab ≡ true = grind (arith, nat_tests) in
    (ap (λ t. asked_of a.rab t (asked a.rab is)) e ∙ ap (λ t. cond t (Some a) (asked a.rab is)) self, h)
asked_step i is (Release r) e as' h = h

-- where no RAB is named twice, each item is the one of its RAB
all_asked : (seen : List ℕ) (is : List ReadItem) → repeats_among seen is ≡ None → Asked is (assignments is)
all_asked seen [] e = tt
all_asked seen (i ∷ is) e =
    let n = not_repeated (among (rab_of i.item) seen) i.offset (repeats_among (rab_of i.item ∷ seen) is) e in
    asked_step i is i.item refl (assignments is)
    (asked_rest seen i is (assignments is) (all_asked (rab_of i.item ∷ seen) is n.1) (unseen (rab_of i.item ∷ seen) is n.1))

-- releases and others together are all
due_step : (todo : ℕ → ℕ → ℕ) (p k j : ℕ) (it : Item) (rs : List ℕ) (as' : List Assignment) →
    due (due_of todo p as') p rs k j + cond (eqb k p && eqb j (rab_of it)) 1 0 ≡
    due (due_of todo p (elim it [ Assign a ↦ a ∷ as' | Release r ↦ as' ])) p (elim it [ Assign a ↦ rs | Release r ↦ r ∷ rs ]) k j
due_step todo p k j (Assign a) [] as' = refl
due_step todo p k j (Assign a) (r ∷ rs) as' = let i = due_step todo p k j (Assign a) rs as' in omega arith
due_step todo p k j (Release r) rs as' = refl

due_shift : (todo : ℕ → ℕ → ℕ) (p r k j : ℕ) (is : List ReadItem) → due_all (one_more todo p r) p is k j ≡ due_all todo p is k j + cond (eqb k p && eqb j r) 1 0
due_shift todo p r k j [] = refl
due_shift todo p r k j (i ∷ is) =
    let e = due_shift (one_more todo p r) p (rab_of i.item) k j is in
    let f = due_shift todo p r k j is in
    let g = due_shift todo p (rab_of i.item) k j is in
    omega arith

due_same : (todo : ℕ → ℕ → ℕ) (p k j : ℕ) (is : List ReadItem) → due_all todo p is k j ≡ due (due_of todo p (assignments is)) p (releases is) k j
due_same todo p k j [] = refl
due_same todo p k j (i ∷ is) =
    due_shift todo p (rab_of i.item) k j is ∙ ap (λ n. n + cond (eqb k p && eqb j (rab_of i.item)) 1 0) (due_same todo p k j is) ∙
    due_step todo p k j i.item (releases is) (assignments is)

module _ {m : Radio} (x : State m) where
  -- each item is a request
  counted : (todo : ℕ → ℕ → ℕ) (p : ℕ) (is : List ReadItem) (l : Ledger) → Agrees todo l x → Agrees (due_all todo p is) (count_requests p is l) x
  counted todo p [] l a = a
  counted todo p (i ∷ is) l a =
      let r = rab_of i.item in
      let l' = count_request p r l in
      counted (one_more todo p r) p is l'
      (agrees_recounted todo (one_more todo p r) l'.requests l'.outcomes l x a (λ k j.
      ⊎_elim
      (λ same.
      let n = a.counts k j in
      let e : l.requests k j ≡ l.requests p r = ap (λ z. l.requests z j) same.0 ∙ ap (l.requests p) same.1 in
      grind (arith, nat_tests))
      (λ other. let n = a.counts k j in grind (arith, nat_tests))
      (key_cases p r k j)))

module _ {m : Radio} (laws : Laws m) (p : ℕ) (is : List ReadItem) where
  kept_releases : (todo : ℕ → ℕ → ℕ) (rs : List ℕ) (l : Ledger) (x : State m) → Stands (due todo p rs) l x →
      Stands todo (take_reports p is (each (release_item p) rs x).reports l) (each (release_item p) rs x).state
  kept_releases todo [] l x s = s
  kept_releases todo (r ∷ rs) l x s =
      let o = release_item p r x in
      fed_then p is (Stands todo) l o (each (release_item p) rs)
      (kept_releases todo rs (take_reports p is o.reports l) o.state (kept_release_item laws p is (due todo p rs) p r l x s))

  kept_assigns : (todo : ℕ → ℕ → ℕ) (as' : List Assignment) (l : Ledger) (x : State m) → Stands (due_of todo p as') l x → Asked is as' →
      Stands todo (take_reports p is (each (assign_item p) as' x).reports l) (each (assign_item p) as' x).state
  kept_assigns todo [] l x s h = s
  kept_assigns todo (a ∷ as') l x s h =
      let o = assign_item p a x in
      let self : eqb p p ≡ true = grind (arith, nat_tests) in
      fed_then p is (Stands todo) l o (each (assign_item p) as')
      (kept_assigns todo as' (take_reports p is o.reports l) o.state
      (kept_assign_item laws p is (due_of todo p as') p a l x s (ap (λ t. cond t (asked a.rab is) None) self ∙ h.0)) h.1)

  -- a frame that names no RAB twice
  pub kept_assignment : (todo : ℕ → ℕ → ℕ) (l : Ledger) (x : State m) → Stands todo l x → repeats is ≡ None →
      Stands todo (take_reports p is (assignment p is x).reports (count_requests p is l)) (assignment p is x).state
  kept_assignment todo l x s none =
      let o = each (release_item p) (releases is) x in
      let k = count_requests p is l in
      fed_then p is (Stands todo) k o (each (assign_item p) (assignments is))
      (kept_assigns todo (assignments is) (take_reports p is o.reports k) o.state
      (kept_releases (due_of todo p (assignments is)) (releases is) k x record {
        agrees = agrees_todo (due_all todo p is) (due (due_of todo p (assignments is)) p (releases is)) k x (counted x todo p is l s.agrees) (λ i j. due_same todo p i j is);
        few = s.few;
        idle = s.idle;
      }) (all_asked [] is none))
