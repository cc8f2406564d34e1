-- What a request that is done leaves in the pool and in the table.
use Rattle.laws.proofs.Failing.{failed_pool, failed_bearers}
use Rattle.std.proofs.Common.{◌≡◌, ℕ, true, cond, not, ◌&&◌, eqb, List, [], ◌∷◌, Some, None, filter, Option, sym, refl, ap, ◌∙◌, subst, inl, inr, ⊎_elim, arith}
use Rattle.std.proofs.lemmas.Bool.Decides.{nat_tests}
use Rattle.rules.specs.Grants.{nothing}
use Rattle.rules.specs.Radio.{Radio, after_give}
use Rattle.rules.specs.State.{State, at_queue, each}
use Rattle.rules.specs.Tables.{is_some, set_up_as, waits_as, without_bearer, without_request}
use Rattle.rules.specs.Actions.{report, free_grant}
use Rattle.rules.specs.Preemption.{own}
use Rattle.rules.specs.Request.{pre_empt, free_own, done}
use Rattle.rules.specs.declared.bearer.Bearer.{Bearer}
use Rattle.rules.specs.declared.bearer.Request.{Request}
use Rattle.rules.specs.declared.report.ReportKind.TheVariants as kind
use Rattle.rules.specs.declared.report.Cause.TheVariants as cause
use Rattle.bearers.specs.Order.{ascending}
use Rattle.bearers.proofs.Waiting.{Apart, apart_from}
use Rattle.bearers.proofs.Standing.{Once, once_lookup, once_without, once_from, unset_without}
use Rattle.laws.specs.Lists.{Among}
use Rattle.laws.specs.Victims.{room_with, RightlyChosen}
use Rattle.laws.specs.Granted.{asks_for_one, DoneWith, RoomIsHad}
use Rattle.laws.proofs.Anew.{other_key, freed, freed_others, freed_once, entered, entered_others, free_queue, free_connections, free_tickets}
use Rattle.laws.proofs.Waiting.{queue_after, rest_after}
use Rattle.laws.proofs.Fronts.{right_victims}
use Rattle.laws.proofs.Losses.{victims_others}
use Rattle.laws.proofs.Given.{Laws, gives_all, gives_own, back_sound, back_admits, back_holds}
use Rattle.laws.proofs.Smallest.{take_sound, taken_smallest}

-- the table without some RABs
abbrev without_all : List Bearer → List Bearer → List Bearer
without_all [] bs = bs
without_all (v ∷ vs) bs = without_all vs (without_bearer v.place v.rab bs)

unset_all : (k j : ℕ) (vs bs : List Bearer) → Once bs → set_up_as k j bs ≡ None → set_up_as k j (without_all vs bs) ≡ None
unset_all k j [] bs ok e = e
unset_all k j (v ∷ vs) bs ok e = unset_all k j vs (without_bearer v.place v.rab bs) (once_without v.place v.rab bs ok) (unset_without v.place v.rab k j bs ok e)

itself : (p r : ℕ) → (eqb p p && eqb r r) ≡ true
itself p r = grind (arith, nat_tests)

gone_all : (v : Bearer) (vs bs : List Bearer) → Once bs → Among v vs → set_up_as v.place v.rab (without_all vs bs) ≡ None
gone_all v [] bs ok a = absurd a
gone_all v (w ∷ vs) bs ok a =
    let bs' = without_bearer w.place w.rab bs in
    let ok' = once_without w.place w.rab bs ok in
    ⊎_elim
    (λ same.
    unset_all v.place v.rab vs bs' ok'
    (subst (λ z. set_up_as z.place z.rab bs' ≡ None) (sym same)
    (once_lookup w.place w.rab w.place w.rab bs ok ∙ ap (λ t. cond t None (set_up_as w.place w.rab bs)) (itself w.place w.rab))))
    (λ later. gone_all v vs bs' ok' later)
    a

same_all : (k j : ℕ) (vs bs : List Bearer) → Once bs → ((v : Bearer) → Among v vs → k ≡ v.place → j ≡ v.rab → ⊥) → set_up_as k j (without_all vs bs) ≡ set_up_as k j bs
same_all k j [] bs ok h = refl
same_all k j (v ∷ vs) bs ok h =
    same_all k j vs (without_bearer v.place v.rab bs) (once_without v.place v.rab bs ok) (λ w a. h w (inr a)) ∙
    once_lookup v.place v.rab k j bs ok ∙ ap (λ t. cond t None (set_up_as k j bs)) (other_key v.place v.rab k j (h v (inl refl)))

module _ {m : Radio} where
  -- one victim goes
  gone_pool : (b : Bearer) (x : State m) → (pre_empt b x).state.pool ≡ after_give m x.pool b.grant
  gone_pool b x =
      ap (λ y. after_give m y b.grant)
      (failed_pool (is_some (waits_as b.place b.rab x.queue)) (report kind.Failed b.place b.rab cause.RabPreempted) x (without_request b.place b.rab x.queue))

  gone_bearers : (b : Bearer) (x : State m) → (pre_empt b x).state.bearers ≡ without_bearer b.place b.rab x.bearers
  gone_bearers b x =
      ap (without_bearer b.place b.rab)
      (failed_bearers (is_some (waits_as b.place b.rab x.queue)) (report kind.Failed b.place b.rab cause.RabPreempted) x (without_request b.place b.rab x.queue))

  -- all victims go
  all_pool : (vs : List Bearer) (x : State m) → (each pre_empt vs x).state.pool ≡ gives_all m x.pool vs
  all_pool [] x = refl
  all_pool (b ∷ vs) x = all_pool vs (pre_empt b x).state ∙ ap (λ y. gives_all m y vs) (gone_pool b x)

  all_bearers : (vs : List Bearer) (x : State m) → (each pre_empt vs x).state.bearers ≡ without_all vs x.bearers
  all_bearers [] x = refl
  all_bearers (b ∷ vs) x = all_bearers vs (pre_empt b x).state ∙ ap (without_all vs) (gone_bearers b x)

  own_pool : (o : Option Bearer) (x : State m) → (free_own o x).pool ≡ gives_own m x.pool o
  own_pool None x = refl
  own_pool (Some b) x = refl

  -- the state once own grant and victims are gone
  abbrev cleared : Request → List Bearer → State m → State m
  cleared q vs x = (each pre_empt vs (free_own (own q x) x)).state

  cleared_pool : (q : Request) (vs : List Bearer) (x : State m) → (cleared q vs x).pool ≡ gives_all m (gives_own m x.pool (own q x)) vs
  cleared_pool q vs x = all_pool vs (free_own (own q x) x) ∙ ap (λ y. gives_all m y vs) (own_pool (own q x) x)

  -- the RAB as it is set up then
  abbrev newly : Request → List Bearer → State m → Bearer
  newly q vs x = record { place = q.place; rab = q.rab; grant = free_grant (cleared q vs x); size = q.size; priority = q.priority }

module _ {m : Radio} (laws : Laws m) (q : Request) (vs : List Bearer) (x : State m) (ok : m.sound x.pool) (fits : room_with q x vs ≡ true)
    (others : (v : Bearer) → Among v vs → v.place ≡ q.place → v.rab ≡ q.rab → ⊥) where
  cleared_sound : m.sound (cleared q vs x).pool
  cleared_sound = subst m.sound (sym (cleared_pool q vs x)) (back_sound laws x.pool (own q x) vs ok)

  cleared_room : m.admits (cleared q vs x).pool nothing q.size ≡ true
  cleared_room = ap (λ y. m.admits y nothing q.size) (cleared_pool q vs x) ∙ back_admits laws x.pool (own q x) vs q.size ok ∙ fits

  -- the table without own RAB and victims
  abbrev freed_table : List Bearer
  freed_table = (free_own (own q x) x).bearers

  unset : ascending x.bearers ≡ true → set_up_as q.place q.rab (cleared q vs x).bearers ≡ None
  unset s =
      let once = once_from x.bearers s in
      ap (set_up_as q.place q.rab) (all_bearers vs (free_own (own q x) x)) ∙
      unset_all q.place q.rab vs freed_table (freed_once x once (own q x)) (freed q.place q.rab x once (own q x) refl)

  pub done_with : DoneWith q vs x (done q vs x).state
  unfolding done
  done_with = record {
    between = (cleared q vs x).pool;
    emptied = λ k. ap (λ y. m.holds y k) (cleared_pool q vs x) ∙ back_holds laws x.pool (own q x) vs k ok;
    room = cleared_room;
    bearer = newly q vs x;
    size = refl;
    priority = refl;
    grant = λ k l f. taken_smallest laws (cleared q vs x).pool q.size cleared_sound cleared_room k l f;
    sound = take_sound laws (cleared q vs x).pool q.size cleared_sound cleared_room;
    set_up = λ s. entered (newly q vs x) (cleared q vs x).bearers (unset s);
    gone = λ s v a.
        entered_others (newly q vs x) v.place v.rab (cleared q vs x).bearers (other_key q.place q.rab v.place v.rab (others v a)) (unset s) ∙
        ap (set_up_as v.place v.rab) (all_bearers vs (free_own (own q x) x)) ∙
        gone_all v vs freed_table (freed_once x (once_from x.bearers s) (own q x)) a;
    others = λ s p r other apart.
        let once = once_from x.bearers s in
        let off = other_key q.place q.rab p r other in
        entered_others (newly q vs x) p r (cleared q vs x).bearers off (unset s) ∙
        ap (set_up_as p r) (all_bearers vs (free_own (own q x) x)) ∙
        same_all p r vs freed_table (freed_once x once (own q x)) apart ∙
        freed_others q.place q.rab x once p r off (own q x) refl;
    queue = λ a.
        let e = free_queue (own q x) x in
        queue_after vs (free_own (own q x) x) (subst Apart (sym e) (apart_from x.queue a)) ∙ ap (filter (λ w. not (asks_for_one vs w))) e;
    connections = (rest_after vs (free_own (own q x) x)).0 ∙ free_connections (own q x) x;
    tickets = (rest_after vs (free_own (own q x) x)).1 ∙ free_tickets (own q x) x;
  }

-- what was chosen makes room
chosen_room : {m : Radio} (q : Request) (x : State m) (vs : List Bearer) → RightlyChosen q x vs → room_with q x vs ≡ true
chosen_room q x vs c = ⊎_elim (λ none. ap (room_with q x) none.1 ∙ none.0) (λ some. some.2.room) c

pub room_had : (m : Radio) → Laws m → RoomIsHad m
room_had m laws = record {
  at_once = λ q x vs ok e. let c = (right_victims m).chosen q x vs e in done_with laws q vs x ok (chosen_room q x vs c) (victims_others q x vs c);
  served = λ q x ok f. done_with laws q [] (at_queue x (without_request q.place q.rab x.queue)) ok f.fits (λ v a. absurd a);
}
