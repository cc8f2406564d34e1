-- A request may be set up after its own grant and those of its victims are given back.
use Rattle.std.proofs.Common.{◌≡◌, ℕ, ◌+◌, ◌<◌, Bool, true, false, cond, ◌&&◌, ◌||◌, eqb, ltb, List, [], ◌∷◌, Some, None, Option, sym, refl, ap, ◌∙◌, subst, arith}
use Rattle.bearers.proofs.Keeps.{Kept, keeps_without, keeps_left}
use Rattle.bearers.proofs.Known.{fewer, same_new, length_without, known_without}
use Rattle.bearers.proofs.Standing.{Once, once_from, once_lookup, unset_without, none_head}
use Rattle.bearers.proofs.Waiting.{apart_from, none_without}
use Rattle.controller.specs.Turn.{Ready, Waitable}
use Rattle.rules.specs.Actions.{fail_waiting, free_bearer, report}
use Rattle.rules.specs.Checks.{known}
use Rattle.rules.specs.Preemption.{own}
use Rattle.rules.specs.Radio.{Radio}
use Rattle.rules.specs.Request.{pre_empt, free_own}
use Rattle.rules.specs.State.{State, each, tell, silent, at_queue}
use Rattle.rules.specs.Tables.{is_some, of_rab, set_up_as, waits_as, without_bearer, without_request, known_in}
use Rattle.rules.specs.declared.bearer.Bearer.{Bearer}
use Rattle.rules.specs.declared.bearer.Request.{Request}
use Rattle.rules.specs.declared.report.Cause.{Cause}
use Rattle.rules.specs.declared.report.Cause.TheVariants.{RabPreempted}
use Rattle.rules.specs.declared.report.ReportKind.TheVariants as kind
use Rattle.std.proofs.lemmas.Bool.{ltb-true}
use Rattle.std.proofs.lemmas.Bool.Decides.{nat_tests}

-- the tables of a state are in order
abbrev pub Ordered : {m : Radio} → State m → Type 0
Ordered x = Kept x.bearers x.queue

-- a table without a RAB that does not stand in it
without_absent : (p r : ℕ) (bs : List Bearer) → set_up_as p r bs ≡ None → without_bearer p r bs ≡ bs
without_absent p r [] e = refl
without_absent p r (b ∷ bs) e =
    let n = none_head p r b bs e in
    ap (λ t. cond t bs (b ∷ without_bearer p r bs)) n.0 ∙ ap (λ ys. b ∷ ys) (without_absent p r bs n.1)

-- what a look-up finds is the RAB's
found_step : (p r : ℕ) (a b : Bearer) (bs : List Bearer) (t : Bool) → of_rab p r a ≡ t → cond t (Some a) (set_up_as p r bs) ≡ Some b →
    (set_up_as p r bs ≡ Some b → of_rab p r b ≡ true) → of_rab p r b ≡ true
found_step p r a b bs true e f ih = let s : a ≡ b = cc in ap (of_rab p r) (sym s) ∙ e
found_step p r a b bs false e f ih = ih f

found_of : (p r : ℕ) (b : Bearer) (bs : List Bearer) → set_up_as p r bs ≡ Some b → of_rab p r b ≡ true
found_of p r b [] e = cc
found_of p r b (a ∷ bs) e = found_step p r a b bs (of_rab p r a) refl e (found_of p r b bs)

pub found_named : (p r : ℕ) (b : Bearer) (bs : List Bearer) → set_up_as p r bs ≡ Some b → (b.place ≡ p) × (b.rab ≡ r)
found_named p r b bs e = let f = found_of p r b bs e in (grind (arith, nat_tests), grind (arith, nat_tests))

-- a RAB that stands and does not wait, taken out: one fewer
one_fewer_known : (p r : ℕ) (bs : List Bearer) (qs : List Request) → Once bs → is_some (set_up_as p r bs) ≡ true → waits_as p r qs ≡ None →
    known_in (without_bearer p r bs) qs + 1 ≡ known_in bs qs
one_fewer_known p r bs qs once some none =
    let l = length_without p r bs some in
    let n = same_new (without_bearer p r bs) bs p r qs (λ k j off. once_lookup p r k j bs once ∙ ap (λ t. cond t None (set_up_as k j bs)) off) none in
    omega arith

module _ {m : Radio} (q : Request) where
  dropped : (b : Bearer) (x : State m) → Ordered x → Ready q x → (o : Option Bearer) → set_up_as b.place b.rab x.bearers ≡ o → Ordered (free_bearer b x) × Ready q (free_bearer b x)
  dropped b x k r None e =
      let same = without_absent b.place b.rab x.bearers e in (
        subst (λ bs. Kept bs x.queue) (sym same) k,
        record {
          level = r.level;
          unset = ap (set_up_as q.place q.rab) same ∙ r.unset;
          idle = r.idle;
          room = subst (λ bs. known_in bs x.queue < 64) (sym same) r.room;
        },
      )
  dropped b x k r (Some a) e =
      let some = ap is_some e in
      let n = known_without b.place b.rab x.bearers x.queue (once_from x.bearers k.sorted) (apart_from x.queue k.single) some in (
        keeps_without x.bearers x.queue k b.place b.rab some,
        record {
          level = r.level;
          unset = unset_without b.place b.rab q.place q.rab x.bearers (once_from x.bearers k.sorted) r.unset;
          idle = r.idle;
          room = omega (arith, n, r.room);
        },
      )

  failing : (c : Cause) (p r : ℕ) (x : State m) → Ordered x → Ready q x → (w : Bool) →
      Ordered (cond w (tell (report kind.Failed p r c) (at_queue x (without_request p r x.queue))) (silent x)).state ×
      Ready q (cond w (tell (report kind.Failed p r c) (at_queue x (without_request p r x.queue))) (silent x)).state
  failing c p r x k d true =
      let n = fewer x.bearers p r x.queue in (
        keeps_left x.bearers x.queue k p r,
        record {
          level = d.level;
          unset = d.unset;
          idle = none_without p r q.place q.rab x.queue (apart_from x.queue k.single) d.idle;
          room = omega (arith, n, d.room);
        },
      )
  failing c p r x k d false = (k, d)

  -- another RAB is pre-empted
  pre_empted : (b : Bearer) (x : State m) → Ordered x → Ready q x → Ordered (pre_empt b x).state × Ready q (pre_empt b x).state
  pre_empted b x k r =
      let f = failing RabPreempted b.place b.rab x k r (is_some (waits_as b.place b.rab x.queue)) in
      dropped b (fail_waiting RabPreempted b.place b.rab x).state f.0 f.1 (set_up_as b.place b.rab (fail_waiting RabPreempted b.place b.rab x).state.bearers) refl

  all_pre_empted : (vs : List Bearer) (x : State m) → Ordered x → Ready q x → Ready q (each pre_empt vs x).state
  all_pre_empted [] x k r = r
  all_pre_empted (v ∷ vs) x k r = let a = pre_empted v x k r in all_pre_empted vs (pre_empt v x).state a.0 a.1

  own_freed : (x : State m) → Ordered x → Waitable q x → (o : Option Bearer) → own q x ≡ o → Ordered (free_own o x) × Ready q (free_own o x)
  own_freed x k w None e =
      let full : ltb (known x) 64 ≡ true = ap (λ o. is_some o || ltb (known x) 64) (sym e) ∙ w.room in
      (k, record { level = w.level; unset = e; idle = w.idle; room = ltb-true (known x) 64 full })
  own_freed x k w (Some b) e =
      let n = found_named q.place q.rab b x.bearers e in
      let once = once_from x.bearers k.sorted in
      let at_name : without_bearer b.place b.rab x.bearers ≡ without_bearer q.place q.rab x.bearers =
      ap (λ p. without_bearer p b.rab x.bearers) n.0 ∙ ap (λ r. without_bearer q.place r x.bearers) n.1
      in
      let some : is_some (set_up_as q.place q.rab x.bearers) ≡ true = ap is_some e in
      let fewer' = one_fewer_known q.place q.rab x.bearers x.queue once some w.idle in
      let self : (eqb q.place q.place && eqb q.rab q.rab) ≡ true = grind (arith, nat_tests) in
      let unset : set_up_as q.place q.rab (without_bearer q.place q.rab x.bearers) ≡ None =
      once_lookup q.place q.rab q.place q.rab x.bearers once ∙ ap (λ t. cond t None (set_up_as q.place q.rab x.bearers)) self
      in
      let room : known_in (without_bearer q.place q.rab x.bearers) x.queue < 64 = omega (arith, fewer', k.few) in (
        subst (λ bs. Kept bs x.queue) (sym at_name) (keeps_without x.bearers x.queue k q.place q.rab some),
        record {
          level = w.level;
          unset = subst (λ bs. set_up_as q.place q.rab bs ≡ None) (sym at_name) unset;
          idle = w.idle;
          room = subst (λ bs. known_in bs x.queue < 64) (sym at_name) room;
        },
      )

  -- its own grant back, then the victims': it may be set up
  pub ready_after : (vs : List Bearer) (x : State m) → Ordered x → Waitable q x → Ready q (each pre_empt vs (free_own (own q x) x)).state
  ready_after vs x k w = let f = own_freed x k w (own q x) refl in all_pre_empted vs (free_own (own q x) x) f.0 f.1
