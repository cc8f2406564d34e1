-- An Iu release: a running relocation ends, all on the place go, the place is closed, the queue served.
use Rattle.std.proofs.Common.{◌≡◌, ℕ, ◌<◌, Bool, true, false, cond, ◌||◌, eqb, List, [], ◌∷◌, length, set, None, filter, sym, refl, ap, ◌∙◌, subst, ⊎_elim, arith}
use Rattle.std.proofs.lemmas.List.{length-map}
use Rattle.std.proofs.lemmas.Bool.Decides.{nat_tests}
use Rattle.std.proofs.lemmas.Bool.{eqb-true}
use Rattle.rules.specs.Radio.{Radio}
use Rattle.rules.specs.State.{State, silent, then, each}
use Rattle.rules.specs.Tables.{waits_as, waits_at, stands_at}
use Rattle.rules.specs.Connections.{opened, reopened, preparing, prepared, places_of, state_at, vacant}
use Rattle.rules.specs.Actions.{fail_all, drop_bearer, free_bearer}
use Rattle.rules.specs.Queue.{serve}
use Rattle.rules.specs.Relocation.{failure, ue_at, others, ended}
use Rattle.rules.specs.Events.{end_if_running, drop_place, close, iu_release}
use Rattle.rules.specs.declared.bearer.Bearer.{Bearer}
use Rattle.rules.specs.declared.item.ReadItem.{ReadItem}
use Rattle.rules.specs.declared.report.ReportKind.TheVariants as kind
use Rattle.rules.specs.declared.report.Cause.TheVariants as cause
use Rattle.runs.specs.Ledger.{Ledger, take_reports, unset}
use Rattle.runs.specs.Law.{Laws}
use Rattle.runs.proofs.Quiet.{serve_quiet}
use Rattle.runs.proofs.Agrees.{kept_drop}
use Rattle.runs.proofs.Bearers.{well_once}
use Rattle.runs.proofs.Few.{down_few}
use Rattle.runs.proofs.Fed.{Stands, fed_then}
use Rattle.runs.proofs.Hole.{Stand}
use Rattle.runs.proofs.Victims.{among_kept, once_kept, stand_listed}
use Rattle.runs.proofs.Served.{kept_serve}
use Rattle.runs.proofs.Conns.{seat_set, change}
use Rattle.runs.proofs.Rest.{rest_drop}
use Rattle.runs.proofs.Rabs.{Rabs, no_items, take_cancels, rabs_ended, rabs_fail_all, restated, failed_none}

-- all are of one place
abbrev At : ℕ → List Bearer → Type 0
At p [] = Unit {0}
At p (b ∷ bs) = (b.place ≡ p) × At p bs

at_kept : (p : ℕ) (bs : List Bearer) → At p (filter (stands_at p) bs)
at_kept p [] = tt
at_kept p (b ∷ bs) = at (stands_at p b) refl (at_kept p bs)
  where
    at : (t : Bool) → eqb b.place p ≡ t → At p (filter (stands_at p) bs) → At p (cond t (b ∷ filter (stands_at p) bs) (filter (stands_at p) bs))
    at true e ih = (eqb-true b.place p e, ih)
    at false e ih = ih

module _ {m : Radio} (laws : Laws m) (fp : ℕ) (is : List ReadItem) where
  -- set-up RABs of a place on which none waits go, one after the other
  gone : (todo : ℕ → ℕ → ℕ) (p : ℕ) (vs : List Bearer) (l : Ledger) (x : State m) → Stands todo l x → Stand x.bearers vs → At p vs → ((j : ℕ) → waits_as p j x.queue ≡ None) →
      Stands todo (take_reports fp is (each (drop_bearer kind.Gone cause.IuReleased) vs x).reports l) (each (drop_bearer kind.Gone cause.IuReleased) vs x).state
  gone todo p [] l x s ok at none = s
  gone todo p (b ∷ vs) l x s ok at none =
      let idle : waits_as b.place b.rab x.queue ≡ None = ap (λ z. waits_as z b.rab x.queue) at.0 ∙ none b.rab in
      gone todo p vs (unset b.place b.rab l) (free_bearer b x) record {
        agrees = kept_drop laws todo cause.IuReleased b l x s.agrees ok.0;
        few = let f = down_few b x s.agrees.well ok.0 idle in let g = s.few in omega arith;
        idle = s.idle;
      } ok.1 at.1 none

  gone_queue : (vs : List Bearer) (x : State m) → (each (drop_bearer kind.Gone cause.IuReleased) vs x).state.queue ≡ x.queue
  gone_queue [] x = refl
  gone_queue (b ∷ vs) x = gone_queue vs (free_bearer b x)

  gone_place : (p : ℕ) (l : Ledger) (x : State m) → Stands no_items l x → ((j : ℕ) → waits_as p j x.queue ≡ None) →
      Stands no_items (take_reports fp is (drop_place p x).reports l) (drop_place p x).state
  gone_place p l x s none =
      let bs = x.bearers in
      let once = well_once bs s.agrees.well in
      gone no_items p (filter (stands_at p) bs) l x s
      (stand_listed bs (filter (stands_at p) bs) once (once_kept (stands_at p) bs once) (λ k j v e. (among_kept (stands_at p) k j v bs once e).0)) (at_kept p bs) none

  -- a place on which none waits is closed
  closes : (p : ℕ) (l : Ledger) (x : State m) → p < length x.connections → Stands no_items l x → ((j : ℕ) → waits_as p j x.queue ≡ None) → Stands no_items l (close p x)
  closes p l x wide s none =
      restated no_items l x (set x.connections p vacant) x.tickets s (λ k j e.
      ⊎_elim
      (λ same. ap (λ z. waits_as z j x.queue) same.0 ∙ none j)
      (λ other. s.idle k j (sym (ap (λ c. opened c.state) other.1) ∙ e))
      (seat_set x.connections p k vacant wide))

  ends_when : (p : ℕ) (l : Ledger) (x : State m) → Rabs l x → (t : Bool) → Rabs (take_reports fp is (cond t (failure p x) (silent x)).reports l) (cond t (failure p x) (silent x)).state
  ends_when p l x r true = subst (λ b. Rabs b (ended (ue_at p x) x)) (sym (take_cancels fp is cause.RelocationCancelled (others p (places_of (ue_at p x) x)) l)) (rabs_ended (ue_at p x) l x r)
  ends_when p l x r false = r

  -- a failure
  pub rabs_failure : (p : ℕ) (l : Ledger) (x : State m) → Rabs l x → Rabs (take_reports fp is (failure p x).reports l) (failure p x).state
  rabs_failure p l x r = ends_when p l x r true

  ended_wide : (p : ℕ) (x : State m) (t : Bool) → length (cond t (failure p x) (silent x)).state.connections ≡ length x.connections
  ended_wide p x true = length-map x.connections (change (ue_at p x) reopened)
  ended_wide p x false = refl

  pub rabs_release : (p : ℕ) (l : Ledger) (x : State m) → Rabs l x → p < length x.connections → Rabs (take_reports fp is (iu_release p x).reports l) (iu_release p x).state
  unfolding iu_release
  rabs_release p l x r wide =
      let o = end_if_running p x in
      let y = o.state in
      let l₁ = take_reports fp is o.reports l in
      let r₁ = ends_when p l x r (preparing (state_at p x) || prepared (state_at p x)) in
      let w₁ = ended_wide p x (preparing (state_at p x) || prepared (state_at p x)) in
      let o₂ = fail_all cause.IuReleased (waits_at p) y in
      let z = o₂.state in
      let l₂ = take_reports fp is o₂.reports l₁ in
      let r₂ = rabs_fail_all fp is cause.IuReleased refl (waits_at p) l₁ y r₁ in
      let none : (j : ℕ) → waits_as p j z.queue ≡ None = λ j. failed_none cause.IuReleased (waits_at p) y r₁.stands.agrees.apart p j (λ q e. grind (arith, nat_tests)) in
      let o₃ = drop_place p z in
      let w = o₃.state in
      let l₃ = take_reports fp is o₃.reports l₂ in
      let s₃ = gone_place p l₂ z r₂.stands none in
      let none₃ : (j : ℕ) → waits_as p j w.queue ≡ None = λ j. ap (waits_as p j) (gone_queue (filter (stands_at p) z.bearers) z) ∙ none j in
      let w₃ : length w.connections ≡ length z.connections = ap (λ t. length t.1) (rest_drop p z) in
      let s₄ = closes p l₃ w (omega arith) s₃ none₃ in
      fed_then fp is Rabs l o (λ y. then (fail_all cause.IuReleased (waits_at p) y) λ z. then (drop_place p z) λ w. serve (close p w))
      (fed_then fp is Rabs l₁ o₂ (λ z. then (drop_place p z) λ w. serve (close p w))
      (fed_then fp is Rabs l₂ o₃ (λ w. serve (close p w))
      record { stands = kept_serve laws fp is no_items l₃ (close p w) s₄; quiet = serve_quiet (close p w) }))
