-- Where book and state agree between two calls, the law holds of the accounts and of the radio pool, but for what the serving of the queue gives.
use Rattle.std.proofs.Common.{◌≡◌, ℕ, ◌<◌, false, Some, None, Ok, Option, sym, refl, ap, ◌∙◌, arith}
use Rattle.std.proofs.lemmas.Bool.Decides.{nat_tests}
use Rattle.rules.specs.Radio.{Radio}
use Rattle.rules.specs.State.{State}
use Rattle.rules.specs.Tables.{is_some, set_up_as, waits_as}
use Rattle.rules.specs.Calls.{answer, rab_state, size_in_use}
use Rattle.rules.specs.Refusals.{question_refusal}
use Rattle.rules.specs.declared.bearer.Bearer.{Bearer}
use Rattle.rules.specs.declared.bearer.Request.{Request}
use Rattle.rules.specs.declared.refusal.Refusal.{Refusal}
use Rattle.runs.specs.Ledger.{Ledger}
use Rattle.runs.specs.Law.{AccountsHold, RadioHolds, size_booked, number_booked}
use Rattle.runs.proofs.Bearers.{sizes_by, sizes_at}
use Rattle.runs.proofs.Grants.{one_rab, owner_of}
use Rattle.runs.proofs.Agrees.{Agrees, size_waited, number_and_size}

same_some : (o : Option Request) → is_some (size_waited o) ≡ is_some o
same_some None = refl
same_some (Some q) = refl

same_size : (o : Option Bearer) → size_booked (number_and_size o) ≡ size_in_use o
same_size None = refl
same_size (Some b) = refl

answered : {X : Type 0} (o : Option Refusal) (v s : X) → answer o v ≡ Ok s → s ≡ v
answered None v s e = cc
answered (Some f) v s e = let z : ◌≡◌ {A = ℕ} 0 1 = cc in absurd (omega arith)

-- the bearer behind a number and a size
behind : (o : Option Bearer) (g s : ℕ) → number_and_size o ≡ Some (g, s) → (b : Bearer) × (o ≡ Some b) × (b.grant ≡ g) × (b.size ≡ s)
behind None g s e = let z : ◌≡◌ {A = ℕ} 0 1 = cc in absurd (omega arith)
behind (Some b) g s e = let f : ◌≡◌ {A = ℕ × ℕ} (b.grant, b.size) (g, s) = cc in (b, refl, ap (λ z. z.0) f, ap (λ z. z.1) f)

module _ {m : Radio} (l : Ledger) (x : State m) (a : Agrees (λ _ _. 0) l x) where
  pub tells_accounts : AccountsHold l x
  tells_accounts = record {
    each_answered = λ p r. let n = a.counts p r in grind (arith, nat_tests);
    questions = λ p r s e.
        answered (question_refusal p x) (rab_state (is_some (waits_as p r x.queue)) (size_in_use (set_up_as p r x.bearers))) s e ∙
        ap (λ t. rab_state t (size_in_use (set_up_as p r x.bearers))) (sym (ap is_some (a.waiting p r) ∙ same_some (waits_as p r x.queue))) ∙
        ap (rab_state (is_some (l.waiting p r))) (sym (ap size_booked (a.bearing p r) ∙ same_size (set_up_as p r x.bearers)));
  }

  -- the bearer of a booked RAB
  found : (p r g s : ℕ) → l.bearing p r ≡ Some (g, s) → (b : Bearer) × (set_up_as p r x.bearers ≡ Some b) × (b.grant ≡ g) × (b.size ≡ s)
  found p r g s e = behind (set_up_as p r x.bearers) g s (sym (a.bearing p r) ∙ e)

  pub tells_radio : ((p r s : ℕ) → l.waiting p r ≡ Some s → m.admits x.pool (number_booked (l.bearing p r)) s ≡ false) → RadioHolds l x
  tells_radio quiet = record {
    held = λ p r g s e.
        let f = found p r g s e in
        let z = sizes_at p r f.0 x.bearers a.well f.1 in
        let size : f.0.size ≡ s = f.3 in
        let more : 0 < f.0.size = z.1 in
        (omega arith, a.held g ∙ ap (sizes_by x.bearers) (sym f.2) ∙ z.0 ∙ size);
    apart = λ p r p' r' g s s' e e'.
        let f = found p r g s e in
        let f' = found p' r' g s' e' in
        one_rab p r p' r' f.0 f'.0 x.bearers a.well f.1 f'.1 (f.2 ∙ sym f'.2);
    no_other = λ g some.
        let h = a.held g in
        let o = owner_of g x.bearers a.well (omega arith) in
        (o.0.place, o.0.rab, a.bearing o.0.place o.0.rab ∙ ap number_and_size o.1 ∙ ap (λ n. Some (n, o.0.size)) o.2 ∙ ap (λ n. Some (g, n)) (o.3 ∙ sym h));
    none_admitted = quiet;
    none_denied = a.undenied;
  }
