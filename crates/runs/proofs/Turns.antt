-- The actions of an item's turn that give no grant: refused, kept, queued.
use Rattle.std.proofs.Common.{◌≡◌, ℕ, Bool, true, false, cond, ◌&&◌, eqb, Some, None, Option, sym, refl, ap, ◌∙◌, ⊎_elim, arith}
use Rattle.std.proofs.lemmas.Bool.Decides.{nat_tests}
use Rattle.rules.specs.Radio.{Radio}
use Rattle.rules.specs.State.{State}
use Rattle.rules.specs.Tables.{is_some, waits_as}
use Rattle.rules.specs.Actions.{enqueue}
use Rattle.rules.specs.declared.bearer.Request.{Request}
use Rattle.bearers.proofs.Waiting.{key_cases, waits_append, apart_append}
use Rattle.runs.specs.Ledger.{Ledger, settle, wait, deny, write_rab}
use Rattle.runs.proofs.Agrees.{Agrees, one_more, size_waited}

size_with : (t : Bool) (q : Request) (o : Option Request) → size_waited (cond t (Some q) o) ≡ cond t (Some q.size) (size_waited o)
size_with true q o = refl
size_with false q o = refl

module _ {m : Radio} (todo : ℕ → ℕ → ℕ) (p r : ℕ) (l : Ledger) (x : State m) (a : Agrees (one_more todo p r) l x) (unqueued : waits_as p r x.queue ≡ None) where
  unwaited : l.waiting p r ≡ None
  unwaited = a.waiting p r ∙ ap size_waited unqueued

  -- an item refused or kept: its outcome is counted, and nothing else changes
  pub kept_settled : Agrees todo (settle p r l) x
  kept_settled = record {
    counts = λ k j.
        ⊎_elim
        (λ same.
        let n = a.counts p r in
        let u : is_some (l.waiting p r) ≡ false = ap is_some unwaited in
        let e : l.requests k j ≡ l.requests p r = ap (λ z. l.requests z j) same.0 ∙ ap (l.requests p) same.1 in
        let f : todo k j ≡ todo p r = ap (λ z. todo z j) same.0 ∙ ap (todo p) same.1 in
        grind (arith, nat_tests))
        (λ other. let n = a.counts k j in grind (arith, nat_tests))
        (key_cases p r k j);
    waiting = λ k j.
        ⊎_elim
        (λ same.
        let e : size_waited (waits_as k j x.queue) ≡ None = ap (λ z. size_waited (waits_as z j x.queue)) same.0 ∙ ap (λ z. size_waited (waits_as p z x.queue)) same.1 ∙ ap size_waited unqueued in
        grind (arith, nat_tests))
        (λ other. let e = a.waiting k j in grind (arith, nat_tests))
        (key_cases p r k j);
    bearing = a.bearing;
    used = a.used;
    undenied = a.undenied;
    apart = a.apart;
    well = a.well;
    sound = a.sound;
    held = a.held;
  }

module _ {m : Radio} (todo : ℕ → ℕ → ℕ) (q : Request) (l : Ledger) (x : State m) (a : Agrees (one_more todo q.place q.rab) l x) (unqueued : waits_as q.place q.rab x.queue ≡ None) where
  -- an item queued, which is no trade for the same or less
  pub kept_queued : Agrees todo (wait q.place q.rab q.size (deny 0 l)) (enqueue q x).state
  kept_queued = record {
    counts = λ k j.
        ⊎_elim
        (λ same.
        let n = a.counts q.place q.rab in
        let u : is_some (l.waiting q.place q.rab) ≡ false = ap is_some (a.waiting q.place q.rab ∙ ap size_waited unqueued) in
        let e : l.requests k j ≡ l.requests q.place q.rab = ap (λ z. l.requests z j) same.0 ∙ ap (l.requests q.place) same.1 in
        let g : l.outcomes k j ≡ l.outcomes q.place q.rab = ap (λ z. l.outcomes z j) same.0 ∙ ap (l.outcomes q.place) same.1 in
        let f : todo k j ≡ todo q.place q.rab = ap (λ z. todo z j) same.0 ∙ ap (todo q.place) same.1 in
        let s : is_some (write_rab l.waiting q.place q.rab (Some q.size) k j) ≡ true = grind (arith, nat_tests) in
        grind (arith, nat_tests))
        (λ other. let n = a.counts k j in grind (arith, nat_tests))
        (key_cases q.place q.rab k j);
    waiting = λ k j.
        ap (λ o. cond (eqb k q.place && eqb j q.rab) (Some q.size) o) (a.waiting k j) ∙ sym (size_with (eqb k q.place && eqb j q.rab) q (waits_as k j x.queue)) ∙
        ap size_waited (sym (waits_append k j q x.queue unqueued));
    bearing = a.bearing;
    used = a.used;
    undenied = let n = a.undenied in omega arith;
    apart = apart_append q x.queue a.apart unqueued;
    well = a.well;
    sound = a.sound;
    held = a.held;
  }
