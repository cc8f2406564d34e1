-- A call that is obeyed: its reports fit the caller's list.
use Rattle.std.proofs.Common.{◌≡◌, ℕ, ◌+◌, ◌-◌, ◌<◌, ◌≤◌, Bool, true, false, cond, List, [], ◌∷◌, ◌++◌, length, drop, set, Some, None, Ok, Option, Result, sym, refl, ap, ◌∙◌, subst, arith}
use Rattle.bearers.proofs.Known.{waiting_known}
use Rattle.bearers.proofs.Waiting.{apart_from}
use Rattle.bearers.specs.View.{bearers_of, queue_of}
use Rattle.bounds.specs.Weights.{Small}
use Rattle.controller.specs.Gave.{Gave}
use Rattle.controller.specs.Listed.{listed}
use Rattle.controller.specs.Page.{page, page_of, write, write_all}
use Rattle.controller.specs.View.{view}
use Rattle.controller.specs.declared.controller.Controller.{Controller}
use Rattle.controller.specs.declared.writing.Sheet.{Sheet}
use Rattle.rules.specs.Radio.{Radio}
use Rattle.rules.specs.State.{State, Outcome}
use Rattle.rules.specs.declared.report.Report.{Report}
use Rattle.std.proofs.lemmas.List.{append_assoc, length-append, set-append_right}
use Rattle.std.proofs.lemmas.Bool.{lt-ltb, le-ltb, ltb-false}
use Rattle.rules.specs.Calls.{answer, unless_refused, handled_of}
use Rattle.rules.specs.Events.{handled}
use Rattle.rules.specs.Message.{Message}
use Rattle.rules.specs.Refusals.{refusal, short, unless_short, message_refusal, frame_refusal}
use Rattle.rules.specs.declared.refusal.Reason.TheVariants as reason
use Rattle.rules.specs.declared.refusal.Refusal.{Refusal}

one : (r s : Report) (done rest : List Report) → write r (page (done ++ s ∷ rest) (length done)) ≡ page ((done ++ r ∷ []) ++ rest) (length (done ++ r ∷ []))
one r s done rest =
    let long : length (done ++ s ∷ rest) ≡ length done + length (s ∷ rest) = length-append done (s ∷ rest) in
    let fits : length done < length (done ++ s ∷ rest) = omega (arith, long) in
    let here : length done - length done ≡ 0 = omega arith in
    let put = set-append_right done (s ∷ rest) (length done) (length done) r refl (omega arith) ∙ ap (λ k. done ++ set (s ∷ rest) k r) here ∙ sym (append_assoc done (r ∷ []) rest) in
    let count : length done + 1 ≡ length (done ++ r ∷ []) = sym (length-append done (r ∷ [])) in
    ap (λ t. cond t (page (set (done ++ s ∷ rest) (length done) r) (length done + 1)) (page (done ++ s ∷ rest) (length done))) (lt-ltb (length done) (length (done ++ s ∷ rest)) fits) ∙
    (λ i. page (put i) (count i))

-- reports that fit stand behind those that are done, and the rest is as it was
written : (rs done rest : List Report) → length rs ≤ length rest → write_all rs (page (done ++ rest) (length done)) ≡ page (done ++ (rs ++ drop (length rs) rest)) (length done + length rs)
written [] done rest l =
    let same : length done ≡ length done + 0 = omega arith in
    ap (page (done ++ rest)) same
written (r ∷ rs) done [] l = absurd (omega arith)
written (r ∷ rs) done (s ∷ rest) l =
    let push = length-append done (r ∷ []) in
    let count : length (done ++ r ∷ []) + length rs ≡ length done + length (r ∷ rs) = omega (arith, push) in
    ap (write_all rs) (one r s done rest) ∙ written rs (done ++ r ∷ []) rest (omega (arith, l)) ∙
    (λ i. page (append_assoc done (r ∷ []) (rs ++ drop (length rs) rest) i) (count i))

-- what is known of a call that was obeyed
pub record Obeyed {m : Radio} (o : Outcome m) (y : State m) (k : ℕ) (before after : List Report) : Type 0 where
  pub state : y ≡ o.state
  pub count : k ≡ length o.reports
  pub list : after ≡ listed o.reports before

pub obeyed : {m : Radio} {o : Outcome m} {y : State m} {k : ℕ} {before : List Report} {s s₁ : Sheet} →
    length o.reports ≤ length before → page_of s ≡ page before 0 → Gave o y s s₁ → k ≡ s₁.count → Obeyed o y k before s₁.reports.now
obeyed {m} {o} {y} {k} {before} {s} {s₁} l new a e =
    let all = a.wrote.page ∙ ap (write_all o.reports) new ∙ written o.reports [] before l in
    let none : 0 + length o.reports ≡ length o.reports = omega arith in
    record { state = a.state; count = e ∙ ap (λ p. p.count) all ∙ none; list = ap (λ p. p.list) all }

-- the tables of a controller are of at most their sizes
pub small : {P : Type 0} (m : Radio) (s : P → m.State) (c : Controller P) → Small (view m s c)
small m s c =
    let t = c.rabs in
    let known = waiting_known (bearers_of t) (queue_of t) (apart_from (queue_of t) t.single) in
    record {
      bearers = omega (arith, t.few);
      queue = omega (arith, known, t.few);
      connections = omega (arith, c.connections.wide);
    }

-- a call that nothing stands against, in the words of its contract, with what it says by the count of its reports
pub record Answers {m : Radio} {A : Type 0} (says : ℕ → A) (f : Option Refusal) (o : Outcome m) (x y : State m) (k : ℕ) (before after : List Report) : Type 0 where
  pub answer : Ok (says k) ≡ answer f (says (length (unless_refused f o x).reports))
  pub state : y ≡ (unless_refused f o x).state
  pub list : after ≡ listed (unless_refused f o x).reports before

pub answers : {m : Radio} {A : Type 0} (says : ℕ → A) {o : Outcome m} {x y : State m} {k : ℕ} {before after : List Report} (f : Option Refusal) → f ≡ None →
    Obeyed o y k before after → Answers says f o x y k before after
answers says None e a = record { answer = ap (λ k. Ok (says k)) a.count; state = a.state; list = a.list }
answers says (Some r) e a = cc

-- a call that is not refused has a list of 288 places or more
pub long_list : (n : ℕ) (f : Option Refusal) → unless_short n f ≡ None → 288 ≤ n
long_list n f e = by_test (short n) refl e
  where
    by_test : (t : Bool) → short n ≡ t → cond t (Some (refusal reason.ShortList 0)) f ≡ None → 288 ≤ n
    by_test true s e = cc
    by_test false s e = ltb-false n 288 s

-- a frame whose message nothing stands against
pub frame_answers : {m : Radio} {x y : State m} {k : ℕ} {before after : List Report} (rd : Result Message Refusal) (g : Message) → Ok g ≡ rd →
    288 ≤ length before → message_refusal g x ≡ None → Obeyed (handled g x) y k before after →
    Answers (λ n. n) (frame_refusal (length before) rd x) (handled_of rd x) x y k before after
frame_answers {m} {x} {y} {k} {before} {after} rd g e long none a =
    let free : frame_refusal (length before) (Ok g) x ≡ None = ap (λ t. cond t (Some (refusal reason.ShortList 0)) (message_refusal g x)) (le-ltb (length before) 288 long) ∙ none in
    subst (λ r. Answers (λ n. n) (frame_refusal (length before) r x) (handled_of r x) x y k before after) e (answers (λ n. n) (frame_refusal (length before) (Ok g) x) free a)
