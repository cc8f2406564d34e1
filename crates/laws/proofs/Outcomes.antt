-- What each item reports, and in which order.
use Rattle.std.proofs.Common.{◌≡◌, ℕ, Bool, true, false, cond, ◌⊎◌, List, [], ◌∷◌, ◌++◌, Some, None, Option, refl, ap, ◌∙◌, subst, inl, inr, arith}
use Rattle.rules.specs.Radio.{Radio}
use Rattle.rules.specs.State.{State, Outcome, silent, tell, then, each, at_queue}
use Rattle.rules.specs.Tables.{is_some, set_up_as, waits_as, without_request}
use Rattle.rules.specs.Connections.{opened, state_at}
use Rattle.rules.specs.Actions.{report, done_report, refuse, enqueue, keep_size}
use Rattle.rules.specs.Checks.{fault_of}
use Rattle.rules.specs.Preemption.{own, victims}
use Rattle.rules.specs.Request.{request_of, supersede, pre_empt, free_own, done, done_or_not, ask, unless_fault, assign_anew, assign, release_unset, release_known, release}
use Rattle.rules.specs.Queue.{serve}
use Rattle.rules.specs.Events.{assign_item, release_item}
use Rattle.rules.specs.declared.bearer.Bearer.{Bearer}
use Rattle.rules.specs.declared.bearer.Request.{Request}
use Rattle.rules.specs.declared.connection.ConnectionState.{ConnectionState}
use Rattle.rules.specs.declared.connection.ConnectionState.TheVariants.{Closed, Open, Preparing, Prepared, Executed}
use Rattle.rules.specs.declared.item.Assignment.{Assignment}
use Rattle.rules.specs.declared.report.Report.{Report}
use Rattle.rules.specs.declared.report.ReportKind.TheVariants as kind
use Rattle.rules.specs.declared.report.Cause.{Cause}
use Rattle.rules.specs.declared.report.Cause.TheVariants as cause
use Rattle.laws.specs.Lists.{Among}
use Rattle.laws.specs.Victims.{RightlyChosen}
use Rattle.laws.specs.Items.{Answers, superseded, Go, Settles, waiting, VictimsOf, ThenServed, EachItemAnsweredOnce}
use Rattle.laws.proofs.Anew.{set_up_key}
use Rattle.laws.proofs.Fronts.{right_victims}
use Rattle.laws.proofs.Losses.{victims_others, all_go}
use Rattle.laws.proofs.Turns.{serves}

-- the going of victims, and one answer
record Ends (vs : List Bearer) (lowest highest p r : ℕ) (rs : List Report) : Type 0 where
  losses : List Report
  answer : Report
  all : rs ≡ losses ++ answer ∷ []
  go : Go vs losses
  others : (v : Bearer) → Among v vs → v.place ≡ p → v.rab ≡ r → ⊥
  answers : Answers lowest highest p r answer

-- an answer alone
alone_ends : (lowest highest p r : ℕ) (o : Report) → Answers lowest highest p r o → Ends [] lowest highest p r (o ∷ [])
alone_ends lowest highest p r o a = record { losses = []; answer = o; all = refl; go = refl; others = λ v n. absurd n; answers = a }

-- behind what is superseded
behind : (waited : Bool) (vs : List Bearer) (lowest highest p r : ℕ) (first rs : List Report) → first ≡ superseded waited p r → Ends vs lowest highest p r rs →
    Settles waited vs lowest highest p r (first ++ rs)
behind waited vs lowest highest p r first rs e h = record {
  losses = h.losses;
  answer = h.answer;
  all = ap (λ zs. zs ++ rs) e ∙ ap (λ zs. superseded waited p r ++ zs) h.all;
  go = h.go;
  others = h.others;
  answers = h.answers;
}

open_or_not : (s : ConnectionState) → (s ≡ Open → ⊥) → opened s ≡ false
open_or_not Closed h = refl
open_or_not Open h = absurd (h refl)
open_or_not Preparing h = refl
open_or_not Prepared h = refl
open_or_not Executed h = refl

module _ {m : Radio} where
  superseded_when : (t : Bool) (o : Report) (x y : State m) → (cond t (tell o y) (silent x)).reports ≡ cond t (o ∷ []) []
  superseded_when true o x y = refl
  superseded_when false o x y = refl

  pub is_superseded : (p r : ℕ) (x : State m) → (supersede p r x).reports ≡ superseded (waiting p r x) p r
  is_superseded p r x = superseded_when (waiting p r x) (report kind.Failed p r cause.RequestSuperseded) x (at_queue x (without_request p r x.queue))

  -- the victims of a request, or none
  abbrev Needed : Request → State m → List Bearer → Type 0
  Needed q x vs = (vs ≡ []) ⊎ RightlyChosen q x vs

  -- what an item for a request reports, with its victims
  abbrev Told : Request → ℕ → ℕ → State m → List Report → Type 0
  Told q p r x rs = (vs : List Bearer) × Needed q x vs × Ends vs 1 3 p r rs

  waits_or_fails : (q : Request) (t : Bool) (x : State m) →
      Ends [] 1 3 q.place q.rab (cond t (enqueue q x) (refuse kind.Failed q.place q.rab cause.MaximumBitRateNotAvailable x)).reports
  waits_or_fails q true x =
      alone_ends 1 3 q.place q.rab (report kind.Queued q.place q.rab cause.NoCause) record { place = refl; rab = refl; low = omega arith; high = omega arith }
  waits_or_fails q false x =
      alone_ends 1 3 q.place q.rab (report kind.Failed q.place q.rab cause.MaximumBitRateNotAvailable)
      record { place = refl; rab = refl; low = omega arith; high = omega arith }

  done_told : (q : Request) (o : Option (List Bearer)) (x : State m) → victims q x ≡ o → Told q q.place q.rab x (done_or_not q o x).reports
  unfolding done
  done_told q None x e = ([], inl refl, waits_or_fails q q.priority.queuing x)
  done_told q (Some vs) x e =
      let y = free_own (own q x) x in
      let c = (right_victims m).chosen q x vs e in (
        vs,
        inr c,
        record {
          losses = (each pre_empt vs y).reports;
          answer = done_report q.place q.rab q.size;
          all = refl;
          go = all_go vs y;
          others = victims_others q x vs c;
          answers = record { place = refl; rab = refl; low = omega arith; high = omega arith };
        },
      )

  ask_told : (q : Request) (x : State m) → Told q q.place q.rab x (ask q x).reports
  unfolding ask
  ask_told q x = done_told q (victims q x) x refl

  keeps : (p r : ℕ) (b : Bearer) (x : State m) → set_up_as p r x.bearers ≡ Some b → Ends [] 1 3 p r (keep_size b x).reports
  keeps p r b x e =
      let k = set_up_key p r b x.bearers e in
      alone_ends 1 3 p r (done_report b.place b.rab b.size) record { place = k.0; rab = k.1; low = omega arith; high = omega arith }

  asked_or_kept : (p : ℕ) (a : Assignment) (b : Bearer) (x : State m) (t : Bool) → set_up_as p a.rab x.bearers ≡ Some b →
      Told (request_of p a (Some b)) p a.rab x (cond t (ask (request_of p a (Some b)) x) (keep_size b x)).reports
  asked_or_kept p a b x true e = ask_told (request_of p a (Some b)) x
  asked_or_kept p a b x false e = ([], inl refl, keeps p a.rab b x e)

  item_told : (p : ℕ) (a : Assignment) (o : Option Bearer) (f : Option Cause) (x : State m) → set_up_as p a.rab x.bearers ≡ o →
      Told (request_of p a o) p a.rab x (unless_fault f p a o x).reports
  item_told p a o (Some c) x e =
      ([], inl refl, alone_ends 1 3 p a.rab (report kind.Failed p a.rab c) record { place = refl; rab = refl; low = omega arith; high = omega arith })
  item_told p a None None x e = ask_told (request_of p a None) x
  item_told p a (Some b) None x e = asked_or_kept p a b x a.flags.parameters e

  anew_told : (p : ℕ) (a : Assignment) (x : State m) → Told (request_of p a (set_up_as p a.rab x.bearers)) p a.rab x (assign_anew p a x).reports
  anew_told p a x = item_told p a (set_up_as p a.rab x.bearers) (fault_of a (set_up_as p a.rab x.bearers) x) x refl

  -- a set-up or modify item
  pub assign_settles : (p : ℕ) (a : Assignment) (x : State m) →
      (vs : List Bearer) × VictimsOf p a x vs × Settles (waiting p a.rab x) vs 1 3 p a.rab (assign p a x).reports
  unfolding assign
  assign_settles p a x =
      let o = supersede p a.rab x in
      let t = anew_told p a o.state in
      (t.0, t.1, behind (waiting p a.rab x) t.0 1 3 p a.rab o.reports (assign_anew p a o.state).reports (is_superseded p a.rab x) t.2)

  released : (p r : ℕ) (b : Bearer) (x : State m) → set_up_as p r x.bearers ≡ Some b → Ends [] 4 5 p r (report kind.Released b.place b.rab cause.NoCause ∷ [])
  released p r b x e =
      let k = set_up_key p r b x.bearers e in
      alone_ends 4 5 p r (report kind.Released b.place b.rab cause.NoCause) record { place = k.0; rab = k.1; low = omega arith; high = omega arith }

  unset_settles : (p r : ℕ) (o : Option Request) (x : State m) → waits_as p r x.queue ≡ o → Settles (is_some o) [] 4 5 p r (release_unset o p r x).reports
  unset_settles p r None x e =
      behind false [] 4 5 p r [] (report kind.NotReleased p r cause.InvalidRabId ∷ []) refl
      (alone_ends 4 5 p r (report kind.NotReleased p r cause.InvalidRabId) record { place = refl; rab = refl; low = omega arith; high = omega arith })
  unset_settles p r (Some q) x e =
      behind true [] 4 5 p r (supersede p r x).reports (report kind.Released p r cause.NoCause ∷ []) (is_superseded p r x ∙ ap (λ o. superseded (is_some o) p r) e)
      (alone_ends 4 5 p r (report kind.Released p r cause.NoCause) record { place = refl; rab = refl; low = omega arith; high = omega arith })

  known_settles : (p r : ℕ) (o : Option Bearer) (x : State m) → set_up_as p r x.bearers ≡ o → Settles (waiting p r x) [] 4 5 p r (release_known o p r x).reports
  known_settles p r None x e = unset_settles p r (waits_as p r x.queue) x refl
  known_settles p r (Some b) x e =
      behind (waiting p r x) [] 4 5 p r (supersede p r x).reports (report kind.Released b.place b.rab cause.NoCause ∷ []) (is_superseded p r x) (released p r b x e)

  -- a release item
  pub release_settles : (p r : ℕ) (x : State m) → Settles (waiting p r x) [] 4 5 p r (release p r x).reports
  unfolding release
  release_settles p r x = known_settles p r (set_up_as p r x.bearers) x refl

  -- one of two is done, and then the queue is served
  then_served : (t : Bool) (o o' : Outcome m) → ThenServed (cond t o o') (then (cond t o o') serve)
  then_served t o o' = let y = cond t o o' in record { rest = (serve y.state).reports; reports = refl; serves = serves y.state }

  served_first : (t : Bool) (o o' : Outcome m) → t ≡ true → ThenServed o (then (cond t o o') serve)
  served_first t o o' e = subst (λ z. ThenServed z (then (cond t o o') serve)) (ap (λ u. cond u o o') e) (then_served t o o')

  served_else : (t : Bool) (o o' : Outcome m) → t ≡ false → ThenServed o' (then (cond t o o') serve)
  served_else t o o' e = subst (λ z. ThenServed z (then (cond t o o') serve)) (ap (λ u. cond u o o') e) (then_served t o o')

  assign_served : (p : ℕ) (a : Assignment) (x : State m) → state_at p x ≡ Open → ThenServed (assign p a x) (assign_item p a x)
  unfolding assign_item
  assign_served p a x e = served_first (opened (state_at p x)) (assign p a x) (refuse kind.Failed p a.rab cause.RelocationTriggered x) (ap opened e)

  assign_failed : (p : ℕ) (a : Assignment) (x : State m) → (state_at p x ≡ Open → ⊥) → ThenServed (tell (report kind.Failed p a.rab cause.RelocationTriggered) x) (assign_item p a x)
  unfolding assign_item
  assign_failed p a x h = served_else (opened (state_at p x)) (assign p a x) (refuse kind.Failed p a.rab cause.RelocationTriggered x) (open_or_not (state_at p x) h)

  release_served : (p r : ℕ) (x : State m) → state_at p x ≡ Open → ThenServed (release p r x) (release_item p r x)
  unfolding release_item
  release_served p r x e = served_first (opened (state_at p x)) (release p r x) (refuse kind.NotReleased p r cause.RelocationTriggered x) (ap opened e)

  release_failed : (p r : ℕ) (x : State m) → (state_at p x ≡ Open → ⊥) → ThenServed (tell (report kind.NotReleased p r cause.RelocationTriggered) x) (release_item p r x)
  unfolding release_item
  release_failed p r x h = served_else (opened (state_at p x)) (release p r x) (refuse kind.NotReleased p r cause.RelocationTriggered x) (open_or_not (state_at p x) h)

pub items_answered : (m : Radio) → EachItemAnsweredOnce m
items_answered m = record {
  assigns = assign_settles;
  releases = release_settles;
  assign_open = assign_served;
  release_open = release_served;
  assign_else = assign_failed;
  release_else = release_failed;
}
