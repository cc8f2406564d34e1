-- What an item of a RAB ASSIGNMENT REQUEST reports: its own answer last, once, and before it what others lose.
use Rattle.std.specs.Prelude.{◌≡◌, ℕ, ◌≤◌, Bool, cond, ◌⊎◌, List, [], ◌∷◌, ◌++◌, ◌≢◌}
use Rattle.rules.specs.Radio.{Radio}
use Rattle.rules.specs.Numbers.{kind_number}
use Rattle.rules.specs.State.{State, Outcome, tell}
use Rattle.rules.specs.Tables.{is_some, set_up_as, waits_as}
use Rattle.rules.specs.Connections.{state_at}
use Rattle.rules.specs.Actions.{report}
use Rattle.rules.specs.Request.{request_of, supersede, assign, release}
use Rattle.rules.specs.Events.{assign_item, release_item}
use Rattle.rules.specs.declared.bearer.Bearer.{Bearer}
use Rattle.rules.specs.declared.connection.ConnectionState.TheVariants.{Open}
use Rattle.rules.specs.declared.item.Assignment.{Assignment}
use Rattle.rules.specs.declared.report.Report.{Report}
use Rattle.rules.specs.declared.report.ReportKind.TheVariants as kind
use Rattle.rules.specs.declared.report.Cause.TheVariants as cause
use Rattle.laws.specs.Lists.{Among}
use Rattle.laws.specs.Victims.{RightlyChosen}
use Rattle.laws.specs.Serving.{Serves}

-- the answer to an item for a RAB, of a kind within bounds
pub record Answers (lowest highest p r : ℕ) (o : Report) : Type 0 where
  pub place : o.place ≡ p
  pub rab : o.rab ≡ r
  pub low : lowest ≤ kind_number o.kind
  pub high : kind_number o.kind ≤ highest

-- if a request of the item's RAB waited, it fails first, with cause 9
abbrev pub superseded : Bool → ℕ → ℕ → List Report
superseded waited p r = cond waited (report kind.Failed p r cause.RequestSuperseded ∷ []) []

-- a victim goes: if a modification waited on it, that fails with cause 1; then its release is requested with cause 1
abbrev pub going : Bool → Bearer → List Report
going waited v =
    cond waited (report kind.Failed v.place v.rab cause.RabPreempted ∷ []) [] ++
    report kind.ReleaseRequested v.place v.rab cause.RabPreempted ∷ []

-- victims go one after the other
abbrev pub Go : List Bearer → List Report → Type 0
Go [] rs = rs ≡ []
Go (v ∷ vs) rs = (waited : Bool) × (rest : List Report) × (rs ≡ going waited v ++ rest) × Go vs rest

-- what an item reports: what it supersedes, the going of its victims, all of them other RABs, and one answer at the end
pub record Settles (waited : Bool) (vs : List Bearer) (lowest highest p r : ℕ) (rs : List Report) : Type 0 where
  pub losses : List Report
  pub answer : Report
  pub all : rs ≡ superseded waited p r ++ (losses ++ answer ∷ [])
  pub go : Go vs losses
  pub others : (v : Bearer) → Among v vs → v.place ≡ p → v.rab ≢ r
  pub answers : Answers lowest highest p r answer

module _ {m : Radio} where
  -- whether a request of a RAB waits
  abbrev pub waiting : ℕ → ℕ → State m → Bool
  waiting p r x = is_some (waits_as p r x.queue)

  -- the victims of an item: none, or those that its request needs once it has superseded what waited
  abbrev pub VictimsOf : ℕ → Assignment → State m → List Bearer → Type 0
  VictimsOf p a x vs =
      let y = (supersede p a.rab x).state in
      (vs ≡ []) ⊎ RightlyChosen (request_of p a (set_up_as p a.rab y.bearers)) y vs

  -- behind what an item did the queue is served
  pub record ThenServed (first all : Outcome m) : Type 0 where
    pub rest : List Report
    pub reports : all.reports ≡ first.reports ++ rest
    pub serves : Serves first.state rest all.state

-- items over a kind of pool, in every state
pub record EachItemAnsweredOnce (m : Radio) : Type 0 where
  -- a set-up or modify item on an open connection: its answer is of kind 1, 2 or 3
  pub assigns : (p : ℕ) (a : Assignment) (x : State m) →
      (vs : List Bearer) × VictimsOf p a x vs × Settles (waiting p a.rab x) vs 1 3 p a.rab (assign p a x).reports
  -- a release item on an open connection: nobody is pre-empted, and its answer is of kind 4 or 5
  pub releases : (p r : ℕ) (x : State m) → Settles (waiting p r x) [] 4 5 p r (release p r x).reports
  -- so it is done, and then the queue is served
  pub assign_open : (p : ℕ) (a : Assignment) (x : State m) → state_at p x ≡ Open → ThenServed (assign p a x) (assign_item p a x)
  pub release_open : (p r : ℕ) (x : State m) → state_at p x ≡ Open → ThenServed (release p r x) (release_item p r x)
  -- on a connection that is not open an item fails with cause 3, and before the queue is served nothing else happens
  pub assign_else : (p : ℕ) (a : Assignment) (x : State m) → (state_at p x ≢ Open) →
      ThenServed (tell (report kind.Failed p a.rab cause.RelocationTriggered) x) (assign_item p a x)
  pub release_else : (p r : ℕ) (x : State m) → (state_at p x ≢ Open) →
      ThenServed (tell (report kind.NotReleased p r cause.RelocationTriggered) x) (release_item p r x)
