-- Pre-emption: who may be pre-empted, in which order, and who is.
use Rattle.std.specs.Prelude.{◌≡◌, ℕ, ◌<◌, ◌≤◌, Bool, true, false, ◌⊎◌, List, [], ◌∷◌, length, Some, None, ◌≢◌}
use Rattle.rules.specs.Grants.{added}
use Rattle.rules.specs.Radio.{Radio}
use Rattle.rules.specs.State.{State}
use Rattle.rules.specs.Connections.{state_at}
use Rattle.rules.specs.Actions.{refuse, enqueue}
use Rattle.rules.specs.Preemption.{own, own_grant, candidates, victims}
use Rattle.rules.specs.Request.{done, ask}
use Rattle.rules.specs.declared.bearer.Bearer.{Bearer}
use Rattle.rules.specs.declared.bearer.Request.{Request}
use Rattle.rules.specs.declared.connection.ConnectionState.TheVariants.{Open}
use Rattle.rules.specs.declared.report.ReportKind.TheVariants as kind
use Rattle.rules.specs.declared.report.Cause.TheVariants as cause
use Rattle.bearers.specs.Order.{ascending}
use Rattle.laws.specs.Lists.{Among, Earlier, Front}

-- a set of grants grown by those of some RABs
abbrev pub with_grants : (ℕ → Bool) → List Bearer → ℕ → Bool
with_grants n [] = n
with_grants n (b ∷ bs) = with_grants (added n b.grant) bs

-- one RAB is named before another: by place, then by RAB ID
abbrev pub NamedBefore : Bearer → Bearer → Type 0
NamedBefore a b = (a.place < b.place) ⊎ ((a.place ≡ b.place) × (a.rab < b.rab))

module _ {m : Radio} where
  -- whether there is room for a request with its own grant given back and those of some RABs
  abbrev pub room_with : Request → State m → List Bearer → Bool
  room_with q x vs = m.admits x.pool (with_grants (own_grant (own q x)) vs) q.size

  -- a RAB that a request may pre-empt
  pub record MayGo (q : Request) (x : State m) (b : Bearer) : Type 0 where
    -- it is set up
    pub set_up : Among b x.bearers
    -- its level is a larger number than the request's
    pub larger : q.priority.level < b.priority.level
    -- level 15 never goes
    pub at_most : b.priority.level ≤ 14
    pub pre_emptable : b.priority.preemptable ≡ true
    -- its connection is open, so not relocating
    pub connected : state_at b.place x ≡ Open
    -- it is not the RAB that the request is for
    pub other : b.place ≡ q.place → b.rab ≢ q.rab

  -- the shortest front of the candidates that makes room
  pub record ShortestFront (q : Request) (x : State m) (vs : List Bearer) : Type 0 where
    pub front : Front vs (candidates q x)
    pub room : room_with q x vs ≡ true
    -- no shorter front would do
    pub least : (ws : List Bearer) → Front ws (candidates q x) → length ws < length vs → room_with q x ws ≡ false

  -- a request is done with these victims: none if there is room at once, else it may trigger and they are the shortest front
  abbrev pub RightlyChosen : Request → State m → List Bearer → Type 0
  RightlyChosen q x vs =
      ((room_with q x [] ≡ true) × (vs ≡ [])) ⊎ ((room_with q x [] ≡ false) × (q.priority.triggers ≡ true) × ShortestFront q x vs)

  -- there is no room for a request: not at once, and it may not trigger or no front of the candidates makes room
  abbrev pub WithoutRoom : Request → State m → Type 0
  WithoutRoom q x =
      (room_with q x [] ≡ false) × ((q.priority.triggers ≡ false) ⊎ ((ws : List Bearer) → Front ws (candidates q x) → room_with q x ws ≡ false))

  -- what becomes of a request for room: it is done with its victims; else it waits if it may; else it fails with cause 6
  abbrev pub Decided : Request → State m → Type 0
  Decided q x =
      ((vs : List Bearer) × RightlyChosen q x vs × (ask q x ≡ done q vs x)) ⊎
      ((WithoutRoom q x × (q.priority.queuing ≡ true) × (ask q x ≡ enqueue q x)) ⊎
      (WithoutRoom q x × (q.priority.queuing ≡ false) × (ask q x ≡ refuse kind.Failed q.place q.rab cause.MaximumBitRateNotAvailable x)))

-- who may go, over a kind of pool, in every state
pub record CandidatesInOrder (m : Radio) : Type 0 where
  -- the candidates are exactly the RABs that may go
  pub only : (q : Request) (x : State m) (b : Bearer) → Among b (candidates q x) → MayGo q x b
  pub every : (q : Request) (x : State m) (b : Bearer) → MayGo q x b → Among b (candidates q x)
  -- one before another has a larger level number, or the same one and stands earlier in the table
  pub order : (q : Request) (x : State m) (a b : Bearer) → Earlier a b (candidates q x) →
      (b.priority.level < a.priority.level) ⊎ ((a.priority.level ≡ b.priority.level) × Earlier a b x.bearers)
  -- so within a level they go by place and RAB ID, where the table does
  pub named : (q : Request) (x : State m) (a b : Bearer) → ascending x.bearers ≡ true → Earlier a b (candidates q x) →
      (b.priority.level < a.priority.level) ⊎ ((a.priority.level ≡ b.priority.level) × NamedBefore a b)

-- who goes, over a kind of pool, in every state
pub record ShortestFronts (m : Radio) : Type 0 where
  -- the victims are the shortest front that makes room
  pub chosen : (q : Request) (x : State m) (vs : List Bearer) → victims q x ≡ Some vs → RightlyChosen q x vs
  -- where there are none, no front would do
  pub refused : (q : Request) (x : State m) → victims q x ≡ None → WithoutRoom q x
  -- so every request is decided
  pub decided : (q : Request) (x : State m) → Decided q x
