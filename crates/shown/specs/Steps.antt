-- What the worked runs are made of: frames, and what is told of an outcome and of a state.
use Rattle.std.specs.Prelude.{ℕ, List, [], ◌∷◌, map}
use Rattle.rules.specs.Radio.{Radio}
use Rattle.rules.specs.State.{State, Outcome}
use Rattle.rules.specs.Numbers.{bytes_of}
use Rattle.rules.specs.Frame.{received}
use Rattle.rules.specs.Calls.{new_state, open_outcome, frame_outcome}

-- a frame with one set-up or modify item, flags 1B: place, RAB ID, size, level, rights
abbrev pub asking : ℕ → ℕ → ℕ → ℕ → ℕ → List ℕ
asking p r s l t = 1 ∷ p ∷ 0 ∷ 1 ∷ 0 ∷ 8 ∷ 0 ∷ 6 ∷ 1 ∷ r ∷ 0x1B ∷ s ∷ l ∷ t ∷ []

-- a frame with one release item: place, RAB ID
abbrev pub releasing : ℕ → ℕ → List ℕ
releasing p r = 1 ∷ p ∷ 0 ∷ 1 ∷ 0 ∷ 8 ∷ 0 ∷ 3 ∷ 2 ∷ r ∷ 0 ∷ []

-- a frame that releases a connection: place
abbrev pub closing : ℕ → List ℕ
closing p = 2 ∷ p ∷ 0 ∷ 0 ∷ []

-- a new controller over a pool, with UE 7 on place 0 in the packet domain
abbrev pub begin : (m : Radio) → m.State → State m
begin m y = (open_outcome 0 7 1 (new_state m 1 y)).state

module _ {m : Radio} where
  -- what a frame does, with a report list of 288
  abbrev pub on : List ℕ → State m → Outcome m
  on bs x = frame_outcome 288 (received bs) x

  -- the state after frames, in their order
  abbrev pub after : List (List ℕ) → State m → State m
  after [] x = x
  after (f ∷ fs) x = after fs (on f x).state

  -- the reports of an outcome, each as (kind, place, RAB ID, cause, size).
  -- Kinds: 1 done, 2 queued, 3 failed, 4 released, 6 release requested, 7 gone. Causes: 0 none, 1 pre-empted,
  -- 6 the rate is not available, 9 superseded, 11 Iu released, 12 table full
  abbrev pub told : Outcome m → List (ℕ × ℕ × ℕ × ℕ × ℕ)
  told o = map bytes_of o.reports

  -- the set-up RABs, each as (place, RAB ID, grant, size)
  abbrev pub held : State m → List (ℕ × ℕ × ℕ × ℕ)
  held x = map (λ b. (b.place, b.rab, b.grant, b.size)) x.bearers

  -- the waiting requests by arrival, each as (place, RAB ID, size)
  abbrev pub waiting : State m → List (ℕ × ℕ × ℕ)
  waiting x = map (λ q. (q.place, q.rab, q.size)) x.queue
