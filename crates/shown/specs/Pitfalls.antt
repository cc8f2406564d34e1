-- Worked cases that are easily mistaken: a queue swept once, level 15, and a full table with a request asked again.
use Rattle.std.specs.Prelude.{◌≡◌, ℕ, cond, [], ◌∷◌, map, Some}
use Rattle.std.specs.List.{range_with_len}
use Rattle.rules.specs.State.{State, Outcome, silent, each}
use Rattle.rules.specs.Preemption.{admitted}
use Rattle.rules.specs.Queue.{serve, serve_one}
use Rattle.rules.specs.Events.{drop_place, close}
use Rattle.rules.specs.Checks.{known}
use Rattle.rules.specs.Calls.{open_outcome}
use Rattle.rules.specs.declared.bearer.Request.{Request}
use Rattle.admission.specs.Rate.{rates, fresh}
use Rattle.admission.specs.Tree.{codes, bare}
use Rattle.shown.specs.Steps.{asking, closing, begin, on, after, told, held, waiting}
use Rattle.shown.specs.Runs.{ten}

-- a code tree filled from two places, 0 of UE 7 and 1 of UE 8, with the grants 0 to 6 in this order:
-- RABs 1 and 2 have its first two quarters, RABs 11 and 3 the halves of the third;
-- of the fourth RAB 4 has the first 16 leaves, RAB 12 the next 16 and RAB 13 the other half
abbrev pub full_tree : State codes
full_tree =
    after (
    asking 0 1 64 3 0 ∷
    asking 0 2 64 3 0 ∷
    asking 1 11 32 3 0 ∷
    asking 0 3 32 3 0 ∷
    asking 0 4 16 3 0 ∷
    asking 1 12 16 3 0 ∷
    asking 1 13 32 3 0 ∷
    []) (open_outcome 1 8 1 (begin codes bare)).state

-- then two requests wait: RAB 5 with a quarter and level 1, and RAB 4, which is to grow to half a quarter, with level 2
abbrev pub two_wait : State codes
two_wait = after (asking 0 5 64 1 4 ∷ asking 0 4 32 2 4 ∷ []) full_tree

-- then the RABs of place 1 go, and the place is closed; the queue is yet to be served
abbrev pub half_gone : State codes
half_gone = close 1 (drop_place 1 two_wait).state

-- a waiting request is done if it would be admitted, else it is passed
abbrev pub done_or_passed : Request → State codes → Outcome codes
done_or_passed q x = cond (admitted x q) (serve_one q x) (silent x)

-- RAB 5 is set up with 8 of 10, a level, and the right to be pre-empted
abbrev pub one_of_level : ℕ → State rates
one_of_level l = (on (asking 0 5 8 l 2) ten).state

-- a rate pool of 63, and RABs 0 to 63 asked for with size 1 and the right to wait
abbrev pub crowd : State rates
crowd = after (map (λ r. asking 0 r 1 3 4) (range_with_len 0 64)) (begin rates (fresh 63))

-- what is told in these cases
pub record ShownPitfalls : Type 0 where
  -- the tree as it is filled, by the leaves at which the grants begin, and the two that wait, the higher level in front
  pub filled : map full_tree.pool.owner (0 ∷ 64 ∷ 128 ∷ 160 ∷ 192 ∷ 208 ∷ 224 ∷ []) ≡ map Some (0 ∷ 1 ∷ 2 ∷ 3 ∷ 4 ∷ 5 ∷ 6 ∷ [])
  pub both_wait : waiting two_wait ≡ (0, 5, 64) ∷ (0, 4, 32) ∷ []
  -- with place 1 gone no quarter is free, so RAB 5 is passed; RAB 4 moves from the fourth quarter to the third.
  -- One sweep ends here, though the fourth quarter is now free
  pub swept : told (each done_or_passed half_gone.queue half_gone) ≡ (1, 0, 4, 0, 32) ∷ []
  -- serving goes on until none would be admitted: RAB 5 gets the fourth quarter
  pub served : told (serve half_gone) ≡ (1, 0, 4, 0, 32) ∷ (1, 0, 5, 0, 64) ∷ []
  pub served_in_all : told (on (closing 1) two_wait) ≡ (7, 1, 11, 11, 0) ∷ (7, 1, 12, 11, 0) ∷ (7, 1, 13, 11, 0) ∷ (1, 0, 4, 0, 32) ∷ (1, 0, 5, 0, 64) ∷ []
  pub served_held : held (on (closing 1) two_wait).state ≡ (0, 1, 0, 64) ∷ (0, 2, 1, 64) ∷ (0, 3, 3, 32) ∷ (0, 4, 2, 32) ∷ (0, 5, 4, 64) ∷ []
  pub served_from : map (on (closing 1) two_wait).state.pool.owner (128 ∷ 192 ∷ []) ≡ map Some (2 ∷ 4 ∷ [])
  -- level 15 is pre-empted neither by level 14 nor by level 1, though its item says that it may be and its number is the largest;
  -- level 14 is, by level 13
  pub level_15_by_14 : told (on (asking 0 9 4 14 1) (one_of_level 15)) ≡ (3, 0, 9, 6, 0) ∷ []
  pub level_15_by_1 : told (on (asking 0 9 4 1 1) (one_of_level 15)) ≡ (3, 0, 9, 6, 0) ∷ []
  pub level_14_by_13 : told (on (asking 0 9 4 13 1) (one_of_level 14)) ≡ (6, 0, 5, 1, 0) ∷ (1, 0, 9, 0, 4) ∷ []
  -- 64 RABs are known, RAB 63 as waiting for its set-up
  pub crowd_known : known crowd ≡ 64
  pub crowd_waits : waiting crowd ≡ (0, 63, 1) ∷ []
  -- a set-up of RAB 64 finds the table full; one of RAB 63 does not, since its waiting request fails first and is then not counted
  pub another : told (on (asking 0 64 1 3 4) crowd) ≡ (3, 0, 64, 12, 0) ∷ []
  pub the_same : told (on (asking 0 63 1 3 4) crowd) ≡ (3, 0, 63, 9, 0) ∷ (2, 0, 63, 0, 0) ∷ []
