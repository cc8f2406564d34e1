-- The search for room: the admission set (the grants that count as given back while room is asked for),
-- the candidates of a pre-emption, and the victims.
use Rattle.std.specs.Prelude.{ℕ, zero, suc, Bool, cond, not, ◌&&◌, List, [], ◌∷◌, ◌++◌, Some, None, filter, Option, ◌==◌, nat_lt}
use Rattle.rules.specs.Grants.{nothing, added}
use Rattle.rules.specs.Radio.{Radio}
use Rattle.rules.specs.State.{State}
use Rattle.rules.specs.Tables.{of_rab, set_up_as}
use Rattle.rules.specs.Connections.{opened, state_at}
use Rattle.rules.specs.declared.bearer.Bearer.{Bearer}
use Rattle.rules.specs.declared.bearer.Request.{Request}

-- the admission set that a search begins with: empty for a set-up, the RAB's own grant for a modification
abbrev pub own_grant : Option Bearer → ℕ → Bool
own_grant None = nothing
own_grant (Some b) = added nothing b.grant

-- one more in front, where there is room at all
abbrev pub and_also : Bearer → Option (List Bearer) → Option (List Bearer)
and_also b None = None
and_also b (Some bs) = Some (b ∷ bs)

module _ {m : Radio} where
  -- the RAB that a request is for, as it is set up
  abbrev pub own : Request → State m → Option Bearer
  own q x = set_up_as q.place q.rab x.bearers

  -- whether a request would be admitted, a modification with its own grant given back
  abbrev pub admitted : State m → Request → Bool
  admitted x q = m.admits x.pool (own_grant (own q x)) q.size

  -- another RAB, pre-emptable, of this level, which is a larger number, on an open connection
  abbrev pub candidate : Request → State m → ℕ → Bearer → Bool
  candidate q x l b =
      (b.priority.level == l) && nat_lt q.priority.level l && b.priority.preemptable && opened (state_at b.place x) && not (of_rab q.place q.rab b)

  -- the candidates from a level down, then by place and RAB ID upward
  abbrev pub candidates_from : ℕ → Request → State m → List Bearer
  candidates_from zero q x = []
  candidates_from (suc l) q x = filter (candidate q x (suc l)) x.bearers ++ candidates_from l q x

  -- from level 14 down
  abbrev pub candidates : Request → State m → List Bearer
  candidates q x = candidates_from 14 q x

  -- the candidates are added to the admission set one by one: the shortest front of them that gives room
  abbrev pub shortest_front : State m → (ℕ → Bool) → ℕ → List Bearer → Option (List Bearer)
  shortest_front x n s [] = None
  shortest_front x n s (b ∷ bs) =
      let rest = shortest_front x (added n b.grant) s bs in
      cond (m.admits x.pool (added n b.grant) s) (Some (b ∷ [])) (and_also b rest)

  -- whom a request pre-empts: nobody if there is room at once; none at all where no front gives room
  abbrev pub victims : Request → State m → Option (List Bearer)
  victims q x =
      let found = shortest_front x (own_grant (own q x)) q.size (candidates q x) in
      cond (admitted x q) (Some []) (cond q.priority.triggers found None)
