-- The victims of a pre-emption as a list.
use Rattle.std.specs.Prelude.{List, Option}
use Rattle.rules.specs.Preemption.{own, own_grant, candidates, shortest_front}
use Rattle.rules.specs.Radio.{Radio}
use Rattle.rules.specs.State.{State}
use Rattle.rules.specs.declared.bearer.Bearer.{Bearer}
use Rattle.rules.specs.declared.bearer.Request.{Request}

-- the shortest front of the candidates that gives room to a request
unfoldable pub front_for : {m : Radio} → Request → State m → Option (List Bearer)
front_for q x = shortest_front x (own_grant (own q x)) q.size (candidates q x)
