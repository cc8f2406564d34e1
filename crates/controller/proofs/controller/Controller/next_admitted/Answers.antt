use Rattle.bearers.specs.Order.{bearers_good, requests_good}
use Rattle.controller.proofs.Nexts.{first_of_levels, first_mapped}
use Rattle.controller.proofs.controller.Controller.next_admitted.Goals as goal
use Rattle.controller.specs.Due.{due}
use Rattle.controller.specs.View.{view}
use Rattle.rules.specs.Preemption.{admitted}
use Rattle.rules.specs.Queue.{next}
use Rattle.std.proofs.Common.{find, rules}
use Rattle.std.proofs.lemmas.Bool.{and_parts}

pub returns : goal.returns
unfolding next
returns g c =
    let x = view g.P.RadioPool.radio g.P.RadioPool.state c.args.self.now in
    let good = (and_parts (bearers_good x.bearers) (requests_good x.queue) c.args.self.now.rabs.ranges).1 in
    first_of_levels (admitted x) x.queue c.find_map.result good
    (first_mapped _ _ (λ l. find (due l (admitted x)) x.queue) (λ l r q k. search rules) 1 16 c.find_map.result c.find_map.ensures.runs)
