use Rattle.std.proofs.Common.{arith}
use Rattle.bearers.proofs.Known.{waiting_known}
use Rattle.bearers.proofs.Waiting.{apart_from}
use Rattle.bearers.proofs.tables.RabTables.queue.Goals as goal
use Rattle.bearers.specs.View.{bearers_of, queue_of}

pub returns-clause-few : goal.returns-clause-few
returns-clause-few c =
    let t = c.args.self.now in
    omega (arith, waiting_known (bearers_of t) (queue_of t) (apart_from (queue_of t) t.single), t.few, c.deref.ensures.len)
