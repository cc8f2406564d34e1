-- The state of a controller, apart from how it is stored.
use Rattle.bearers.specs.Places.{connections_of, tickets_of}
use Rattle.bearers.specs.View.{bearers_of, queue_of}
use Rattle.rules.specs.Radio.{Radio}
use Rattle.rules.specs.State.{State}
use Rattle.controller.specs.declared.controller.Controller.{Controller}

-- what a controller over a pool P knows, by what the pool's values mean
abbrev pub view : {P : Type 0} (m : Radio) → (P → m.State) → Controller P → State m
view m s c = record {
  number = c.number;
  connections = connections_of c.connections;
  bearers = bearers_of c.rabs;
  queue = queue_of c.rabs;
  tickets = tickets_of c.tickets;
  pool = s c.pool;
}
