use Rattle.controller.proofs.controller.Controller.assign_anew.Goals as goal
use Rattle.std.proofs.Common.{rules}

pub ask-requires : goal.ask-requires
ask-requires g c = record { level = search rules; idle = search rules; room = search rules }
