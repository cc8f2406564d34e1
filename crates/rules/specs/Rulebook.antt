-- One name that opens every definition which stays shut otherwise: `unfolding rulebook`.
use Rattle.rules.specs.Tables.{first_from}
use Rattle.rules.specs.Request.{done, ask, assign, release}
use Rattle.rules.specs.Queue.{next, serve_up_to}
use Rattle.rules.specs.Events.{release_item, assign_item, iu_release}
use Rattle.rules.specs.Relocation.{start}
use Rattle.rules.specs.Frame.{read}
use Rattle.rules.specs.Calls.{given_back}
use Rattle.rules.specs.Telling.{whose_text, numbers_text}

-- it has no content of its own
unfoldable pub rulebook : Unit {0}
unfolding first_from done ask assign release next serve_up_to release_item assign_item iu_release start read given_back whose_text numbers_text
rulebook = tt
