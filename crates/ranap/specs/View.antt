-- What the reader's values say, in the words of the rules.
use Rattle.std.specs.Prelude.{List, take, Ok, Err, Result}
use Rattle.rules.specs.Message.{rab_assignment_request, iu_release_command, relocation_command, relocation_preparation_failure}
use Rattle.rules.specs.Message as said
use Rattle.rules.specs.declared.item.ReadItem.{ReadItem}
use Rattle.rules.specs.declared.refusal.Refusal.{Refusal}
use Rattle.ranap.specs.declared.items.Items.{Items}
use Rattle.ranap.specs.declared.message.Message.{Message}
use Rattle.ranap.specs.declared.message.Message.TheVariants.{RabAssignmentRequest, IuReleaseCommand, RelocationCommand, RelocationPreparationFailure}

-- the items as a list
abbrev pub listed : Items → List ReadItem
listed i = take i.count i.all

-- what a message says
abbrev pub saying : Message → said.Message
saying (RabAssignmentRequest p i) = rab_assignment_request p (listed i)
saying (IuReleaseCommand p) = iu_release_command p
saying (RelocationCommand p) = relocation_command p
saying (RelocationPreparationFailure p) = relocation_preparation_failure p

-- what the reader answers
abbrev pub answered : Result Message Refusal → Result said.Message Refusal
answered (Ok g) = Ok (saying g)
answered (Err f) = Err f
