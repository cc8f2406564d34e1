use Rattle.std.proofs.Common.{◌≡◌, is_some, ap, ◌∙◌}
use Rattle.std.proofs.lemmas.Bool.Decides.{Decides-at}
use Rattle.admission.specs.Member.{member}
use Rattle.admission.specs.Tree.{free_leaves, block_for, rounded}
use Rattle.admission.specs.Views.{tree_of}
use Rattle.admission.proofs.TreeRules.{room_decides}
use Rattle.admission.proofs.Leaves.{has_leaves}
use Rattle.admission.proofs.tree.CodeTreeRadioPool.room.Goals as goal

pub returns : goal.returns
returns c =
    let free = free_leaves (tree_of c.args.self.now) (member c.args.given.now) in
    let found : c.is_some.result ≡ is_some (block_for free c.args.size) = c.is_some.ensures ∙ ap is_some c.block_for.ensures.value ∙ has_leaves (rounded c.args.size) (block_for free c.args.size) in
    record { answer = found; rule = Decides-at c.is_some.result (is_some (block_for free c.args.size)) found (room_decides free c.args.size) }
