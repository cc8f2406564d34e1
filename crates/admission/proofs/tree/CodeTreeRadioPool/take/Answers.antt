use Rattle.std.proofs.Common.{◌≡◌, true, is_some, option_map, Some, refl, sym, ap, ◌∙◌, subst, arith}
use Rattle.std.proofs.lemmas.Bool.{cond-true}
use Rattle.std.proofs.lemmas.Bool.Decides.{nat_tests}
use Rattle.rules.specs.Grants.{nothing}
use Rattle.rules.specs.Radio.{takes, put}
use Rattle.admission.specs.Tree.{Tree, codes, rounded, free_leaves, block_for, leaves_of, moved_to}
use Rattle.admission.specs.TreeRules.{Placed}
use Rattle.admission.specs.Views.{tree_of, size_of}
use Rattle.admission.specs.TreeLaws.{taken_where}
use Rattle.admission.proofs.Leaves.{leaves_are}
use Rattle.admission.proofs.TreeRules.{placed}
use Rattle.admission.proofs.tree.CodeTreeRadioPool.take.Goals as goal

pub returns : goal.returns
returns c =
    let g = c.args.grant in
    let s = c.args.size in
    let x : Tree = tree_of c.args.self.now in
    let where_to = leaves_are (rounded s) (block_for (free_leaves x nothing) s) c.in-Some.leaves (c.in-Some.ensures.value ∙ ap (λ n. option_map (leaves_of (rounded s)) (block_for (free_leaves x n) s)) c.empty.ensures) in
    let j = where_to.0 in
    let found : Some j ≡ block_for (free_leaves x nothing) s = where_to.1 in
    let does : takes codes x g s ≡ true = grind (arith, nat_tests, ap is_some found) in
    let sizes = c.take.ensures ∙ ap (λ z. put (size_of z) g s) c.move_in.ensures.sizes in
    let state = taken_where x g s j (rounded s) _ _ found refl sizes (c.move_in.ensures.owner ∙ ap (λ leaves. moved_to leaves g x.owner) where_to.2) in
    record {
      answer = sym does;
      state = state ∙ sym (cond-true (takes codes x g s) (codes.taken x g s) x does);
      rule = λ _. subst (λ y. Placed x y g s) (sym state) (placed x g s does);
    }
