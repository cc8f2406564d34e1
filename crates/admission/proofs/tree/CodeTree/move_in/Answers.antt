use Rattle.std.proofs.Common.{rules, ◌≡◌, ℕ, ◌<◌, Bool, true, false, cond, None, Some, Option, replicate, length, get_or, sym, subst, ◌∙◌, ◌-◌, arith}
use mathlib.Core.Path.{fun_ext}
use borrow.Rule.Slice.PartMut.{put_mid}
use Rattle.std.proofs.lemmas.Option.{same_Some}
use Rattle.admission.specs.Tree.{moved_to}
use Rattle.admission.proofs.Leaves.{filled}
use Rattle.admission.proofs.tree.CodeTree.move_in.Goals as goal
use Rattle.admission.proofs.tree.CodeTree.move_in.Goals.{After-fill}

-- who stands on a leaf after it
stands : (c : goal.After-fill) (i : ℕ) →
    get_or (put_mid c.args.leaves.start (c.args.leaves.end - c.args.leaves.start) c.args.self.now.owners c.fill.new.self) i None ≡ moved_to c.args.leaves c.args.grant (λ k. get_or c.args.self.now.owners k None) i
stands c i =
    let owners = c.args.self.now.owners in
    let leaves = c.args.leaves in
    let n : length owners ≡ 256 = search rules in
    let filling : c.fill.new.self ≡ replicate (leaves.end - leaves.start) (Some c.args.grant) = search rules in
    filled owners c.fill.new.self leaves.start leaves.end i (Some c.args.grant) None c.requires.1.0 (omega (arith, n, c.requires.1.1)) filling

-- the grant, or one that stood there
one_of : (moved : Bool) (g h : ℕ) (o : Option ℕ) → cond moved (Some g) o ≡ Some h → g < 64 → (o ≡ Some h → h < 64) → h < 64
one_of true g h o e new old = subst (λ k. k < 64) (same_Some g h e) new
one_of false g h o e new old = old e

pub invariant_of-self : goal.invariant_of-self
invariant_of-self c = record { numbers = λ leaf h e. one_of _ c.args.grant h _ (sym (stands c leaf) ∙ e) c.requires.0 (c.args.self.now.numbers leaf h) }

pub returns-clause-owner : goal.returns-clause-owner
returns-clause-owner c = fun_ext (stands (goal.at.returns-clause-owner c).After-fill)
