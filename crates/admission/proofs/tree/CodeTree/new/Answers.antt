use Rattle.std.proofs.Common.{◌≡◌, ◌<◌, ℕ, None, Option, sym, subst, rules}
use mathlib.Core.Path.{fun_ext}
use Rattle.admission.specs.Tree.{Tree, Settled, bare}
use Rattle.admission.proofs.Arrays.{same_throughout, numbers_pass}
use Rattle.admission.specs.TreeLaws.{bare_settled}
use Rattle.admission.proofs.tree.CodeTree.new.Goals as goal

-- a tree with no sizes and no owners
all_bare : (x : Tree) → x.sizes ≡ (λ _. 0) → ((leaf : ℕ) → x.owner leaf ≡ None) → x ≡ bare
all_bare x sizes owner = λ i. record { sizes = sizes i; owner = fun_ext {g = λ _. None} owner i }

pub invariant_of-result : goal.invariant_of-result
invariant_of-result c = record { numbers = λ leaf grant e. numbers_pass (λ g. g < 64) 256 leaf _ grant e (search rules) }

pub returns-clause-state : goal.returns-clause-state
returns-clause-state c = all_bare _ c.empty.ensures (λ leaf. search (rules, same_throughout {X = Option ℕ} None 256 leaf))

pub returns-clause-sound : goal.returns-clause-sound
returns-clause-sound c = subst Settled (sym (all_bare _ c.empty.ensures (λ leaf. search (rules, same_throughout {X = Option ℕ} None 256 leaf)))) bare_settled
