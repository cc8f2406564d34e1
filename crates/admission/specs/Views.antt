-- What the pools' data mean.
use Rattle.std.specs.Prelude.{◌≡◌, ℕ, ◌<◌, Some, None, slice_index, slice_index_or}
use Rattle.admission.specs.Rate.{Rate}
use Rattle.admission.specs.Tree.{Tree}
use Rattle.admission.specs.declared.sizes.Sizes.{Sizes}
use Rattle.admission.specs.declared.rate.RatePool.{RatePool}
use Rattle.admission.specs.declared.tree.CodeTree.{CodeTree}

-- the size of a grant, or 0 where it is not held
abbrev pub size_of : Sizes → ℕ → ℕ
size_of s k = slice_index s.held k

-- the state of a rate pool
abbrev pub rate_of : RatePool → Rate
rate_of p = record { capacity = p.capacity; sizes = size_of p.sizes }

-- the state of a code tree
abbrev pub tree_of : CodeTree → Tree
tree_of t = record { sizes = size_of t.sizes; owner = λ i. slice_index_or t.owners i None }

-- no grant number over 63 stands on a leaf
pub owner_number : (t : CodeTree) (leaf grant : ℕ) → (tree_of t).owner leaf ≡ Some grant → grant < 64
owner_number t = t.numbers
