-- The OVSF code tree: 256 leaves, the codes of spreading factor 256, each free or a grant's.
use Rattle.std.specs.Prelude.{◌≡◌, ℕ, ◌+◌, ◌*◌, ◌/◌, ◌<◌, ◌≤◌, Bool, true, cond, ◌&&◌, is_some, Some, None, Decides, Option, ◌==◌, nat_le, nat_lt}
use Rattle.std.specs.declared.ops.Range.{Range}
use Rattle.rules.specs.Grants.{nothing}
use Rattle.rules.specs.Radio.{Radio, put}
use Rattle.admission.specs.Ranges.{all_from, first_from}

-- a state of the code tree
pub record Tree : Type 0 where
  -- the size of a grant, or 0 where it is not held
  pub sizes : ℕ → ℕ
  -- the grant that stands on a leaf, if one does
  pub owner : ℕ → Option ℕ

-- a size from 1 to 64 rounded up to a power of two
abbrev pub rounded : ℕ → ℕ
rounded s = cond (nat_le s 1) 1 (cond (nat_le s 2) 2 (cond (nat_le s 4) 4 (cond (nat_le s 8) 8 (cond (nat_le s 16) 16 (cond (nat_le s 32) 32 64)))))

-- a leaf with this owner is free when no grant outside the admission set stands on it
abbrev pub free_of : (ℕ → Bool) → Option ℕ → Bool
free_of n None = true
free_of n (Some g) = n g

-- the leaves that are free with the grants of an admission set given back
abbrev pub free_leaves : Tree → (ℕ → Bool) → ℕ → Bool
free_leaves x n i = free_of n (x.owner i)

-- block j of w leaves begins at leaf j * w: whether all its leaves are free
abbrev pub block_free : (ℕ → Bool) → ℕ → ℕ → Bool
block_free free w j = all_from free (j * w) w

-- the lowest free block of w leaves, if there is one
abbrev pub lowest : (ℕ → Bool) → ℕ → Option ℕ
lowest free w = first_from (block_free free w) 0 (256 / w)

-- the block that a size from 1 to 64 takes, if there is one; no other size takes any
abbrev pub block_for : (ℕ → Bool) → ℕ → Option ℕ
block_for free s = cond (nat_lt 0 s && nat_le s 64) (lowest free (rounded s)) None

-- a size is admitted when there is a block for it among the free leaves
abbrev pub tree_admits : Tree → (ℕ → Bool) → ℕ → Bool
tree_admits x n s = is_some (block_for (free_leaves x n) s)

-- the leaves of block j of w leaves, from the first to the one past the last
abbrev pub leaves_of : ℕ → ℕ → Range ℕ
leaves_of w j = record { start = j * w; end = j * w + w }

-- leaves of the tree
abbrev pub InTree : Range ℕ → Type 0
InTree leaves = (leaves.start ≤ leaves.end) × (leaves.end ≤ 256)

-- the owners once a grant stands on leaves
abbrev pub moved_to : Range ℕ → ℕ → (ℕ → Option ℕ) → ℕ → Option ℕ
moved_to leaves g f i = cond (nat_le leaves.start i && nat_lt i leaves.end) (Some g) (f i)

-- whether leaf i is in block j of w leaves
abbrev pub in_block : ℕ → ℕ → ℕ → Bool
in_block w j i = nat_le (j * w) i && nat_lt i (j * w + w)

-- the owners once a grant stands on a block of w leaves
abbrev pub moved_in : (ℕ → Option ℕ) → ℕ → ℕ → Option ℕ → ℕ → Option ℕ
moved_in f g w None i = f i
moved_in f g w (Some j) i = cond (in_block w j i) (Some g) (f i)

-- the owner of one leaf once a grant is gone
abbrev pub left_by : ℕ → Option ℕ → Option ℕ
left_by g None = None
left_by g (Some k) = cond (k == g) None (Some k)

-- the owners once a grant is gone from all its leaves
abbrev pub moved_out : (ℕ → Option ℕ) → ℕ → ℕ → Option ℕ
moved_out f g i = left_by g (f i)

-- a grant stands on the leaves of a block of its rounded size, and on no other leaf
abbrev pub Stands : (ℕ → Option ℕ) → ℕ → ℕ → Type 0
Stands owner g s = (j : ℕ) × (j < 256 / rounded s) × ((i : ℕ) → Decides (in_block (rounded s) j i) (owner i ≡ Some g))

-- only held grants stand on leaves, each on one block of its rounded size; no size is over 64, and no grant number over 63
pub record Settled (x : Tree) : Type 0 where
  pub numbers : (g : ℕ) → 64 ≤ g → x.sizes g ≡ 0
  pub small : (g : ℕ) → x.sizes g ≤ 64
  pub held : (i g : ℕ) → x.owner i ≡ Some g → 0 < x.sizes g
  pub block : (g : ℕ) → 0 < x.sizes g → Stands x.owner g (x.sizes g)

-- the code tree's meaning: a take stands the grant on the block for its size, a give clears all its leaves
abbrev pub codes : Radio
codes = record {
  State = Tree;
  sound = Settled;
  holds = λ x. x.sizes;
  admits = tree_admits;
  taken = λ x g s. record { sizes = put x.sizes g s; owner = moved_in x.owner g (rounded s) (block_for (free_leaves x nothing) s) };
  given = λ x g. record { sizes = put x.sizes g 0; owner = moved_out x.owner g };
}

-- the tree with nothing taken
abbrev pub bare : Tree
bare = record { sizes = λ _. 0; owner = λ _. None }
