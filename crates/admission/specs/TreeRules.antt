-- The rules of the code tree in plain words, of which the definitions are one form.
use Rattle.std.specs.Prelude.{◌≡◌, ℕ, ◌+◌, ◌%◌, ◌^◌, ◌<◌, ◌≤◌, Bool, true, ◌⊎◌, Some, None, ◌≢◌}
use Rattle.rules.specs.Grants.{nothing}
use Rattle.admission.specs.Tree.{Tree, free_leaves}

-- w is the smallest power of two that is at least s
pub record RoundsUp (s w : ℕ) : Type 0 where
  pub power : (k : ℕ) × (w ≡ 2 ^ k)
  pub enough : s ≤ w
  pub least : (k : ℕ) → s ≤ 2 ^ k → w ≤ 2 ^ k

-- from a leaf on, which is a multiple of w, w leaves of the tree are free
pub record FreeBlock (free : ℕ → Bool) (w start : ℕ) : Type 0 where
  pub aligned : start % w ≡ 0
  pub within : start + w ≤ 256
  pub leaves : (i : ℕ) → start ≤ i → i < start + w → free i ≡ true

-- there is room for a size from 1 to 64 where a block as wide as the size rounded up is free
pub record RoomFor (free : ℕ → Bool) (s : ℕ) : Type 0 where
  pub some : 0 < s
  pub small : s ≤ 64
  pub width : ℕ
  pub rounds : RoundsUp s width
  pub start : ℕ
  pub block : FreeBlock free width start

-- a take stands the grant on the lowest free block as wide as the size rounded up, and changes no other leaf
pub record Placed (x y : Tree) (g s : ℕ) : Type 0 where
  pub width : ℕ
  pub rounds : RoundsUp s width
  pub start : ℕ
  pub block : FreeBlock (free_leaves x nothing) width start
  pub lowest : (other : ℕ) → FreeBlock (free_leaves x nothing) width other → start ≤ other
  pub stands : (i : ℕ) → start ≤ i → i < start + width → y.owner i ≡ Some g
  pub others : (i : ℕ) → (i < start) ⊎ (start + width ≤ i) → y.owner i ≡ x.owner i

-- a give clears the leaves of the grant, and changes no other leaf
pub record Cleared (x y : Tree) (g : ℕ) : Type 0 where
  pub free : (i : ℕ) → x.owner i ≡ Some g → y.owner i ≡ None
  pub others : (i : ℕ) → (x.owner i ≢ Some g) → y.owner i ≡ x.owner i
