-- The rate pool: a capacity, and the sizes that are held.
use Rattle.std.specs.Prelude.{◌≡◌, ℕ, ◌+◌, ◌≤◌, min, max, Bool, ◌&&◌, nat_le, nat_lt}
use Rattle.rules.specs.Radio.{Radio, put}
use Rattle.admission.specs.Sums.{total, without}

-- a state of the rate pool
pub record Rate : Type 0 where
  pub capacity : ℕ
  -- the size of a grant, or 0 where it is not held
  pub sizes : ℕ → ℕ

-- the sizes of the grants that are not given back, added up
abbrev pub load : Rate → (ℕ → Bool) → ℕ
load x n = total (without n x.sizes) 64

-- a size from 1 to 64 is admitted when it and the load are at most the capacity
abbrev pub rate_admits : Rate → (ℕ → Bool) → ℕ → Bool
rate_admits x n s = nat_lt 0 s && (nat_le s 64 && nat_le (load x n + s) x.capacity)

-- the pool, but with another size for one grant
abbrev pub with_size : Rate → ℕ → ℕ → Rate
with_size x g s = record { capacity = x.capacity; sizes = put x.sizes g s }

-- the sizes held together are within the capacity, which is at least 1; no size is over 64, and no grant number over 63
pub record Within (x : Rate) : Type 0 where
  pub some : 1 ≤ x.capacity
  pub fits : total x.sizes 64 ≤ x.capacity
  pub small : (g : ℕ) → x.sizes g ≤ 64
  pub numbers : (g : ℕ) → 64 ≤ g → x.sizes g ≡ 0

-- the rate pool's meaning
abbrev pub rates : Radio
rates = record {
  State = Rate;
  sound = Within;
  holds = λ x. x.sizes;
  admits = rate_admits;
  taken = with_size;
  given = λ x g. with_size x g 0;
}

-- nothing taken; a capacity outside 1 to 4,096 is moved to the nearer end
abbrev pub fresh : ℕ → Rate
fresh c = record { capacity = min (max c 1) 4096; sizes = λ _. 0 }
