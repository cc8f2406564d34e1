-- The radio pool: what its states hold and admit, what a take and a give do, and the laws that every pool shows.
use Rattle.std.specs.Prelude.{◌≡◌, ℕ, ◌<◌, ◌≤◌, Bool, true, cond, ◌&&◌, ◌==◌, nat_lt}
use Rattle.rules.specs.Grants.{nothing, everything, added}

-- the meaning of a pool: its states, seen from outside
pub record Radio : Type 1 where
  pub State : Type 0
  -- the condition that every making ensures and every call keeps
  pub sound : State → Type 0
  -- the size of a grant, or 0 where it is not held
  pub holds : State → ℕ → ℕ
  -- whether a size is admitted with a set of grants given back
  pub admits : State → (ℕ → Bool) → ℕ → Bool
  -- the state after a take that is not refused
  pub taken : State → ℕ → ℕ → State
  -- the state after a give that is not refused
  pub given : State → ℕ → State

-- a function, but with another value at one number
abbrev pub put : (ℕ → ℕ) → ℕ → ℕ → ℕ → ℕ
put f g v k = cond (k == g) v (f k)

-- a take is obeyed when the number is below 64 and not held, and the size is admitted with nothing given back
abbrev pub takes : (m : Radio) → m.State → ℕ → ℕ → Bool
takes m x g s = nat_lt g 64 && (m.holds x g == 0 && m.admits x nothing s)

-- a give is obeyed when the grant is held
abbrev pub gives : (m : Radio) → m.State → ℕ → Bool
gives m x g = nat_lt 0 (m.holds x g)

-- the state after a take; a refused one leaves it
abbrev pub after_take : (m : Radio) → m.State → ℕ → ℕ → m.State
after_take m x g s = cond (takes m x g s) (m.taken x g s) x

-- the state after a give; a refused one leaves it
abbrev pub after_give : (m : Radio) → m.State → ℕ → m.State
after_give m x g = cond (gives m x g) (m.given x g) x

-- the laws of a state
pub record Lawful (m : Radio) (x : m.State) : Type 0 where
  -- no grant number over 63 is held, and no size over 64
  pub numbers : (g : ℕ) → 64 ≤ g → m.holds x g ≡ 0
  pub small : (g : ℕ) → m.holds x g ≤ 64
  -- naming a grant that is not held makes no difference
  pub unheld : (n n' : ℕ → Bool) (s : ℕ) → ((k : ℕ) → 0 < m.holds x k → n k ≡ n' k) → m.admits x n s ≡ m.admits x n' s
  -- a grant may be traded for one of the same or a smaller size: with it given back, every size from 1 to its own is admitted
  pub trade : (n : ℕ → Bool) (g s : ℕ) → n g ≡ true → 0 < s → s ≤ m.holds x g → m.admits x n s ≡ true
  -- with all 64 numbers named, size 1 is admitted
  pub last : m.admits x everything 1 ≡ true
  -- sizes 0 and over 64 are never admitted
  pub least : (n : ℕ → Bool) (s : ℕ) → m.admits x n s ≡ true → 0 < s
  pub most : (n : ℕ → Bool) (s : ℕ) → m.admits x n s ≡ true → s ≤ 64

-- what a take does: the grant is held with its size, no other changes, and room for sets that name it is what it was
pub record Taken (m : Radio) (x : m.State) (g s : ℕ) : Type 0 where
  pub sound : m.sound (m.taken x g s)
  pub holds : m.holds (m.taken x g s) ≡ put (m.holds x) g s
  pub same : (n : ℕ → Bool) (t : ℕ) → n g ≡ true → m.admits (m.taken x g s) n t ≡ m.admits x n t

-- what a give does: the grant is no longer held, no other changes, and room for a set is what it was for the set with the grant
pub record Given (m : Radio) (x : m.State) (g : ℕ) : Type 0 where
  pub sound : m.sound (m.given x g)
  pub holds : m.holds (m.given x g) ≡ put (m.holds x) g 0
  pub same : (n : ℕ → Bool) (t : ℕ) → m.admits (m.given x g) n t ≡ m.admits x (added n g) t
