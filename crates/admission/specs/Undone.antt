-- A grant that is taken and given back.
use Rattle.std.specs.Prelude.{◌≡◌, ℕ, Bool, true}
use Rattle.rules.specs.Radio.{Radio, takes, after_take, after_give}

-- two states of a pool, the second sound, that answer alike what is held and what is admitted
pub record Alike (m : Radio) (x y : m.State) : Type 0 where
  pub sound : m.sound y
  pub holds : (g : ℕ) → m.holds y g ≡ m.holds x g
  pub admits : (n : ℕ → Bool) (s : ℕ) → m.admits y n s ≡ m.admits x n s

-- a give undoes a take: after a take that is obeyed, and a give of the same grant, the pool answers as before
abbrev pub GiveUndoesTake : Radio → Type 0
GiveUndoesTake m = (x : m.State) (g s : ℕ) → m.sound x → takes m x g s ≡ true → Alike m x (after_give m (after_take m x g s) g)
