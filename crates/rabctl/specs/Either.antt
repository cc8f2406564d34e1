-- A radio pool that is one of two: what its states hold and admit, and its laws, which are those of the one that it is.
use Rattle.std.specs.Prelude.{◌≡◌, ℕ, Bool, true, ◌⊎◌}
use Rattle.std.proofs.Common.{inl, inr}
use Rattle.rules.specs.Radio.{Radio, Lawful, Taken, Given, takes, gives, after_take, after_give}

module _ (m n : Radio) where
  abbrev pub sound_either : m.State ⊎ n.State → Type 0
  sound_either (inl x) = m.sound x
  sound_either (inr y) = n.sound y

  abbrev pub holds_either : m.State ⊎ n.State → ℕ → ℕ
  holds_either (inl x) = m.holds x
  holds_either (inr y) = n.holds y

  abbrev pub admits_either : m.State ⊎ n.State → (ℕ → Bool) → ℕ → Bool
  admits_either (inl x) = m.admits x
  admits_either (inr y) = n.admits y

  abbrev pub taken_either : m.State ⊎ n.State → ℕ → ℕ → m.State ⊎ n.State
  taken_either (inl x) g s = inl (m.taken x g s)
  taken_either (inr y) g s = inr (n.taken y g s)

  abbrev pub given_either : m.State ⊎ n.State → ℕ → m.State ⊎ n.State
  given_either (inl x) g = inl (m.given x g)
  given_either (inr y) g = inr (n.given y g)

  abbrev pub either : Radio
  either = record {
    State = m.State ⊎ n.State;
    sound = sound_either;
    holds = holds_either;
    admits = admits_either;
    taken = taken_either;
    given = given_either;
  }

  pub lawful :
      ((x : m.State) → m.sound x → Lawful m x) → ((y : n.State) → n.sound y → Lawful n y) →
      (z : either.State) → either.sound z → Lawful either z
  lawful first second (inl x) ok = let l = first x ok in
      record { numbers = l.numbers; small = l.small; unheld = l.unheld; trade = l.trade; last = l.last; least = l.least; most = l.most }
  lawful first second (inr y) ok = let l = second y ok in
      record { numbers = l.numbers; small = l.small; unheld = l.unheld; trade = l.trade; last = l.last; least = l.least; most = l.most }

  pub taken :
      ((x : m.State) (g s : ℕ) → m.sound x → takes m x g s ≡ true → Taken m x g s) →
      ((y : n.State) (g s : ℕ) → n.sound y → takes n y g s ≡ true → Taken n y g s) →
      (z : either.State) (g s : ℕ) → either.sound z → takes either z g s ≡ true → Taken either z g s
  taken first second (inl x) g s ok does = let t = first x g s ok does in record { sound = t.sound; holds = t.holds; same = t.same }
  taken first second (inr y) g s ok does = let t = second y g s ok does in record { sound = t.sound; holds = t.holds; same = t.same }

  pub given :
      ((x : m.State) (g : ℕ) → m.sound x → gives m x g ≡ true → Given m x g) →
      ((y : n.State) (g : ℕ) → n.sound y → gives n y g ≡ true → Given n y g) →
      (z : either.State) (g : ℕ) → either.sound z → gives either z g ≡ true → Given either z g
  given first second (inl x) g ok does = let t = first x g ok does in record { sound = t.sound; holds = t.holds; same = t.same }
  given first second (inr y) g ok does = let t = second y g ok does in record { sound = t.sound; holds = t.holds; same = t.same }

-- a pool's states, seen by `into` as those of another, answer as they do alone
pub record Alone (own whole : Radio) (into : own.State → whole.State) : Type 0 where
  pub held : (x : own.State) (g : ℕ) → whole.holds (into x) g ≡ own.holds x g
  pub admitted : (x : own.State) (n : ℕ → Bool) (s : ℕ) → whole.admits (into x) n s ≡ own.admits x n s
  pub take_obeyed : (x : own.State) (g s : ℕ) → takes whole (into x) g s ≡ takes own x g s
  pub give_obeyed : (x : own.State) (g : ℕ) → gives whole (into x) g ≡ gives own x g
  pub take_leaves : (x : own.State) (g s : ℕ) → after_take whole (into x) g s ≡ into (after_take own x g s)
  pub give_leaves : (x : own.State) (g : ℕ) → after_give whole (into x) g ≡ into (after_give own x g)

-- a pool that is one of two answers as the one that it is
abbrev pub AnswersAlone : Radio → Radio → Type 0
AnswersAlone m n = Alone m (either m n) inl × Alone n (either m n) inr
