-- What it says that a take or a give is obeyed.
use Rattle.std.specs.Prelude.{◌≡◌, ℕ, ◌<◌, true, ◌&&◌, ◌==◌, nat_lt}
use Rattle.std.proofs.lemmas.Bool.{and_parts, ltb-true, eqb-true}
use Rattle.rules.specs.Grants.{nothing}
use Rattle.rules.specs.Radio.{Radio, takes, gives}

pub record Takes (m : Radio) (x : m.State) (g s : ℕ) : Type 0 where
  pub number : g < 64
  pub fresh : m.holds x g ≡ 0
  pub room : m.admits x nothing s ≡ true

pub takes_parts : (m : Radio) (x : m.State) (g s : ℕ) → takes m x g s ≡ true → Takes m x g s
takes_parts m x g s does =
    let a = and_parts (nat_lt g 64) (m.holds x g == 0 && m.admits x nothing s) does in
    let b = and_parts (m.holds x g == 0) (m.admits x nothing s) a.1 in
    record { number = ltb-true g 64 a.0; fresh = eqb-true (m.holds x g) 0 b.0; room = b.1 }

pub gives_part : (m : Radio) (x : m.State) (g : ℕ) → gives m x g ≡ true → 0 < m.holds x g
gives_part m x g does = ltb-true 0 (m.holds x g) does
