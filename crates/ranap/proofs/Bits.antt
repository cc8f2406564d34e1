-- A byte is the sum of the weights of its bits: computed over all bytes without spare bits.
use Rattle.std.proofs.Common.{◌≡◌, ℕ, ◌<◌, true, eqb, refl}
use Rattle.ranap.specs.Formed.{flags_byte, rights_byte}
use Rattle.rules.specs.Frame.{flags_at, priority_at}
use Rattle.std.proofs.lemmas.Bool.{eqb-true, agree_below_at}

pub flags_whole : (n : ℕ) → n < 32 → flags_byte (flags_at n) ≡ n
flags_whole n l = eqb-true (flags_byte (flags_at n)) n (agree_below_at (λ k. eqb (flags_byte (flags_at k)) k) (λ k. true) 32 n refl l)

pub rights_whole : (level n : ℕ) → n < 8 → rights_byte (priority_at level n) ≡ n
rights_whole level n l = eqb-true (rights_byte (priority_at level n)) n (agree_below_at (λ k. eqb (rights_byte (priority_at level k)) k) (λ k. true) 8 n refl l)
