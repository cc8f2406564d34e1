-- The bytes that pairs of hex digits spell.
use Rattle.std.proofs.Common.{◌≡◌, ℕ, zero, suc, ◌/◌, List, [], ◌∷◌, map, length, get_or, refl, ap, arith}
use Rattle.script.specs.Hex.{byte_of, pairs_of}
use Rattle.std.specs.Simd.{first_chunks}

abbrev pub spelled : List (List ℕ) → List ℕ
spelled ps = map (λ p. byte_of (get_or p 0 0) (get_or p 1 0)) ps

pub pairs_spelled : (n : ℕ) (w : List ℕ) → length w / 2 ≡ n → spelled (first_chunks 2 n w) ≡ pairs_of w
pairs_spelled zero [] e = refl
pairs_spelled zero (a ∷ []) e = refl
pairs_spelled zero (a ∷ (b ∷ w)) e = absurd (omega (arith, e))
pairs_spelled (suc n) [] e = absurd (omega (arith, e))
pairs_spelled (suc n) (a ∷ []) e = absurd (omega (arith, e))
pairs_spelled (suc n) (a ∷ (b ∷ w)) e = ap (λ bs. byte_of a b ∷ bs) (pairs_spelled n w (omega (arith, e)))
