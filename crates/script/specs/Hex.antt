-- Hex digits.
use Rattle.std.specs.List.{list_all}
use Rattle.std.specs.Prelude.{ℕ, ◌+◌, ◌-◌, ◌*◌, ◌%◌, Bool, cond, ◌&&◌, List, [], ◌∷◌, length, is_some, Some, None, Option, ◌==◌, nat_le}
use Rattle.script.specs.declared.said.Fault.{Fault}
use Rattle.script.specs.declared.said.Fault.TheVariants.{NotHex, OddHex}
use Rattle.std.specs.Option.{unwrap_or}

-- what a digit stands for: `0` to `9` are the bytes 48 to 57, `a` to `f` 97 to 102, `A` to `F` 65 to 70
abbrev pub hex_digit : ℕ → Option ℕ
hex_digit b =
    cond (nat_le 48 b && nat_le b 57) (Some (b - 48))
    (cond (nat_le 97 b && nat_le b 102) (Some (b - 97 + 10))
    (cond (nat_le 65 b && nat_le b 70) (Some (b - 65 + 10)) None))

abbrev pub hex : ℕ → Bool
hex b = is_some (hex_digit b)

abbrev pub all_hex : List ℕ → Bool
all_hex bs = list_all hex bs

-- a group has a fault if a byte in it is no hex digit, or else if one digit is left over
abbrev pub group_fault : List ℕ → Option Fault
group_fault w = cond (all_hex w) (cond (length w % 2 == 0) None (Some OddHex)) (Some NotHex)

-- two digits make a byte, the high one first
abbrev pub byte_of : ℕ → ℕ → ℕ
byte_of high low = unwrap_or (hex_digit high) 0 * 16 + unwrap_or (hex_digit low) 0

abbrev pub pairs_of : List ℕ → List ℕ
pairs_of [] = []
pairs_of (high ∷ []) = []
pairs_of (high ∷ (low ∷ bs)) = byte_of high low ∷ pairs_of bs
