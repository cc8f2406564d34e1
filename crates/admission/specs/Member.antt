-- What a grant set holds, as a test on numbers.
use Rattle.std.specs.Prelude.{ℕ, Bool, false, cond, nat_lt, slice_index_or}
use Rattle.rules.specs.Grants.{added}
use Rattle.admission.specs.declared.grants.GrantSet.{GrantSet}

-- whether a number is in the set; none over 63 is
abbrev pub member : GrantSet → ℕ → Bool
member s k = slice_index_or s.named k false

-- the set with one number more, if that is below 64
abbrev pub inserted : (ℕ → Bool) → ℕ → ℕ → Bool
inserted n g = cond (nat_lt g 64) (added n g) n
