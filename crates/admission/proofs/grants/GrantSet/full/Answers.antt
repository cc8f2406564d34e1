use Rattle.std.proofs.Common.{◌≡◌, ℕ, true, false, ltb, get_or, replicate, arith}
use mathlib.Core.Path.{fun_ext}
use Rattle.std.proofs.lemmas.List.{get_or-replicate, get_or_past, length-replicate}
use Rattle.std.proofs.lemmas.Bool.{cases_lt}
use Rattle.std.proofs.lemmas.Bool.Decides.{nat_tests}
use Rattle.admission.proofs.grants.GrantSet.full.Goals as goal

full_at : (k : ℕ) → get_or (replicate 64 true) k false ≡ ltb k 64
full_at k = grind (arith, nat_tests, cases_lt k 64, get_or-replicate 64 k true false, get_or_past (replicate 64 true) k false, length-replicate 64 true)

pub returns : goal.returns
returns c = fun_ext full_at
