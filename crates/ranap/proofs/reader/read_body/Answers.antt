use Rattle.ranap.proofs.reader.read_body.Goals as goal
use Rattle.ranap.specs.Steps.{unless_fault, pair_in, pairs_in}
use Rattle.rules.specs.Frame.{pair_fault, pair_good, end_of}
use Rattle.std.proofs.Common.{◌≡◌, ℕ, ◌+◌, ◌*◌, ◌≤◌, Bool, true, false, cond, List, [], ◌∷◌, All, Some, Ok, Option, length, refl, arith}
use Rattle.std.proofs.lemmas.List.Elements.{All-nil, All-cons}
use Rattle.std.proofs.lemmas.Bool.Decides.{nat_tests}

abbrev Ends : ℕ → List ℕ → Type 0
Ends end bs = end_of (pair_in bs) ≤ end

-- what is not refused passes the test, and is not refused further on
no_fault : (b : Bool) (o : Option ℕ) (p : ℕ) → Ok tt ≡ unless_fault (cond b o (Some p)) → (b ≡ true) × (Ok tt ≡ unless_fault o)
no_fault true o p e = (refl, e)
no_fault false o p e = cc

good_ends : (end from : ℕ) (bs : List ℕ) → pair_good end from (pair_in bs) ≡ true → Ends end bs
good_ends end from bs e = grind (arith, nat_tests)

-- no refusal, so every item ends in the frame
all_inside : (end i from : ℕ) (bss : List (List ℕ)) → Ok tt ≡ unless_fault (pair_fault end i from (pairs_in bss)) → All (Ends end) bss
all_inside end i from [] e = All-nil (Ends end)
all_inside end i from (bs ∷ bss) e =
    let h = no_fault (pair_good end from (pair_in bs)) (pair_fault end (i + 1) (end_of (pair_in bs)) (pairs_in bss)) (4 + 4 * i) e in
    All-cons (Ends end) bs bss (good_ends end from bs h.0) (all_inside end (i + 1) (end_of (pair_in bs)) bss h.1)

pub read_items-requires-clause-inside : goal.read_items-requires-clause-inside
read_items-requires-clause-inside c =
    let bss = c.pairs_of-pairs.result.now in
    all_inside (length c.args.frame.now) 0 (4 + 4 * length bss) bss c.in_ok-check_pairs.ensures
