-- What the reader's two passes give: all pairs first, then the items.
use Rattle.std.specs.Prelude.{ℕ, ◌+◌, ◌*◌, List, map, length, Some, None, Ok, Err, Option, Result}
use Rattle.rules.specs.Frame.{word, pairs_of, pair_fault, item_fault, read_item, broken}
use Rattle.rules.specs.declared.item.Pair.{Pair}
use Rattle.rules.specs.declared.item.ReadItem.{ReadItem}
use Rattle.rules.specs.declared.refusal.Refusal.{Refusal}
use Rattle.ranap.specs.View.{listed}
use Rattle.ranap.specs.declared.items.Items.{Items}

-- a refusal where there is a fault
abbrev pub unless_fault : Option ℕ → Result (Unit {0}) Refusal
unless_fault None = Ok tt
unless_fault (Some at') = Err (broken at')

-- the pair that four bytes say
abbrev pub pair_in : List ℕ → Pair
pair_in bs = record { offset = word bs 0; length = word bs 2 }

-- the pairs that stand one after the other, four bytes each
abbrev pub pairs_in : List (List ℕ) → List Pair
pairs_in bss = map pair_in bss

-- the items of some pairs, or the place of the first fault
abbrev pub items_unless : Option ℕ → List ReadItem → Result (List ReadItem) Refusal
items_unless None is = Ok is
items_unless (Some at') is = Err (broken at')

-- what the second pass gives
abbrev pub items_read : List ℕ → List Pair → Result (List ReadItem) Refusal
items_read bs ps = items_unless (item_fault bs ps) (map (read_item bs) ps)

-- the answer of the second pass
abbrev pub items_answered : Result Items Refusal → Result (List ReadItem) Refusal
items_answered (Ok i) = Ok (listed i)
items_answered (Err f) = Err f

-- the items, once the pairs are good
abbrev pub after_pairs : Result (Unit {0}) Refusal → Result (List ReadItem) Refusal → Result (List ReadItem) Refusal
after_pairs (Ok u) is = is
after_pairs (Err f) is = Err f

-- what the two passes give together
abbrev pub body_read : List ℕ → ℕ → Result (List ReadItem) Refusal
body_read bs n = after_pairs (unless_fault (pair_fault (length bs) 0 (4 + 4 * n) (pairs_of bs n))) (items_read bs (pairs_of bs n))
