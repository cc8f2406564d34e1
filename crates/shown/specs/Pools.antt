-- Worked examples of the radio pools.
use Rattle.std.specs.Prelude.{◌≡◌, ℕ, suc, true, false, List, [], ◌∷◌, map}
use Rattle.rules.specs.Grants.{nothing, added}
use Rattle.rules.specs.Radio.{Radio, after_take, after_give}
use Rattle.admission.specs.Rate.{Rate, rates, fresh}
use Rattle.admission.specs.Tree.{Tree, codes, bare}

-- grants of these sizes taken in this order, with the numbers from g on
abbrev pub with_taken : (m : Radio) → m.State → ℕ → List ℕ → m.State
with_taken m x g [] = x
with_taken m x g (s ∷ ss) = with_taken m (after_take m x g s) (suc g) ss

-- these grants given back in this order
abbrev pub with_given : (m : Radio) → m.State → List ℕ → m.State
with_given m x [] = x
with_given m x (g ∷ gs) = with_given m (after_give m x g) gs

-- the tree that took 64, 64, 64 and 1
abbrev pub four : Tree
four = with_taken codes bare 0 (64 ∷ 64 ∷ 64 ∷ 1 ∷ [])

-- the tree that took sixteen blocks of 16
abbrev pub sixteen : Tree
sixteen = with_taken codes bare 0 (16 ∷ 16 ∷ 16 ∷ 16 ∷ 16 ∷ 16 ∷ 16 ∷ 16 ∷ 16 ∷ 16 ∷ 16 ∷ 16 ∷ 16 ∷ 16 ∷ 16 ∷ 16 ∷ [])

-- and then gave every second of them back
abbrev pub gaps : Tree
gaps = with_given codes sixteen (0 ∷ 2 ∷ 4 ∷ 6 ∷ 8 ∷ 10 ∷ 12 ∷ 14 ∷ [])

-- a rate pool of 10 that took 8
abbrev pub eight_of_ten : Rate
eight_of_ten = with_taken rates (fresh 10) 0 (8 ∷ [])

-- what the pools answer in these states
pub record ShownPools : Type 0 where
  -- all four were taken; then 32 is admitted and 33, which takes 64 leaves, is not
  pub four_held : map (codes.holds four) (0 ∷ 1 ∷ 2 ∷ 3 ∷ []) ≡ 64 ∷ 64 ∷ 64 ∷ 1 ∷ []
  pub four_32 : codes.admits four nothing 32 ≡ true
  pub four_33 : codes.admits four nothing 33 ≡ false
  -- a full tree admits nothing; with every second block of 16 given back it admits 16 and not 17, though 128 leaves are free
  pub sixteen_1 : codes.admits sixteen nothing 1 ≡ false
  pub gaps_16 : codes.admits gaps nothing 16 ≡ true
  pub gaps_17 : codes.admits gaps nothing 17 ≡ false
  -- of a rate of 10 with 8 taken 2 are left; 3 are admitted with the 8 named
  pub ten_2 : rates.admits eight_of_ten nothing 2 ≡ true
  pub ten_3 : rates.admits eight_of_ten nothing 3 ≡ false
  pub ten_named_3 : rates.admits eight_of_ten (added nothing 0) 3 ≡ true
