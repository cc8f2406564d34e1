-- Words on lists: what stands in one, what stands earlier, and the fronts.
use Rattle.std.specs.Prelude.{◌≡◌, ◌⊎◌, List, [], ◌∷◌, ◌++◌}

-- something stands in a list
abbrev pub Among : {X : Type 0} → X → List X → Type 0
Among a [] = ⊥
Among a (b ∷ bs) = (a ≡ b) ⊎ Among a bs

-- one stands in a list, and another behind it
abbrev pub Earlier : {X : Type 0} → X → X → List X → Type 0
Earlier a b [] = ⊥
Earlier a b (c ∷ cs) = ((a ≡ c) × Among b cs) ⊎ Earlier a b cs

-- a list begins with another
abbrev pub Front : {X : Type 0} → List X → List X → Type 0
Front {X} as' bs = (rest : List X) × (bs ≡ as' ++ rest)
