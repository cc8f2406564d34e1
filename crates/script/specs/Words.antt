-- Words: what stands between spaces.
use Rattle.std.specs.Prelude.{ℕ, cond, List, [], ◌∷◌, ◌++◌, ◌==◌}

-- a word that is complete comes before the later ones; between two spaces there is none
abbrev pub before : List ℕ → List (List ℕ) → List (List ℕ)
before [] ws = ws
before (b ∷ bs) ws = (b ∷ bs) ∷ ws

-- the words of a text of which the bytes `w` of a word were read already; 32 is the space
abbrev pub words_from : List ℕ → List ℕ → List (List ℕ)
words_from w [] = before w []
words_from w (b ∷ bs) = cond (b == 32) (before w (words_from [] bs)) (words_from (w ++ b ∷ []) bs)

abbrev pub words : List ℕ → List (List ℕ)
words bs = words_from [] bs
