-- Where the first word of a text stands.
use Rattle.std.proofs.Common.{◌≡◌, ℕ, ◌+◌, ◌<◌, Bool, true, false, eqb, not, List, [], ◌∷◌, ◌++◌, length, take, drop, sym, refl, ap, ◌∙◌, append-nil, append_assoc, arith}
use Rattle.std.specs.List.{take_while, prefix_len}
use Rattle.std.proofs.lemmas.List.Folds.{length-prefix_len}
use Rattle.script.specs.Words.{words, words_from, before}

abbrev is_space : ℕ → Bool
is_space b = eqb b 32

abbrev is_other : ℕ → Bool
is_other b = not (eqb b 32)

-- a word, and what comes `n` bytes further
abbrev parted : List ℕ → List ℕ → ℕ → List (List ℕ)
parted word bs n = before (word ++ take n bs) (words (drop n bs))

-- one byte more
module _ (word : List ℕ) (b : ℕ) (bs : List ℕ) where
  take_more : (n : ℕ) → b ∷ take n bs ≡ take (1 + n) (b ∷ bs)
  take_more n = grind arith

  drop_more : (n : ℕ) → drop n bs ≡ drop (1 + n) (b ∷ bs)
  drop_more n = grind arith

  at_space : eqb b 32 ≡ true → words_from word (b ∷ bs) ≡ before word (words bs)
  at_space e = rw e refl

  at_other : eqb b 32 ≡ false → words_from word (b ∷ bs) ≡ words_from (word ++ b ∷ []) bs
  at_other e = rw e refl

  parted_more : (n : ℕ) → parted (word ++ b ∷ []) bs n ≡ parted word (b ∷ bs) (1 + n)
  parted_more n i =
      before ((append_assoc word (b ∷ []) (take n bs) ∙ ap (λ t. word ++ t) (take_more n)) i) (words (drop_more n i))

one_byte : (word : List ℕ) (b : ℕ) (bs : List ℕ) (space : Bool) → eqb b 32 ≡ space →
    words_from (word ++ b ∷ []) bs ≡ parted (word ++ b ∷ []) bs (prefix_len is_other bs) →
    words_from word (b ∷ bs) ≡ parted word (b ∷ bs) (prefix_len is_other (b ∷ bs))
one_byte word b bs true e on =
    let none : 0 ≡ prefix_len is_other (b ∷ bs) = rw e refl in
    at_space word b bs e ∙ (λ i. before (sym (append-nil word) i) (sym (at_space [] b bs e) i)) ∙ ap (parted word (b ∷ bs)) none
one_byte word b bs false e on =
    let more : 1 + prefix_len is_other bs ≡ prefix_len is_other (b ∷ bs) = rw e refl in
    at_other word b bs e ∙ on ∙ parted_more word b bs _ ∙ ap (parted word (b ∷ bs)) more

-- a word ends at a space, or where the text ends
parted_at_space : (word bs : List ℕ) → words_from word bs ≡ parted word bs (prefix_len is_other bs)
parted_at_space word [] = ap (λ w. before w []) (sym (append-nil word))
parted_at_space word (b ∷ bs) = one_byte word b bs (eqb b 32) refl (parted_at_space (word ++ b ∷ []) bs)

-- the words of a text that does not begin with a space
abbrev cut : List ℕ → List (List ℕ)
cut [] = []
cut (b ∷ bs) = let n = prefix_len is_other (b ∷ bs) in take n (b ∷ bs) ∷ words (drop n (b ∷ bs))

front_byte : (b : ℕ) (bs : List ℕ) (space : Bool) → eqb b 32 ≡ space →
    words bs ≡ cut (drop (prefix_len is_space bs) bs) → words (b ∷ bs) ≡ cut (drop (prefix_len is_space (b ∷ bs)) (b ∷ bs))
front_byte b bs true e later =
    let more : 1 + prefix_len is_space bs ≡ prefix_len is_space (b ∷ bs) = rw e refl in
    at_space [] b bs e ∙ later ∙ ap cut (drop_more [] b bs _ ∙ ap (λ n. drop n (b ∷ bs)) more)
front_byte b bs false e later =
    let none : 0 ≡ prefix_len is_space (b ∷ bs) = rw e refl in
    let n = prefix_len is_other bs in
    let more : 1 + n ≡ prefix_len is_other (b ∷ bs) = rw e refl in
    at_other [] b bs e ∙ parted_at_space (b ∷ []) bs ∙ (λ i. take_more [] b bs n i ∷ words (drop_more [] b bs n i)) ∙
    ap (λ k. take k (b ∷ bs) ∷ words (drop k (b ∷ bs))) more ∙ ap (λ k. cut (drop k (b ∷ bs))) none

cut_at_front : (bs : List ℕ) → words bs ≡ cut (drop (prefix_len is_space bs) bs)
cut_at_front [] = refl
cut_at_front (b ∷ bs) = front_byte b bs (eqb b 32) refl (cut_at_front bs)

cut_some : (bs : List ℕ) (n : ℕ) → n ≡ length (take_while is_other bs) → 0 < length bs → cut bs ≡ take n bs ∷ words (drop n bs)
cut_some [] n e some = absurd (omega arith)
cut_some (b ∷ bs) n e some = ap (λ k. take k (b ∷ bs) ∷ words (drop k (b ∷ bs))) (sym (e ∙ length-prefix_len is_other (b ∷ bs)))

-- `trimmed` is a text without the spaces at its front
module _ (text trimmed : List ℕ) (start : ℕ) (back : trimmed ≡ drop start text) (spaces : start ≡ length (take_while is_space text)) where
  cut_trimmed : words text ≡ cut trimmed
  cut_trimmed = cut_at_front text ∙ ap (λ n. cut (drop n text)) (sym (spaces ∙ length-prefix_len is_space text)) ∙ ap cut (sym back)

  pub no_word : trimmed ≡ [] → words text ≡ []
  no_word e = cut_trimmed ∙ ap cut e

  -- its first word has `n` bytes
  pub first_word : (n : ℕ) → n ≡ length (take_while is_other trimmed) → 0 < length trimmed → words text ≡ take n trimmed ∷ words (drop n trimmed)
  first_word n e some = cut_trimmed ∙ cut_some trimmed n e some
