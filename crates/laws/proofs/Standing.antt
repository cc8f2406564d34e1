-- What stands in a list, and in which order: over appended lists, and over those that pass a test.
use Rattle.std.proofs.Common.{◌≡◌, ℕ, Bool, true, false, cond, ◌⊎◌, List, [], ◌∷◌, ◌++◌, filter, refl, ap, ◌∙◌, inl, inr, ⊎_elim, arith}
use Rattle.laws.specs.Lists.{Among, Earlier}

module _ {X : Type 0} where
  pub among_append : (a : X) (xs ys : List X) → Among a (xs ++ ys) → Among a xs ⊎ Among a ys
  among_append a [] ys e = inr e
  among_append a (x ∷ xs) ys e = ⊎_elim (λ here. inl (inl here)) (λ later. ⊎_elim (λ l. inl (inr l)) (λ r. inr r) (among_append a xs ys later)) e

  pub among_left : (a : X) (xs ys : List X) → Among a xs → Among a (xs ++ ys)
  among_left a [] ys e = absurd e
  among_left a (x ∷ xs) ys e = ⊎_elim (λ here. inl here) (λ later. inr (among_left a xs ys later)) e

  pub among_right : (a : X) (xs ys : List X) → Among a ys → Among a (xs ++ ys)
  among_right a [] ys e = e
  among_right a (x ∷ xs) ys e = inr (among_right a xs ys e)

  pub earlier_append : (a b : X) (xs ys : List X) → Earlier a b (xs ++ ys) → Earlier a b xs ⊎ ((Among a xs × Among b ys) ⊎ Earlier a b ys)
  earlier_append a b [] ys e = inr (inr e)
  earlier_append a b (x ∷ xs) ys e =
      ⊎_elim
      (λ here. ⊎_elim (λ l. inl (inl (here.0, l))) (λ r. inr (inl (inl here.0, r))) (among_append b xs ys here.1))
      (λ later. ⊎_elim (λ l. inl (inr l)) (λ o. ⊎_elim (λ h. inr (inl (inr h.0, h.1))) (λ r. inr (inr r)) o) (earlier_append a b xs ys later))
      e

  pub earlier_both : (a b : X) (xs : List X) → Earlier a b xs → Among a xs × Among b xs
  earlier_both a b [] e = absurd e
  earlier_both a b (x ∷ xs) e = ⊎_elim (λ here. (inl here.0, inr here.1)) (λ later. let h = earlier_both a b xs later in (inr h.0, inr h.1)) e

  module _ (test : X → Bool) where
    kept_step : (a b : X) (bs : List X) (t : Bool) → test b ≡ t → Among a (cond t (b ∷ filter test bs) (filter test bs)) →
        (Among a (filter test bs) → Among a bs × (test a ≡ true)) → ((a ≡ b) ⊎ Among a bs) × (test a ≡ true)
    kept_step a b bs true e f ih = ⊎_elim (λ here. (inl here, ap test here ∙ e)) (λ later. let h = ih later in (inr h.0, h.1)) f
    kept_step a b bs false e f ih = let h = ih f in (inr h.0, h.1)

    pub among_kept : (a : X) (bs : List X) → Among a (filter test bs) → Among a bs × (test a ≡ true)
    among_kept a [] e = absurd e
    among_kept a (b ∷ bs) e = kept_step a b bs (test b) refl e (among_kept a bs)

    keep_step : (a b : X) (bs : List X) (t : Bool) → test b ≡ t → test a ≡ true → (a ≡ b) ⊎ Among a bs → (Among a bs → Among a (filter test bs)) →
        Among a (cond t (b ∷ filter test bs) (filter test bs))
    keep_step a b bs true e p f ih = ⊎_elim (λ here. inl here) (λ later. inr (ih later)) f
    keep_step a b bs false e p f ih = ⊎_elim (λ here. let s : test a ≡ false = ap test here ∙ e in let z : ◌≡◌ {A = ℕ} 0 1 = cc in absurd (omega arith)) ih f

    pub kept_among : (a : X) (bs : List X) → test a ≡ true → Among a bs → Among a (filter test bs)
    kept_among a [] p e = absurd e
    kept_among a (b ∷ bs) p e = keep_step a b bs (test b) refl p e (kept_among a bs p)

    earlier_step : (a b c : X) (cs : List X) (t : Bool) → Earlier a b (cond t (c ∷ filter test cs) (filter test cs)) → (Earlier a b (filter test cs) → Earlier a b cs) → Earlier a b (c ∷ cs)
    earlier_step a b c cs true e ih = ⊎_elim (λ here. inl (here.0, (among_kept b cs here.1).0)) (λ later. inr (ih later)) e
    earlier_step a b c cs false e ih = inr (ih e)

    pub earlier_kept : (a b : X) (cs : List X) → Earlier a b (filter test cs) → Earlier a b cs
    earlier_kept a b [] e = absurd e
    earlier_kept a b (c ∷ cs) e = earlier_step a b c cs (test c) e (earlier_kept a b cs)
