-- A pool that is one of two answers as the one that it is.
use Rattle.std.proofs.Common.{◌≡◌, Bool, true, false, cond, inl, inr, refl}
use Rattle.rabctl.specs.Either.{Alone, AnswersAlone, either}
use Rattle.rules.specs.Radio.{Radio, takes, gives}

chosen : {A B : Type 0} (f : A → B) (b : Bool) (x y : A) → cond b (f x) (f y) ≡ f (cond b x y)
chosen f true x y = refl
chosen f false x y = refl

module _ (m n : Radio) where
  pub first : Alone m (either m n) inl
  first = record {
    held = λ x g. refl;
    admitted = λ x given s. refl;
    take_obeyed = λ x g s. refl;
    give_obeyed = λ x g. refl;
    take_leaves = λ x g s. chosen inl (takes m x g s) (m.taken x g s) x;
    give_leaves = λ x g. chosen inl (gives m x g) (m.given x g) x;
  }

  pub second : Alone n (either m n) inr
  second = record {
    held = λ y g. refl;
    admitted = λ y given s. refl;
    take_obeyed = λ y g s. refl;
    give_obeyed = λ y g. refl;
    take_leaves = λ y g s. chosen inr (takes n y g s) (n.taken y g s) y;
    give_leaves = λ y g. chosen inr (gives n y g) (n.given y g) y;
  }

  pub both : AnswersAlone m n
  both = (first, second)
