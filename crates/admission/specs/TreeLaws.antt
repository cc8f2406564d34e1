-- The laws of the code tree.
use Rattle.std.specs.Prelude.{◌≡◌, ℕ, ◌+◌, ◌*◌, ◌/◌, ◌<◌, ◌≤◌, Bool, true, false, cond, is_some, Some, None, Option, ◌==◌, ◌≢◌, refl}
use Rattle.std.proofs.Common.{sym, ap, ◌∙◌, subst, ⊎_elim, arith}
use Rattle.std.proofs.Math.Path.{fun_ext}
use Rattle.std.proofs.lemmas.Bool.{cases_eq, cases_Bool, cond-true, cond-false, ne_eqb}
use Rattle.std.proofs.lemmas.Bool.Decides.{Decides-like, nat_tests}
use Rattle.std.proofs.lemmas.Grind.{common_steps}
use Rattle.std.proofs.lemmas.Option.{none-some, same_Some}
use Rattle.rules.specs.Grants.{nothing, everything, added}
use Rattle.rules.specs.Radio.{Lawful, Taken, Given, takes, gives, put}
use Rattle.admission.specs.Tree.{Tree, Settled, Stands, bare, codes, rounded, free_of, free_leaves, block_free, lowest, block_for, in_block, moved_in, left_by, moved_out}
use Rattle.admission.specs.Obeyed.{takes_parts, gives_part}
use Rattle.admission.specs.Puts.{put_at, put_off, put_small, put_numbers, numbered}
use Rattle.admission.specs.RangesLemmas.{First, first_is, first_exists, all_each, all_made}
use Rattle.admission.specs.Widths.{finer}

pub bare_settled : Settled bare
bare_settled = record {
  numbers = λ g out. refl;
  small = λ g. omega arith;
  held = λ i g e. absurd (none-some g e);
  block = λ g some. absurd (omega arith);
}

-- ---- blocks

-- a leaf of a block, by its bounds
pub in_bounds : (w j i : ℕ) → in_block w j i ≡ true → (j * w ≤ i) × (i < j * w + w)
in_bounds w j i e = (grind (arith, nat_tests), grind (arith, nat_tests))

pub from_bounds : (w j i : ℕ) → j * w ≤ i → i < j * w + w → in_block w j i ≡ true
from_bounds w j i l h = grind (arith, nat_tests)

-- whether a size has a block, by the free leaves alone
abbrev by_leaves : ℕ → (ℕ → Bool) → Bool
by_leaves s free = is_some (block_for free s)

pub sized : (free : ℕ → Bool) (s : ℕ) → by_leaves s free ≡ true → (0 < s) × (s ≤ 64)
sized free s e = grind (arith, common_steps, nat_tests)

-- for a size from 1 to 64, the lowest free block of its rounded size
pub block_at : (free : ℕ → Bool) (s : ℕ) → 0 < s → s ≤ 64 → block_for free s ≡ lowest free (rounded s)
block_at free s some small = grind (arith, nat_tests)

-- a block all of whose leaves are free makes room
pub makes_room : (free : ℕ → Bool) (s j : ℕ) → 0 < s → s ≤ 64 → j < 256 / rounded s → ((i : ℕ) → in_block (rounded s) j i ≡ true → free i ≡ true) → by_leaves s free ≡ true
makes_room free s j some small below each =
    let here : block_free free (rounded s) j ≡ true = all_made free (j * rounded s) (rounded s) (λ i l h. each i (from_bounds (rounded s) j i l h)) in
    ap is_some (block_at free s some small) ∙ first_exists (block_free free (rounded s)) 0 (256 / rounded s) j (omega arith) (omega arith) here

pub some_of : (o : Option ℕ) → is_some o ≡ true → (j : ℕ) × (o ≡ Some j)
some_of None e = cc
some_of (Some j) e = (j, refl)

-- where there is room, the block that a size takes
pub record Block (free : ℕ → Bool) (s : ℕ) : Type 0 where
  pub at : ℕ
  pub is : block_for free s ≡ Some at
  pub first : First (block_free free (rounded s)) 0 (256 / rounded s) at

pub block_found : (free : ℕ → Bool) (s : ℕ) → by_leaves s free ≡ true → Block free s
block_found free s room =
    let size = sized free s room in
    let found = some_of (block_for free s) room in
    record {
      at = found.0;
      is = found.1;
      first = first_is (block_free free (rounded s)) 0 (256 / rounded s) found.0 (sym (block_at free s size.0 size.1) ∙ found.1);
    }

-- ---- what is free

same_free : (x : Tree) (n n' : ℕ → Bool) → ((i g : ℕ) → x.owner i ≡ Some g → n g ≡ n' g) → free_leaves x n ≡ free_leaves x n'
same_free x n n' same = fun_ext (λ i. at (x.owner i) (same i)) where
  at : (o : Option ℕ) → ((g : ℕ) → o ≡ Some g → n g ≡ n' g) → free_of n o ≡ free_of n' o
  at None alike = refl
  at (Some g) alike = alike g refl

-- with a set that names all that stand on leaves, every leaf is free
free_when : (n : ℕ → Bool) (o : Option ℕ) → ((g : ℕ) → o ≡ Some g → n g ≡ true) → free_of n o ≡ true
free_when n None named = refl
free_when n (Some g) named = named g refl

-- with nothing given back, a free leaf has no owner
pub no_owner : (o : Option ℕ) → free_of nothing o ≡ true → o ≡ None
no_owner None e = refl
no_owner (Some g) e = cc

pub lawful : (x : Tree) → Settled x → Lawful codes x
lawful x ok = record {
  numbers = ok.numbers;
  small = ok.small;
  unheld = λ n n' s same. ap (by_leaves s) (same_free x n n' (λ i g e. same g (ok.held i g e)));
  trade = λ n g s named some le.
      let own = ok.block g (omega arith) in
      let part = finer s (x.sizes g) own.0 le (ok.small g) own.1 in
      makes_room (free_leaves x n) s part.0 some (omega (arith, ok.small g)) part.1
      (λ i inside.
      let bounds = in_bounds (rounded s) part.0 i inside in
      let stands : x.owner i ≡ Some g = (own.2 i).0 (from_bounds (rounded (x.sizes g)) own.0 i (omega (arith, bounds, part.2, part.3)) (omega (arith, bounds, part.2, part.3))) in
      ap (free_of n) stands ∙ named);
  last =
      makes_room (free_leaves x everything) 1 0 (omega arith) (omega arith) (omega arith)
      (λ i inside. free_when everything (x.owner i) (λ g e. let l : g < 64 = numbered x.sizes ok.numbers g (ok.held i g e) in grind (arith, nat_tests)));
  least = λ n s yes. (sized (free_leaves x n) s yes).0;
  most = λ n s yes. (sized (free_leaves x n) s yes).1;
}

-- ---- a take

-- the leaves after a take whose block is known
pub now_at : (x : Tree) (g s j i : ℕ) → block_for (free_leaves x nothing) s ≡ Some j → (codes.taken x g s).owner i ≡ cond (in_block (rounded s) j i) (Some g) (x.owner i)
now_at x g s j i e = ap (λ o. moved_in x.owner g (rounded s) o i) e

-- who keeps its leaves, and gets no other, stands as before
stands_still :
    (f h : ℕ → Option ℕ) (k s : ℕ) → ((i : ℕ) → f i ≡ Some k → h i ≡ Some k) → ((i : ℕ) → h i ≡ Some k → f i ≡ Some k) → Stands f k s → Stands h k s
stands_still f h k s to back stood = (stood.0, stood.1, λ i. Decides-like (in_block (rounded s) stood.0 i) (to i) (back i) (stood.2 i))

pub taken : (x : Tree) (g s : ℕ) → Settled x → takes codes x g s ≡ true → Taken codes x g s
taken x g s ok does =
    let obeyed = takes_parts codes x g s does in
    let size = sized (free_leaves x nothing) s obeyed.room in
    let b = block_found (free_leaves x nothing) s obeyed.room in
    let y : Tree = codes.taken x g s in
    let inside : ℕ → Bool = in_block (rounded s) b.at in
    let own : (i : ℕ) → inside i ≡ true → y.owner i ≡ Some g = λ i in'. now_at x g s b.at i b.is ∙ cond-true (inside i) (Some g) (x.owner i) in' in
    let vacant : (i : ℕ) → inside i ≡ true → x.owner i ≡ None = λ i in'.
    let bounds = in_bounds (rounded s) b.at i in' in
    no_owner (x.owner i) (all_each (free_leaves x nothing) (b.at * rounded s) (rounded s) b.first.passes i bounds.0 bounds.1)
    in
    let kept : (i : ℕ) → inside i ≡ false → y.owner i ≡ x.owner i = λ i out. now_at x g s b.at i b.is ∙ cond-false (inside i) (Some g) (x.owner i) out in
    record {
      sound = record {
        numbers = put_numbers x.sizes g s obeyed.number ok.numbers;
        small = put_small x.sizes g s size.1 ok.small;
        held = λ i k e.
            ⊎_elim
            (λ in'. let same : k ≡ g = same_Some k g (sym e ∙ own i in') in omega (arith, put_at x.sizes g s k same, size))
            (λ out.
            let some : 0 < x.sizes k = ok.held i k (sym (kept i out) ∙ e) in
            ⊎_elim (λ same. omega (arith, put_at x.sizes g s k same, size)) (λ ne. omega (arith, put_off x.sizes g s k ne)) (cases_eq k g))
            (cases_Bool (inside i));
        block = λ k some.
            ⊎_elim
            (λ same.
            let none : x.sizes k ≡ 0 = ap x.sizes same ∙ obeyed.fresh in
            let back : (i : ℕ) → y.owner i ≡ Some k → inside i ≡ true = λ i e.
            ⊎_elim (λ in'. in') (λ out. absurd (omega (arith, ok.held i k (sym (kept i out) ∙ e)))) (cases_Bool (inside i))
            in
            subst (Stands y.owner k) (sym (put_at x.sizes g s k same))
            (b.at, omega (arith, b.first.below), λ i. (λ in'. own i in' ∙ ap (λ n. Some n) (sym same), back i)))
            (λ ne.
            let size-kept : put x.sizes g s k ≡ x.sizes k = put_off x.sizes g s k ne in
            let to : (i : ℕ) → x.owner i ≡ Some k → y.owner i ≡ Some k = λ i e.
            ⊎_elim (λ in'. absurd (none-some k (sym (vacant i in') ∙ e))) (λ out. kept i out ∙ e) (cases_Bool (inside i))
            in
            let back : (i : ℕ) → y.owner i ≡ Some k → x.owner i ≡ Some k = λ i e.
            ⊎_elim (λ in'. absurd (ne (same_Some k g (sym e ∙ own i in')))) (λ out. sym (kept i out) ∙ e) (cases_Bool (inside i))
            in
            subst (Stands y.owner k) (sym size-kept) (stands_still x.owner y.owner k (x.sizes k) to back (ok.block k (omega arith))))
            (cases_eq k g);
      };
      holds = refl;
      same = λ n t named.
          ap (by_leaves t)
          (fun_ext (λ i.
          ⊎_elim
          (λ in'. ap (free_of n) (own i in') ∙ named ∙ sym (ap (free_of n) (vacant i in')))
          (λ out. ap (free_of n) (kept i out))
          (cases_Bool (inside i))));
    }

-- a take of a fresh grant that finds a block is obeyed
pub takes_where : (x : Tree) (g s j : ℕ) → g < 64 → x.sizes g ≡ 0 → Some j ≡ block_for (free_leaves x nothing) s → takes codes x g s ≡ true
takes_where x g s j number fresh found = grind (arith, common_steps, nat_tests, ap is_some (sym found))

-- the state after a take whose block is known
pub taken_where :
    (x : Tree) (g s j w : ℕ) (sizes : ℕ → ℕ) (owner : ℕ → Option ℕ) → Some j ≡ block_for (free_leaves x nothing) s → w ≡ rounded s →
    sizes ≡ put x.sizes g s → owner ≡ moved_in x.owner g w (Some j) → ◌≡◌ {A = Tree} (record { sizes = sizes; owner = owner }) (codes.taken x g s)
taken_where x g s j w sizes owner found wide is-sizes is-owner =
    let same : owner ≡ (codes.taken x g s).owner = is-owner ∙ ap (λ v. moved_in x.owner g v (Some j)) wide ∙ ap (λ b. moved_in x.owner g (rounded s) b) found in
    λ i. record { sizes = is-sizes i; owner = same i }

-- ---- a give

-- with the grant gone, a leaf is free where it was with the grant named
free_left : (n : ℕ → Bool) (g : ℕ) (o : Option ℕ) → free_of n (left_by g o) ≡ free_of (added n g) o
free_left n g None = refl
free_left n g (Some k) = grind (arith, common_steps, nat_tests, cases_Bool (n k))

-- who stands on a leaf once a grant is gone stood there before, and is another
pub still_there : (g k : ℕ) (o : Option ℕ) → left_by g o ≡ Some k → (o ≡ Some k) × (k ≢ g)
still_there g k None e = cc
still_there g k (Some h) e = ⊎_elim (λ same. grind (arith, common_steps, nat_tests)) (λ ne. grind (arith, common_steps, nat_tests)) (cases_eq h g)

pub given : (x : Tree) (g : ℕ) → Settled x → gives codes x g ≡ true → Given codes x g
given x g ok does = record {
  sound = record {
    numbers = put_numbers x.sizes g 0 (numbered x.sizes ok.numbers g (gives_part codes x g does)) ok.numbers;
    small = put_small x.sizes g 0 (omega arith) ok.small;
    held = λ i k e.
        let there = still_there g k (x.owner i) e in
        omega (arith, put_off x.sizes g 0 k there.1, ok.held i k there.0);
    block = λ k some.
        let ne : k ≡ g → ⊥ = λ same. omega (arith, put_at x.sizes g 0 k same) in
        let size-kept : put x.sizes g 0 k ≡ x.sizes k = put_off x.sizes g 0 k ne in
        let to : (i : ℕ) → x.owner i ≡ Some k → left_by g (x.owner i) ≡ Some k = λ i e.
        ap (left_by g) e ∙ cond-false (k == g) None (Some k) (ne_eqb k g ne)
        in
        let back : (i : ℕ) → left_by g (x.owner i) ≡ Some k → x.owner i ≡ Some k = λ i e. (still_there g k (x.owner i) e).0 in
        subst (Stands (moved_out x.owner g) k) (sym size-kept)
        (stands_still x.owner (moved_out x.owner g) k (x.sizes k) to back (ok.block k (omega arith)));
  };
  holds = refl;
  same = λ n t. ap (by_leaves t) (fun_ext (λ i. free_left n g (x.owner i)));
}
