-- That the definitions of the code tree say what its rules say.
use Rattle.std.proofs.Common.{◌≡◌, ℕ, ◌+◌, ◌*◌, ◌/◌, ◌%◌, ◌<◌, ◌≤◌, Bool, true, is_some, Some, None, ◌≢◌, Decides, Option, refl, ap, ◌∙◌, subst, ⊎_elim, mul-le-mul_right, add-mul, div-add-mod', arith}
use Rattle.std.proofs.lemmas.Nat.{le-div, mod-mul-add}
use Rattle.std.proofs.lemmas.Bool.{cases_lt, cases_eq, both_ways, cond-true, cond-false}
use Rattle.std.proofs.lemmas.Bool.Decides.{nat_tests}
use Rattle.rules.specs.Grants.{nothing}
use Rattle.rules.specs.Radio.{takes}
use Rattle.admission.specs.Tree.{Tree, codes, rounded, free_leaves, block_free, block_for, in_block, left_by}
use Rattle.admission.specs.TreeRules.{RoundsUp, FreeBlock, RoomFor, Placed, Cleared}
use Rattle.admission.specs.Obeyed.{takes_parts}
use Rattle.admission.specs.RangesLemmas.{all_each, all_made}
use Rattle.admission.specs.TreeLaws.{block_found, now_at, makes_room, sized, in_bounds, from_bounds}
use Rattle.admission.specs.Widths.{power_of, log, enough, least, width_pos, block_within}

rounds_up : (s : ℕ) → s ≤ 64 → RoundsUp s (rounded s)
rounds_up s small = record { power = (log s, power_of s); enough = enough s small; least = least s }

rounds_once : (s w : ℕ) → s ≤ 64 → RoundsUp s w → w ≡ rounded s
rounds_once s w small r =
    let w-power = r.power.1 in
    let s-power = power_of s in
    omega (arith, r.least (log s) (omega (arith, enough s small)), least s r.power.0 (omega (arith, r.enough)))

-- the block that begins at a multiple of the width
module _ (s start : ℕ) (aligned : start % rounded s ≡ 0) (within : start + rounded s ≤ 256) where
  number : ℕ
  number = start / rounded s

  begins : number * rounded s ≡ start
  unfolding number
  begins = omega (arith, div-add-mod' start (rounded s))

  is_one : number < 256 / rounded s
  is_one = omega (arith, le-div (number + 1) 256 (rounded s) (width_pos s) (omega (arith, begins, add-mul number 1 (rounded s))))

free_block : (free : ℕ → Bool) (s j : ℕ) → j < 256 / rounded s → block_free free (rounded s) j ≡ true → FreeBlock free (rounded s) (j * rounded s)
free_block free s j below all = record {
  aligned = ap (λ n. n % rounded s) (omega arith) ∙ mod-mul-add j (rounded s) 0 (width_pos s);
  within = block_within (rounded s) j below;
  leaves = all_each free (j * rounded s) (rounded s) all;
}

all_free : (free : ℕ → Bool) (s start : ℕ) (b : FreeBlock free (rounded s) start) → block_free free (rounded s) (number s start b.aligned b.within) ≡ true
all_free free s start b =
    let e = begins s start b.aligned b.within in
    all_made free _ (rounded s) (λ i l h. b.leaves i (omega arith) (omega arith))

pub room_decides : (free : ℕ → Bool) (s : ℕ) → Decides (is_some (block_for free s)) (RoomFor free s)
room_decides free s = (there_is, makes) where
  there_is : is_some (block_for free s) ≡ true → RoomFor free s
  there_is room =
      let size = sized free s room in
      let b = block_found free s room in
      record {
        some = size.0;
        small = size.1;
        width = rounded s;
        rounds = rounds_up s size.1;
        start = b.at * rounded s;
        block = free_block free s b.at (omega (arith, b.first.below)) b.first.passes;
      }

  makes : RoomFor free s → is_some (block_for free s) ≡ true
  makes r =
      let b : FreeBlock free (rounded s) r.start = subst (λ w. FreeBlock free w r.start) (rounds_once s r.width r.small r.rounds) r.block in
      let e = begins s r.start b.aligned b.within in
      makes_room free s (number s r.start b.aligned b.within) r.some r.small (is_one s r.start b.aligned b.within)
      (λ i inside. let bounds = in_bounds (rounded s) (number s r.start b.aligned b.within) i inside in b.leaves i (omega arith) (omega arith))

pub placed : (x : Tree) (g s : ℕ) → takes codes x g s ≡ true → Placed x (codes.taken x g s) g s
placed x g s does =
    let free : ℕ → Bool = free_leaves x nothing in
    let room = (takes_parts codes x g s does).room in
    let b = block_found free s room in
    let w : ℕ = rounded s in
    record {
      width = w;
      rounds = rounds_up s (sized free s room).1;
      start = b.at * w;
      block = free_block free s b.at (omega (arith, b.first.below)) b.first.passes;
      lowest = λ other o.
          let k : ℕ = number s other o.aligned o.within in
          let e : k * w ≡ other = begins s other o.aligned o.within in
          ⊎_elim
          (λ lower. absurd (both_ways (block_free free w k) (b.first.none_before k (omega arith) lower) (all_free free s other o)))
          (λ le. omega (arith, mul-le-mul_right {m = b.at} {n = k} w le))
          (cases_lt k b.at);
      stands = λ i l h. now_at x g s b.at i b.is ∙ cond-true (in_block w b.at i) (Some g) (x.owner i) (from_bounds w b.at i l h);
      others = λ i out. now_at x g s b.at i b.is ∙ cond-false (in_block w b.at i) (Some g) (x.owner i) (⊎_elim (λ l. grind (arith, nat_tests)) (λ l. grind (arith, nat_tests)) out);
    }

pub cleared : (x : Tree) (g : ℕ) → Cleared x (codes.given x g) g
cleared x g = record { free = λ i e. ap (left_by g) e ∙ grind (arith, nat_tests); others = λ i ne. kept (x.owner i) ne } where
  kept : (o : Option ℕ) → (o ≢ Some g) → left_by g o ≡ o
  kept None ne = refl
  kept (Some k) ne = ⊎_elim (λ e. absurd (ne (ap (λ n. Some n) e))) (λ other. grind (arith, nat_tests)) (cases_eq k g)
