-- The bytes of an item, where they stand in the frame, and its shape.
use Rattle.std.proofs.Common.{◌≡◌, ℕ, ◌+◌, ◌<◌, ◌≤◌, List, length, take, drop, Decides, ap, ◌∙◌, add-zero, arith}
use Rattle.ranap.specs.Formed.{Assigns, Releases, Shaped, offset_at, length_at}
use Rattle.rules.specs.Frame.{byte, pair_at, bytes_at, assign_good, release_good, item_good}
use Rattle.std.proofs.lemmas.List.{get_or-take, get_or-drop, length-take-le, length-drop}
use Rattle.std.proofs.lemmas.Bool.Decides.{nat_tests, Decides-or}

-- byte k of n bytes at an offset
pub at_byte : (bs : List ℕ) (o n k : ℕ) → k < n → byte (take n (drop o bs)) k ≡ byte bs (o + k)
at_byte bs o n k l = get_or-take n (drop o bs) k 0 l ∙ get_or-drop o bs k 0

-- the first of them
pub at_first : (bs : List ℕ) (o n : ℕ) → 0 < n → byte (take n (drop o bs)) 0 ≡ byte bs o
at_first bs o n l = at_byte bs o n 0 l ∙ ap (byte bs) (add-zero o)

module _ (bs : List ℕ) (o n : ℕ) (inside : o + n ≤ length bs) where
  -- there are n of them where they end in the frame
  long : length (take n (drop o bs)) ≡ n
  long = length-take-le n (drop o bs) (rw (length-drop o bs) (omega (arith, inside)))

  assigns_if_good : Decides (assign_good (take n (drop o bs))) (Assigns bs o n)
  assigns_if_good = (
    λ e.
        let six : n ≡ 6 = grind (arith, nat_tests, long) in
        let zero = at_first bs o n (omega (arith, six)) in
        let two = at_byte bs o n 2 (omega (arith, six)) in
        let five = at_byte bs o n 5 (omega (arith, six)) in
        record { sized = six; first = grind (arith, nat_tests); flags = grind (arith, nat_tests); rights = grind (arith, nat_tests) },
    λ s.
        let zero = at_first bs o n (omega (arith, s.sized)) in
        let two = at_byte bs o n 2 (omega (arith, s.sized)) in
        let five = at_byte bs o n 5 (omega (arith, s.sized)) in
        grind (arith, nat_tests, long),
  )

  releases_if_good : Decides (release_good (take n (drop o bs))) (Releases bs o n)
  releases_if_good = (
    λ e.
        let three : n ≡ 3 = grind (arith, nat_tests, long) in
        let zero = at_first bs o n (omega (arith, three)) in
        record { sized = three; first = grind (arith, nat_tests) },
    λ s.
        let zero = at_first bs o n (omega (arith, s.sized)) in
        grind (arith, nat_tests, long),
  )

pub shaped_if_good : (bs : List ℕ) (i : ℕ) → offset_at bs i + length_at bs i ≤ length bs → Decides (item_good (bytes_at bs (pair_at bs i))) (Shaped bs i)
shaped_if_good bs i inside =
    let it = bytes_at bs (pair_at bs i) in
    let o = offset_at bs i in
    let n = length_at bs i in
    Decides-or (assign_good it) (release_good it) (assigns_if_good bs o n inside) (releases_if_good bs o n inside)
