use Rattle.ranap.proofs.reader.pairs_of.Goals as goal
use Rattle.ranap.specs.Steps.{pair_in, pairs_in}
use Rattle.rules.specs.Frame.{byte, pair_at}
use Rattle.std.proofs.Common.{◌≡◌, ℕ, zero, suc, ◌+◌, ◌-◌, ◌*◌, ◌/◌, ◌<◌, List, map, length, take, drop, refl, ap, ◌∙◌, arith}
use Rattle.std.proofs.lemmas.List.{get_or-take, get_or-drop, length-take-le, length-drop}
use Rattle.std.specs.List.{range_with_len}
use Rattle.std.specs.Simd.{first_chunks}

-- n times four bytes, which stand in the frame from pair i on
chunks_said : (bs : List ℕ) (n i : ℕ) (part : List ℕ) → ((k : ℕ) → k < 4 * n → byte part k ≡ byte bs (4 + 4 * i + k)) →
    map pair_in (first_chunks 4 n part) ≡ map (pair_at bs) (range_with_len i n)
chunks_said bs zero i part same = refl
chunks_said bs (suc n) i part same =
    let at : (k j : ℕ) → k < 4 → 4 + 4 * i + k ≡ j → byte (take 4 part) k ≡ byte bs j =
    λ k j l e. get_or-take 4 part k 0 l ∙ same k (omega (arith, l)) ∙ ap (byte bs) e
    in
    let one : pair_in (take 4 part) ≡ pair_at bs i =
    rw (at 0 (4 + 4 * i) (omega arith) (omega arith), at 1 (4 + 4 * i + 1) (omega arith) (omega arith), at 2 (6 + 4 * i) (omega arith) (omega arith), at 3 (6 + 4 * i + 1) (omega arith) (omega arith)) refl
    in
    let rest : map pair_in (first_chunks 4 n (drop 4 part)) ≡ map (pair_at bs) (range_with_len (i + 1) n) =
    chunks_said bs n (i + 1) (drop 4 part) (λ k l. get_or-drop 4 part k 0 ∙ same (4 + k) (omega (arith, l)) ∙ ap (byte bs) (omega arith))
    in
    cc

pub returns-clause-pairs : goal.returns-clause-pairs
returns-clause-pairs c =
    let bs = c.args.frame.now in
    let n = c.args.count in
    let part = take (4 + 4 * n - 4) (drop 4 bs) in
    let long : length part / 4 ≡ n = omega (arith, length-take-le (4 + 4 * n - 4) (drop 4 bs) (omega (arith, length-drop 4 bs))) in
    ap pairs_in c.as_chunks.ensures.front ∙ ap (λ k. pairs_in (first_chunks 4 k part)) long ∙
    chunks_said bs n 0 part (λ k l. get_or-take (4 + 4 * n - 4) (drop 4 bs) k 0 (omega (arith, l)) ∙ get_or-drop 4 bs k 0)
