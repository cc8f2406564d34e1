use Rattle.std.proofs.Common.{◌≡◌, ℕ, ◌+◌, ◌<◌, Bool, true, false, cond, List, [], ◌∷◌, ◌++◌, map, length, get_or, take, drop, Some, Ok, Err, sym, ap, ◌∙◌, arith}
use Rattle.ranap.proofs.Firsts.{none_test}
use Rattle.ranap.proofs.reader.read_items.Goals as goal
use Rattle.ranap.specs.Steps.{pair_in, pairs_in, items_unless}
use Rattle.rules.specs.Frame.{bytes_at, item_good, item_in, item_fault, read_item, broken}
use Rattle.rules.specs.declared.item.ReadItem.{ReadItem}
use Rattle.std.proofs.lemmas.List.{at_drop_more, at_drop_all, length-map, length-take, take_all, map_more, map_push}
use Rattle.std.proofs.lemmas.Option.{cond_some}

module _ (bs : List ℕ) (i : ℕ) (bss : List (List ℕ)) where
  -- one item further, or the fault
  step : (b : Bool) → i < length bss → item_good (bytes_at bs (pair_in (get_or bss i []))) ≡ b →
      item_fault bs (pairs_in (drop i bss)) ≡ cond b (item_fault bs (pairs_in (drop (i + 1) bss))) (Some (pair_in (get_or bss i [])).offset)
  step b l e =
      at_drop_more (λ rest. item_fault bs (pairs_in rest)) bss i [] l ∙
      ap (λ t. cond t (item_fault bs (pairs_in (drop (i + 1) bss))) (Some (pair_in (get_or bss i [])).offset)) e

pub returns-in_default : goal.returns-in_default
returns-in_default c =
    let bs = c.args.frame.now in
    let bss = c.args.pairs.now in
    let p = c.pair_of-pair.result in
    let bad = none_test (item_good (bytes_at bs p)) (item_in (bytes_at bs p)) c.in_default.ensures in
    let here = step bs c.loop-bytes.bytes-index bss false c.loop-bytes-test.true (rw c.pair_of-pair.ensures at bad) in
    ap Err (c.broken_at.ensures ∙ ap (λ q. broken q.offset) c.pair_of-pair.ensures) ∙
    ap (λ o. items_unless o (map (read_item bs) (pairs_in bss))) (sym here ∙ c.loop-bytes.invariant.1)

pub add-requires : goal.add-requires
add-requires c =
    let some = take c.loop-bytes.bytes-index c.args.pairs.now in
    omega (arith, ap length c.loop-bytes.invariant.0, length-map (pairs_in some) (read_item c.args.frame.now), length-map some pair_in, length-take c.loop-bytes.bytes-index c.args.pairs.now)

pub loop-bytes-preserved : goal.loop-bytes-preserved
loop-bytes-preserved c =
    let bs = c.args.frame.now in
    let bss = c.args.pairs.now in
    let i = c.loop-bytes.bytes-index in
    let p = c.pair_of-pair.result in
    let good = cond_some (item_good (bytes_at bs p)) (item_in (bytes_at bs p)) c.in-Some.item (sym c.in-Some.ensures) in
    let on = step bs i bss true c.loop-bytes-test.true (rw c.pair_of-pair.ensures at good.0) in
    let said : ◌≡◌ {A = ReadItem} (record { offset = p.offset; item = c.in-Some.item }) (read_item bs (pair_in (get_or bss i []))) =
    ap (λ t. record { offset = p.offset; item = t }) (sym good.1) ∙ ap (read_item bs) c.pair_of-pair.ensures
    in
    let more : map (read_item bs) (pairs_in (take (i + 1) bss)) ≡ map (read_item bs) (pairs_in (take i bss)) ++ read_item bs (pair_in (get_or bss i [])) ∷ [] =
    ap (map (read_item bs)) (map_more pair_in bss i [] c.loop-bytes-test.true) ∙ map_push (read_item bs) (pairs_in (take i bss)) (pair_in (get_or bss i []))
    in
    (rw (c.add.ensures, c.loop-bytes.invariant.0, said) (sym more), sym on ∙ c.loop-bytes.invariant.1)

pub returns : goal.returns
returns c =
    let bs = c.args.frame.now in
    let bss = c.args.pairs.now in
    let all = take_all c.loop-bytes.bytes-index bss c.loop-bytes-test.false in
    let none = at_drop_all (λ rest. item_fault bs (pairs_in rest)) bss c.loop-bytes.bytes-index c.loop-bytes-test.false in
    ap Ok (c.loop-bytes.invariant.0 ∙ ap (λ some. map (read_item bs) (pairs_in some)) all) ∙
    ap (λ o. items_unless o (map (read_item bs) (pairs_in bss))) (sym none ∙ c.loop-bytes.invariant.1)
