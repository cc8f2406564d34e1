use Rattle.ranap.proofs.Firsts.{none_test}
use Rattle.ranap.proofs.reader.check_pairs.Goals as goal
use Rattle.ranap.specs.Steps.{unless_fault, pair_in, pairs_in}
use Rattle.rules.specs.Frame.{pair_good, pair_fault, end_of}
use Rattle.std.proofs.Common.{◌≡◌, ℕ, ◌+◌, ◌*◌, ◌<◌, Bool, true, false, cond, List, [], length, get_or, drop, Some, Err, sym, ap, ◌∙◌}
use Rattle.std.proofs.lemmas.List.{at_drop_more, at_drop_all}
use Rattle.std.proofs.lemmas.Option.{cond_some}

module _ (end i from : ℕ) (bss : List (List ℕ)) where
  -- one pair further, or the fault
  step : (b : Bool) → i < length bss → pair_good end from (pair_in (get_or bss i [])) ≡ b →
      pair_fault end i from (pairs_in (drop i bss)) ≡
      cond b (pair_fault end (i + 1) (end_of (pair_in (get_or bss i []))) (pairs_in (drop (i + 1) bss))) (Some (4 + 4 * i))
  step b l e =
      at_drop_more (λ rest. pair_fault end i from (pairs_in rest)) bss i [] l ∙
      ap (λ t. cond t (pair_fault end (i + 1) (end_of (pair_in (get_or bss i []))) (pairs_in (drop (i + 1) bss))) (Some (4 + 4 * i))) e

pub returns-in_default : goal.returns-in_default
returns-in_default c =
    let p = pair_in (get_or c.args.pairs.now c.loop-i.i []) in
    let bad = none_test (pair_good c.args.len c.loop-i.from p) p c.in_default.ensures in
    let here = step c.args.len c.loop-i.i c.loop-i.from c.args.pairs.now false c.loop-i-test.true bad in
    ap Err c.broken_at.ensures ∙ ap unless_fault (sym here ∙ c.loop-i.invariant)

pub loop-i-preserved : goal.loop-i-preserved
loop-i-preserved c =
    let p = pair_in (get_or c.args.pairs.now c.loop-i.i []) in
    let good = cond_some (pair_good c.args.len c.loop-i.from p) p c.in-Some.pair (sym c.in-Some.ensures) in
    let on = step c.args.len c.loop-i.i c.loop-i.from c.args.pairs.now true c.loop-i-test.true good.0 in
    rw (c.end-from.ensures, sym good.1) (sym on ∙ c.loop-i.invariant)

pub returns : goal.returns
returns c =
    let none = at_drop_all (λ rest. pair_fault c.args.len c.loop-i.i c.loop-i.from (pairs_in rest)) c.args.pairs.now c.loop-i.i c.loop-i-test.false in
    ap unless_fault (sym none ∙ c.loop-i.invariant)
