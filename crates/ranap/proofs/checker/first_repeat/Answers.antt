use Rattle.std.proofs.Common.{◌≡◌, ℕ, ◌+◌, ◌<◌, Bool, true, false, cond, List, [], ◌∷◌, length, get_or, drop, Some, sym, refl, ap, ◌∙◌, arith}
use Rattle.ranap.proofs.Seen.{blank_item, table_more}
use Rattle.ranap.proofs.checker.first_repeat.Goals as goal
use Rattle.rules.specs.Message.{rab_of, among, repeats_among, unless_repeated}
use Rattle.rules.specs.declared.item.ReadItem.{ReadItem}
use Rattle.std.proofs.lemmas.List.{at_drop_more, at_drop_all, length-set, get_or-replicate}

pub loop-item-init : goal.loop-item-init
loop-item-init c = (refl, ([], (λ k l. get_or-replicate 256 k false false l), refl))

-- one item further, where the table says whether its RAB ID was seen
step : (is : List ReadItem) (i : ℕ) (seen : List Bool) (s : List ℕ) (r : ℕ) (b : Bool) → ((k : ℕ) → k < 256 → get_or seen k false ≡ among k s) → i < length is →
    r ≡ rab_of (get_or is i blank_item).item → r < 256 → get_or seen r false ≡ b →
    repeats_among s (drop i is) ≡ cond b (Some (get_or is i blank_item).offset) (repeats_among (rab_of (get_or is i blank_item).item ∷ s) (drop (i + 1) is))
step is i seen s r b all l rab small e =
    let x = get_or is i blank_item in
    at_drop_more (repeats_among s) is i blank_item l ∙
    ap (λ t. cond t (Some x.offset) (repeats_among (rab_of x.item ∷ s) (drop (i + 1) is))) (ap (λ k. among k s) (sym rab) ∙ sym (all r small) ∙ e)

pub returns-then-seen-rab : goal.returns-then-seen-rab
returns-then-seen-rab c =
    let is = c.args.items.now in
    let so_far = c.loop-item.invariant.1 in
    let rab = c.from-rab.ensures ∙ c.rab.ensures in
    let here = step is c.loop-item.item-index c.loop-item.seen so_far.0 c.from-rab.result true so_far.1 c.loop-item-test.true rab (omega (arith, c.rab.type_inv, c.from-rab.ensures)) c.if-seen-rab.true in
    ap unless_repeated (sym here ∙ so_far.2)

pub loop-item-preserved : goal.loop-item-preserved
loop-item-preserved c =
    let is = c.args.items.now in
    let i = c.loop-item.item-index in
    let so_far = c.loop-item.invariant.1 in
    let q = rab_of (get_or is i blank_item).item in
    let rab : c.from-rab.result ≡ q = c.from-rab.ensures ∙ c.rab.ensures in
    let small : c.from-rab.result < 256 = omega (arith, c.rab.type_inv, c.from-rab.ensures) in
    let on = step is i c.loop-item.seen so_far.0 c.from-rab.result false so_far.1 c.loop-item-test.true rab small c.if-seen-rab.false in (
      simp length-set c.loop-item.invariant.0,
      (q ∷ so_far.0, (λ k l. table_more c.loop-item.seen so_far.0 c.from-rab.result q rab c.loop-item.invariant.0 small so_far.1 k l), sym on ∙ so_far.2),
    )

pub returns : goal.returns
returns c =
    let is = c.args.items.now in
    let so_far = c.loop-item.invariant.1 in
    ap unless_repeated (sym (at_drop_all (repeats_among so_far.0) is c.loop-item.item-index c.loop-item-test.false) ∙ so_far.2)
