use Rattle.script.proofs.Digits.{spelled, pairs_spelled}
use Rattle.script.proofs.hex.add_bytes.Goals as goal
use Rattle.std.proofs.Common.{◌+◌, [], ◌++◌, drop, Ok, refl, sym, ap, ◌∙◌}
use Rattle.std.proofs.lemmas.List.{at_drop_more, at_drop_all, append_assoc, append-nil}

pub loop-high-init : goal.loop-high-init
loop-high-init c = ap (λ bs. c.args.bytes.now.items ++ bs) (ap spelled c.as_chunks.ensures.front ∙ pairs_spelled _ c.args.word.now refl)

pub loop-high-preserved : goal.loop-high-preserved
loop-high-preserved c =
    let pairs = c.as_chunks.result.0.now in
    let old = c.loop-high.bytes.items in
    let rest = spelled (drop (c.loop-high.high-index + 1) pairs) in
    let on = at_drop_more spelled pairs c.loop-high.high-index [] c.loop-high-test.true in
    rw (c.in_ok-push.ensures.items, c.byte_of.ensures) (append_assoc old _ rest ∙ ap (λ bs. old ++ bs) (sym on) ∙ c.loop-high.invariant)

pub returns : goal.returns
returns c =
    let pairs = c.as_chunks.result.0.now in
    let new = c.loop-high.bytes.items in
    let none = at_drop_all spelled pairs c.loop-high.high-index c.loop-high-test.false in
    let said = sym (append-nil new) ∙ ap (λ bs. new ++ bs) (sym none) ∙ c.loop-high.invariant in
    rw c.in_ok-check.ensures (ap Ok said)
