use Rattle.std.proofs.Common.{◌≡◌, ◌<◌, [], ◌∷◌, length, sym, ap, ◌∙◌, arith, rules}
use Rattle.std.proofs.lemmas.Bool.{eqb-true, eqb-false}
use Rattle.std.proofs.lemmas.List.{nil_from_length}
use Rattle.script.proofs.Splitting.{no_word, first_word}
use Rattle.script.proofs.words.WordsIterator.next.Goals as goal
use Rattle.script.specs.Words.{words}

pub returns-then-is_empty-clause-steps : goal.returns-then-is_empty-clause-steps
returns-then-is_empty-clause-steps c =
    let trimmed = c.split_at.result.1.now in
    let empty : trimmed ≡ [] = nil_from_length trimmed (eqb-true _ 0 (sym c.if-is_empty.ensures)) in
    let none : c.args.self.now ≡ [] = sym c.self.view_is ∙ no_word _ trimmed _ c.split_at.ensures.back c.spaces.ensures empty in
    (none, ap words empty)

pub returns-clause-steps : goal.returns-clause-steps
returns-clause-steps c =
    let trimmed = c.split_at.result.1.now in
    let some : 0 < length trimmed = omega (arith, eqb-false _ 0 (sym c.if-is_empty.ensures)) in
    let cut = c.split_at-2.ensures in
    sym c.self.view_is ∙ first_word _ trimmed _ c.split_at.ensures.back c.spaces.ensures _ c.word_length.ensures some ∙
    (λ i. sym cut.front i ∷ words (sym cut.back i))

pub returns-clause-goes : goal.returns-clause-goes
returns-clause-goes c = let fewer = ap length (returns-clause-steps c) in search (rules, arith)
