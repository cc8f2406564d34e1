use Rattle.std.proofs.Common.{arith, rules, tests, ◌≡◌, ◌/◌, ap, ◌∙◌, length, subst, sym, option_map, None}
use Rattle.std.specs.Iterator.Runs.{IsChunksExactRun}
use Rattle.std.specs.Slice.Iter.{chunks_exact_rest, chunks_exact_size}
use Rattle.admission.specs.Member.{member}
use Rattle.admission.specs.Tree.{free_of, free_leaves, block_free, lowest, leaves_of}
use Rattle.admission.specs.Views.{tree_of}
use Rattle.admission.specs.Ranges.{first_from}
use Rattle.admission.proofs.Blocks.{first_block}
use Rattle.admission.proofs.tree.CodeTree.lowest_block.Goals as goal
use Rattle.admission.proofs.tree.CodeTree.lowest_block.Goals.{After-position}

-- the first block all of whose leaves are free
found : (c : goal.After-position) → c.position.result ≡ lowest (free_leaves (tree_of c.args.self.now) (member c.args.given.now)) c.args.width
found c =
    let owners = c.args.self.now.owners in
    let w = c.args.width in
    let n : length owners ≡ 256 = search rules in
    let run = c.position.ensures.runs in
    let u = run.0 in
    let size : chunks_exact_size u.from ≡ w = ap chunks_exact_size run.1 ∙ c.chunks_exact.ensures.size in
    let rest : chunks_exact_rest u.from ≡ owners = ap chunks_exact_rest run.1 ∙ c.chunks_exact.ensures.rest in
    let cut : IsChunksExactRun u w owners = subst (λ k. IsChunksExactRun u k owners) size (subst (IsChunksExactRun u (chunks_exact_size u.from)) rest (c.chunks_exact.ensures.runs u u.seen (omega arith))) in
    first_block _ _ (free_of (member c.args.given.now)) (λ x b q k. search (rules, tests)) None owners w c.requires u cut c.position.result run.2
    ∙ ap (λ m. first_from (block_free (free_leaves (tree_of c.args.self.now) (member c.args.given.now)) w) 0 (m / w)) n

pub returns-clause-value : goal.returns-clause-value
returns-clause-value c = ap (option_map (leaves_of c.args.width)) (sym c.in_ok-block.was ∙ found (goal.at.returns-clause-value c).After-position)

pub returns-in_err-block-clause-value : goal.returns-in_err-block-clause-value
returns-in_err-block-clause-value c =
    c.from_residual.ensures ∙ ap (option_map (leaves_of c.args.width)) (sym c.in_err-block.was ∙ found (goal.at.returns-in_err-block-clause-value c).After-position)
