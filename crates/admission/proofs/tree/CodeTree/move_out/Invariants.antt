use Rattle.std.proofs.Common.{◌≡◌, ℕ, ◌<◌, ◌≤◌, slice_index_or, None}
use Rattle.admission.specs.Tree.{left_by}
use Rattle.admission.proofs.tree.CodeTree.move_out.Given as goal

-- the leaves so far are cleared of the grant, and the others are as they were
abbrev pub invariant-loop-owner : goal.invariant-loop-owner
invariant-loop-owner l = record {
  cleared : (k : ℕ) → k < l.owner-index → slice_index_or l.owner-items k None ≡ left_by l.grant (slice_index_or l.initial.owner-items k None);
  kept : (k : ℕ) → l.owner-index ≤ k → slice_index_or l.owner-items k None ≡ slice_index_or l.initial.owner-items k None;
}
