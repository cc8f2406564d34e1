use Rattle.bearers.proofs.Spots.{searched}
use Rattle.bearers.proofs.tables.RabTables.search.Goals as goal
use Rattle.std.proofs.Common.{rules}
use Rattle.std.proofs.lemmas.List.Sorted.{answers_always}

-- the closure gives place and RAB ID
pub returns : goal.returns
returns c =
    let facts = c.binary_search_by_key.ensures in
    let by_key = facts.position (λ b. (b.place, b.rab)) (answers_always _ _ _ (λ f a r g called. search rules)) in
    rw (← c.deref.ensures.value) (searched c.deref.result.now (rw c.deref.ensures.value c.args.self.now.sorted) c.args.place c.args.rab c.binary_search_by_key.result facts.bound by_key)
