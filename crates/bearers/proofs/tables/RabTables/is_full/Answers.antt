use Rattle.std.proofs.Common.{◌≡◌, ◌<◌, not, length, refl, sym, arith, rules}
use Rattle.bearers.proofs.tables.RabTables.is_full.Goals as goal
use Rattle.bearers.specs.View.{bearers_of, queue_of}
use Rattle.rules.specs.Tables.{fresh, known_in}
use Rattle.std.proofs.lemmas.Bool.{lt-leb}
use Rattle.std.proofs.lemmas.List.Filters.{length-filter_both}

-- those that are counted are no more than those that wait
pub returns-then-len-lt64 : goal.returns-then-len-lt64
returns-then-len-lt64 c =
    let bs = bearers_of c.args.self.now in
    let qs = queue_of c.args.self.now in
    let few = length-filter_both (fresh bs) (λ q. not (fresh bs q)) (λ q. refl) qs in
    let b : length bs ≡ c.len.result = search rules in
    let q : length qs ≡ c.len-2.result = search rules in
    let l : known_in bs qs < 64 = omega (arith, few, b, q) in
    sym (lt-leb 64 (known_in bs qs) l)
