use Rattle.controller.proofs.Served.{at_waits}
use Rattle.controller.proofs.controller.Controller.first_meant.Goals as goal
use Rattle.controller.specs.View.{view}
use Rattle.rules.specs.Tables.{is_some, waits_as}
use Rattle.rules.specs.declared.bearer.Request.{Request}
use Rattle.std.proofs.Common.{◌≡◌, ℕ, ◌<◌, true, List, length, Some, None, Option, Bor, sym, ◌∙◌, subst, arith, rules, tests}
use Rattle.std.proofs.lemmas.Grind.{common_steps}
use Rattle.std.proofs.lemmas.Iterator.{YieldsList-from_slice, first_from_find}
use Rattle.std.proofs.lemmas.Iterator.Search.{find_from_yields_List}
use Rattle.std.specs.Bool.{⊤}
use Rattle.std.specs.List.{AllWithin, HoldsAt}
use Rattle.std.specs.Option.{IfSome, MatchOption, option_copied}

-- what a search of the queue finds waits
found : (qs : List Request) (r : Option (Bor Request)) →
    MatchOption r (AllWithin (λ q. ⊤) qs 0 (length qs)) (λ q. ⊤ × (i : ℕ) × (i < length qs) × HoldsAt (λ y. y ≡ q.now) qs i × AllWithin (λ q. ⊤) qs 0 i) →
    IfSome (option_copied r) (λ q. is_some (waits_as q.place q.rab qs) ≡ true)
found qs None h = tt
found qs (Some q) h = at_waits qs q.now h.1 h.2 (h.3 q.now)

pub returns-clause-first : goal.returns-clause-first
returns-clause-first g c = λ t gives.
    let x = view g.P.RadioPool.radio g.P.RadioPool.state c.args.self.now in
    c.copied.ensures ∙ find_from_yields_List (λ q. t x.connections q.place) _ _ c.find.result c.find.ensures.ran (YieldsList-from_slice x.queue (cc)) (λ q b f k. (search (rules, tests), grind (arith, common_steps, gives)))

pub returns-clause-waits : goal.returns-clause-waits
returns-clause-waits g c =
    let qs = (view g.P.RadioPool.radio g.P.RadioPool.state c.args.self.now).queue in
    subst (λ o. IfSome o (λ q. is_some (waits_as q.place q.rab qs) ≡ true)) (sym c.copied.ensures)
    (found qs c.find.result (first_from_find _ _ c.find.result (λ q. ⊤) (λ q. ⊤) c.find.ensures.ran (YieldsList-from_slice qs (cc)) (λ q f k. tt) (λ q f k. search (rules, tests))))
