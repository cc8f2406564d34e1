use Rattle.bearers.proofs.Ranges.{good_at}
use Rattle.bearers.proofs.Spots.{set_up_at, unset_in_gap}
use Rattle.bearers.proofs.Standing.{once_from}
use Rattle.bearers.proofs.tables.RabTables.bearer.Goals as goal
use Rattle.bearers.specs.Order.{bearer_good, bearers_good, requests_good}
use Rattle.bearers.specs.Spot.{IsAt, IsGapFor}
use Rattle.bearers.specs.View.{bearers_of, queue_of}
use Rattle.bearers.specs.declared.tables.RabTables.{RabTables}
use Rattle.rules.specs.Tables.{set_up_as}
use Rattle.rules.specs.declared.bearer.Bearer.{Bearer}
use Rattle.std.proofs.Common.{◌≡◌, ℕ, true, get_or, Some, None, Option, Result, Ok, Err, IfOk, IfErr, IfSome, IsSomeAnd, MatchOption, sym, ap, subst, ◌∙◌, rules}
use Rattle.std.proofs.lemmas.Bool.{and_parts}
use Rattle.std.specs.Result.{result_ok}
use borrow.Author.Tests.{tests}

-- what is read where the search ended
module _ (t : RabTables) (p r : ℕ) (reads : ℕ → Bearer → Type 0) (is : (i : ℕ) (b : Bearer) → reads i b → b ≡ get_or (bearers_of t) i b) where
  read :
      (o : Result ℕ ℕ) (found : Option Bearer) → MatchOption (result_ok o) (found ≡ None) (λ i. IsSomeAnd found (reads i)) →
      IfOk o (IsAt p r (bearers_of t)) → IfErr o (IsGapFor p r (bearers_of t)) → record { answer : found ≡ set_up_as p r (bearers_of t); good : IfSome found (λ b. bearer_good b ≡ true) }
  read (Ok i) None said stands gap = absurd said
  read (Ok i) (Some b) said stands gap =
      let bs = bearers_of t in
      let range = (and_parts (bearers_good bs) (requests_good (queue_of t)) t.ranges).0 in
      record { answer = ap Some (is i b said) ∙ sym (set_up_at p r bs i b (once_from bs t.sorted) stands); good = ap bearer_good (is i b said) ∙ good_at bs i b range stands.within }
  read (Err i) None said stands gap = record { answer = sym (unset_in_gap p r (bearers_of t) i gap).0; good = tt }
  read (Err i) (Some b) said stands gap = cc

-- a closure that reads there, by what it gives
plainly : (t : RabTables) (ok : Option ℕ) (found : Option Bearer) (reads : ℕ → Bearer → Type 0) → MatchOption ok (found ≡ None) (λ i. IsSomeAnd found (reads i)) → ((i : ℕ) (b : Bearer) → reads i b → b ≡ get_or (bearers_of t) i b) →
    MatchOption ok (found ≡ None) (λ i. IsSomeAnd found (λ b. b ≡ get_or (bearers_of t) i b))
plainly t None found reads said is = said
plainly t (Some i) None reads said is = said
plainly t (Some i) (Some b) reads said is = is i b said

pub returns : goal.returns
returns c =
    let t = c.args.self.now in
    let plain = plainly t c.ok.result c.map.result _ c.map.ensures.cases (λ i b k. search (rules, tests)) in
    read t c.args.place c.args.rab (λ i b. b ≡ get_or (bearers_of t) i b) (λ i b e. e) c.search.result c.map.result (subst (λ o. MatchOption o (c.map.result ≡ None) (λ i. IsSomeAnd c.map.result (λ b. b ≡ get_or (bearers_of t) i b))) c.ok.ensures.value plain) c.search.ensures.found c.search.ensures.absent
