use Rattle.bearers.proofs.Mapped.{one_written, mapped_more, up_to_more}
use Rattle.bearers.proofs.connections.Connections.change.Goals as goal
use Rattle.bearers.proofs.connections.Connections.change.Goals.{then-is_of, else-is_of}
use Rattle.bearers.specs.Closures.{StepsOfUe}
use Rattle.rules.specs.Connections.{of_ue, moved_to, vacant}
use Rattle.rules.specs.declared.connection.Connection.{Connection}
use Rattle.rules.specs.declared.connection.ConnectionState.{ConnectionState}
use Rattle.std.proofs.Common.{◌≡◌, ◌<◌, ◌∙◌, ℕ, true, false, cond, get_or, length, MatchBool, refl, subst, arith, rules}
use Rattle.std.proofs.lemmas.Grind.{common_steps}

-- what becomes of one connection
abbrev moved : ℕ → (ConnectionState → ConnectionState) → Connection → Connection
moved u step k = cond (of_ue u k) (moved_to (step k.state) k) k

module _ (u : ℕ) (gives : ConnectionState → ConnectionState → Type 0) (k : Connection) where
  -- it moves if it is the UE's
  moves : (s : ConnectionState) → true ≡ of_ue u k → gives k.state s → StepsOfUe u gives k (moved_to s k)
  moves s own met = subst (λ b. MatchBool b ((t : ConnectionState) × gives k.state t × (moved_to s k ≡ moved_to t k)) (moved_to s k ≡ k)) own (s, met, refl)

  -- else it stays
  stays : false ≡ of_ue u k → StepsOfUe u gives k k
  stays other = subst (λ b. MatchBool b ((t : ConnectionState) × gives k.state t × (k ≡ moved_to t k)) (k ≡ k)) other refl

pub loop-c-preserved : goal.loop-c-preserved
loop-c-preserved g c =
    let all = c.args.self.now.all in
    let now = c.loop-c.c-items in
    let i = c.loop-c.c-index in
    let l : i < length all = omega (arith, c.loop-c-test.true, c.args.self.now.wide) in
    let n : i < length now = omega (arith, c.loop-c-test.true, c.loop-c.invariant.long) in
    let gives : ConnectionState → ConnectionState → Type 0 = λ s r. g.F.Fn.post c.args.step (s, tt) r in
    let it : Connection = get_or now i vacant in
    elim c.if-is_of.branch [
      | then-is_of w ↦ record {
        long = one_written now _ i 16 _ w.c-items-is c.loop-c.invariant.long;
        by_function = λ step computes. w.c-items-is ∙ mapped_more (moved c.args.ue step) all now i vacant _ l n (c.loop-c.invariant.by_function step computes) (grind (arith, common_steps, computes));
        each = up_to_more (StepsOfUe c.args.ue gives) vacant i all now _ _ n w.c-items-is c.loop-c.invariant.each (moves c.args.ue gives it _ w.if-is_of.ensures (search rules));
      }
      | else-is_of w ↦ record {
        long = one_written now _ i 16 _ w.c-items-is c.loop-c.invariant.long;
        by_function = λ step computes. w.c-items-is ∙ mapped_more (moved c.args.ue step) all now i vacant _ l n (c.loop-c.invariant.by_function step computes) (grind (arith, common_steps));
        each = up_to_more (StepsOfUe c.args.ue gives) vacant i all now _ _ n w.c-items-is c.loop-c.invariant.each (stays c.args.ue gives it w.if-is_of.ensures);
      }
    ]
