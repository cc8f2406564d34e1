-- A modification to the size in use or less is admitted at once.
use Rattle.std.proofs.Common.{◌≡◌, ℕ, ◌<◌, ◌≤◌, true, Some, ap, ◌∙◌, arith}
use Rattle.std.proofs.lemmas.Bool.Decides.{nat_tests}
use Rattle.rules.specs.Grants.{nothing, added}
use Rattle.rules.specs.Radio.{Radio}
use Rattle.rules.specs.State.{State}
use Rattle.rules.specs.Preemption.{admitted, own, own_grant}
use Rattle.rules.specs.declared.bearer.Bearer.{Bearer}
use Rattle.rules.specs.declared.bearer.Request.{Request}
use Rattle.runs.specs.Ledger.{Ledger}
use Rattle.runs.specs.Law.{Laws}
use Rattle.runs.proofs.Bearers.{sizes_at}
use Rattle.runs.proofs.Agrees.{Agrees}

module _ {m : Radio} (laws : Laws m) (todo : ℕ → ℕ → ℕ) (l : Ledger) (x : State m) (a : Agrees todo l x) (q : Request) (b : Bearer) (mine : own q x ≡ Some b) (some : 0 < q.size) (less : q.size ≤ b.size) where
  pub trade_admitted : admitted x q ≡ true
  trade_admitted =
      let z = sizes_at q.place q.rab b x.bearers a.well mine in
      let h = a.held b.grant in
      ap (λ o. m.admits x.pool (own_grant o) q.size) mine ∙
      (laws.lawful x.pool a.sound).trade (added nothing b.grant) b.grant q.size (grind (arith, nat_tests)) some (omega arith)
