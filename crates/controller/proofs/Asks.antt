-- The three ways of a request.
use Rattle.controller.specs.Chosen.{front_for}
use Rattle.rules.specs.Preemption.{own, own_grant, admitted, candidates, shortest_front, victims}
use Rattle.rules.specs.Radio.{Radio}
use Rattle.rules.specs.Request.{done, wait_or_fail, done_or_not, ask}
use Rattle.rules.specs.State.{State}
use Rattle.rules.specs.declared.bearer.Bearer.{Bearer}
use Rattle.rules.specs.declared.bearer.Request.{Request}
use Rattle.std.proofs.Common.{◌≡◌, Bool, true, false, cond, List, [], Some, None, Option, ap, ◌∙◌}

module _ {m : Radio} (q : Request) (x : State m) where
  -- whom it pre-empts, by whether there is room at once and whether it may trigger
  by_tests : (a t : Bool) → admitted x q ≡ a → q.priority.triggers ≡ t → victims q x ≡ cond a (Some []) (cond t (front_for q x) None)
  unfolding front_for
  by_tests a t e f = ap (λ v. cond v (Some []) (cond q.priority.triggers (front_for q x) None)) e ∙ ap (λ v. cond a (Some []) (cond v (front_for q x) None)) f

  pub ask_admitted : admitted x q ≡ true → ask q x ≡ done q [] x
  unfolding ask
  ask_admitted e = ap (λ v. done_or_not q (cond v (Some []) (cond q.priority.triggers (shortest_front x (own_grant (own q x)) q.size (candidates q x)) None)) x) e

  pub ask_untriggered : admitted x q ≡ false → q.priority.triggers ≡ false → ask q x ≡ wait_or_fail q x
  unfolding ask
  ask_untriggered e f = ap (λ o. done_or_not q o x) (by_tests false false e f)

  pub ask_front : (o : Option (List Bearer)) → admitted x q ≡ false → q.priority.triggers ≡ true → front_for q x ≡ o → ask q x ≡ done_or_not q o x
  unfolding ask
  ask_front o e f g = ap (λ o. done_or_not q o x) (by_tests false true e f) ∙ ap (λ o. done_or_not q o x) g
