-- A frame is received exactly when it is well formed and its RAB IDs differ.
use Rattle.std.proofs.Common.{ℕ, List, Ok, Err, Result, ◌≡◌, inl, inr, refl, sym, subst}
use Rattle.ranap.proofs.Accepts.{accepts}
use Rattle.ranap.proofs.Seen.{checks}
use Rattle.ranap.specs.Distinct.{Checks, Receives}
use Rattle.ranap.specs.Formed.{Reads}
use Rattle.rules.specs.Frame.{read, received}
use Rattle.rules.specs.Message.{Message, items_of, distinct, passed, checked}
use Rattle.rules.specs.declared.refusal.Refusal.{Refusal}

after_check : (bs : List ℕ) (g : Message) (d : Result (Unit {0}) Refusal) → Reads bs (Ok g) → Checks (items_of g) d → Receives bs (passed d g)
after_check bs g (Ok u) r c = (r.0, r.1, c)
after_check bs g (Err f) r c = inr (record { formed = r.0; message = g; says = r.1; reason = c.0; first = c.1 })

after_reading : (bs : List ℕ) (rd : Result Message Refusal) → Reads bs rd → Receives bs (checked rd)
after_reading bs (Ok g) r = after_check bs g (distinct (items_of g)) r (checks (items_of g) _ refl)
after_reading bs (Err f) r = inl r

pub receives : (bs : List ℕ) (r : Result Message Refusal) → r ≡ received bs → Receives bs r
receives bs r e = subst (Receives bs) (sym e) (after_reading bs (read bs) (accepts bs))
