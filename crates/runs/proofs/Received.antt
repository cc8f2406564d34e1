-- A frame that was received names no RAB twice.
use Rattle.std.proofs.Common.{◌≡◌, ℕ, List, Some, None, Ok, Err, Option, Result, refl, subst, arith}
use Rattle.rules.specs.Message.{Message, items_of, repeats, unless_repeated, passed, checked}
use Rattle.rules.specs.Frame.{read, received}
use Rattle.rules.specs.declared.refusal.Refusal.{Refusal}

passed_once : (h g : Message) (o : Option ℕ) → repeats (items_of h) ≡ o → passed (unless_repeated o) h ≡ Ok g → repeats (items_of g) ≡ None
passed_once h g None e f = let s : h ≡ g = cc in subst (λ z. repeats (items_of z) ≡ None) s e
passed_once h g (Some at') e f = let z : ◌≡◌ {A = ℕ} 0 1 = cc in absurd (omega arith)

checked_once : (g : Message) (rd : Result Message Refusal) → checked rd ≡ Ok g → repeats (items_of g) ≡ None
checked_once g (Err f) e = let z : ◌≡◌ {A = ℕ} 0 1 = cc in absurd (omega arith)
checked_once g (Ok h) e = passed_once h g (repeats (items_of h)) refl e

pub received_once : (bs : List ℕ) (g : Message) → received bs ≡ Ok g → repeats (items_of g) ≡ None
received_once bs g e = checked_once g (read bs) e
