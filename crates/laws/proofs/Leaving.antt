-- A request leaves the queue.
use Rattle.std.proofs.Common.{◌≡◌, ℕ, suc, Bool, true, false, cond, List, [], ◌∷◌, ◌++◌, length, None, sym, refl, ap, ◌∙◌, arith}
use Rattle.std.proofs.lemmas.Bool.Decides.{nat_tests}
use Rattle.rules.specs.Tables.{asks_for, waits_as, without_request}
use Rattle.rules.specs.declared.bearer.Request.{Request}
use Rattle.bearers.proofs.Waiting.{Apart, none_head}

asks_itself : (q : Request) → asks_for q.place q.rab q ≡ true
asks_itself q = grind (arith, nat_tests)

asks_back : (q f : Request) → asks_for f.place f.rab q ≡ false → asks_for q.place q.rab f ≡ false
asks_back q f e = grind (arith, nat_tests)

-- where none of a RAB waits, what stands there is not the RAB's
not_asked : (p r : ℕ) (q : Request) (fs bs : List Request) → waits_as p r (fs ++ q ∷ bs) ≡ None → asks_for p r q ≡ false
not_asked p r q [] bs e = (none_head p r q bs (asks_for p r q) refl e).0
not_asked p r q (f ∷ fs) bs e = not_asked p r q fs bs (none_head p r f (fs ++ q ∷ bs) (asks_for p r f) refl e).1

-- one leaves, those before it and behind it stay
pub gap : (q : Request) (fs bs : List Request) → Apart (fs ++ q ∷ bs) → without_request q.place q.rab (fs ++ q ∷ bs) ≡ fs ++ bs
gap q [] bs ok = ap (λ t. cond t bs (q ∷ without_request q.place q.rab bs)) (asks_itself q)
gap q (f ∷ fs) bs ok =
    ap (λ t. cond t (fs ++ q ∷ bs) (f ∷ without_request q.place q.rab (fs ++ q ∷ bs))) (asks_back q f (not_asked f.place f.rab q fs bs ok.0)) ∙
    ap (λ zs. f ∷ zs) (gap q fs bs ok.1)

fewer_step : (p r : ℕ) (q f : Request) (fs bs : List Request) (t : Bool) → length (fs ++ q ∷ bs) ≡ suc (length (without_request p r (fs ++ q ∷ bs))) →
    suc (length (fs ++ q ∷ bs)) ≡ suc (length (cond t (fs ++ q ∷ bs) (f ∷ without_request p r (fs ++ q ∷ bs))))
fewer_step p r q f fs bs true ih = refl
fewer_step p r q f fs bs false ih = ap (λ n. suc n) ih

-- so the queue has one less
pub one_fewer : (q : Request) (fs bs : List Request) → length (fs ++ q ∷ bs) ≡ suc (length (without_request q.place q.rab (fs ++ q ∷ bs)))
one_fewer q [] bs = sym (ap (λ t. suc (length (cond t bs (q ∷ without_request q.place q.rab bs)))) (asks_itself q))
one_fewer q (f ∷ fs) bs = fewer_step q.place q.rab q f fs bs (asks_for q.place q.rab f) (one_fewer q fs bs)
