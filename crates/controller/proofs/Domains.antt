-- The domain of a code, and whether a UE has a connection in it.
use Rattle.std.proofs.Common.{◌≡◌, ℕ, zero, suc, false, ◌&&◌, eqb, List, [], ◌∷◌, Some, None, refl, rules, tests}
use Rattle.rules.specs.Connections.{of_ue, any_connection}
use Rattle.rules.specs.Numbers.{domain_number, domain_of}
use Rattle.rules.specs.declared.connection.Connection.{Connection}
use Rattle.rules.specs.declared.connection.Domain.{Domain}

-- a code that names a domain is its number
pub code_of : (d : ℕ) (a : Domain) → domain_of d ≡ Some a → domain_number a ≡ d
code_of zero a e = search (rules, tests)
code_of (suc zero) a e = search (rules, tests)
code_of (suc (suc d)) a e = search (rules, tests)

-- none is in the domain of a code that names none
pub none_has : (u d : ℕ) (cs : List Connection) → domain_of d ≡ None → any_connection (λ c. of_ue u c && eqb (domain_number c.domain) d) cs ≡ false
none_has u d [] e = refl
none_has u d (c ∷ cs) e = let ih = none_has u d cs e in search (rules, tests)
