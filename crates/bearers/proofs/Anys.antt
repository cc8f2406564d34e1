-- Whether some connection or some ticket passes a test, and whether all of a UE do.
use Rattle.std.proofs.Common.{◌≡◌, ℕ, Bool, true, false, not, cond, ◌&&◌, ◌||◌, List, [], ◌∷◌, filter, Option, refl, ap, ◌∙◌}
use Rattle.std.specs.List.{list_any, list_all}
use Rattle.rules.specs.Connections.{any_connection, of_ue, each_of_ue}
use Rattle.rules.specs.Refusals.{any_ticket}
use Rattle.rules.specs.Relocation.{ticket_of}
use Rattle.rules.specs.declared.connection.Connection.{Connection}
use Rattle.rules.specs.declared.connection.ConnectionState.{ConnectionState}
use Rattle.rules.specs.declared.connection.TicketRecord.{TicketRecord}

pub any_connection_is : (test : Connection → Bool) (cs : List Connection) → list_any test cs ≡ any_connection test cs
any_connection_is test [] = refl
any_connection_is test (c ∷ cs) = ap (λ b. test c || b) (any_connection_is test cs)

pub any_ticket_is : (u : ℕ) (ts : List (Option TicketRecord)) → list_any (ticket_of u) ts ≡ any_ticket u ts
any_ticket_is u [] = refl
any_ticket_is u (t ∷ ts) = ap (λ b. ticket_of u t || b) (any_ticket_is u ts)

each_step : (test : Connection → Bool) (k : Connection) (own : List Connection) (is_own fails : Bool) → list_all test own ≡ not fails → list_all test (cond is_own (k ∷ own) own) ≡ not ((is_own && not (test k)) || fails)
each_step test k own false fails e = e
each_step test k own true fails e = ap (λ b. test k && b) e ∙ both (test k) where
  both : (b : Bool) → (b && not fails) ≡ not (not b || fails)
  both true = refl
  both false = refl

pub each_is : (u : ℕ) (test : ConnectionState → Bool) (cs : List Connection) → list_all (λ k. test k.state) (filter (of_ue u) cs) ≡ each_of_ue u test cs
each_is u test [] = refl
each_is u test (c ∷ cs) = each_step (λ k. test k.state) c (filter (of_ue u) cs) (of_ue u c) _ (each_is u test cs)
