-- Connections that move and those that do not; a change for one UE leaves the others, a stopped ticket is the same UE's.
use Rattle.std.proofs.Common.{◌≡◌, ℕ, suc, Bool, true, false, cond, not, ◌&&◌, eqb, List, [], ◌∷◌, map, length, get_or, Some, None, filter, Option, sym, refl, ap, ◌∙◌, arith}
use lib.ListN.{get_or-map}
use Rattle.std.proofs.lemmas.Bool.{both_ways, and_parts, eqb-true, ne_eqb}
use Rattle.rules.specs.Tables.{is_some}
use Rattle.rules.specs.Connections.{closed, preparing, relocating, reopened, of_ue, moved_to, changed}
use Rattle.rules.specs.Relocation.{stopped}
use Rattle.rules.specs.declared.connection.Connection.{Connection}
use Rattle.rules.specs.declared.connection.ConnectionState.{ConnectionState}
use Rattle.rules.specs.declared.connection.ConnectionState.TheVariants.{Closed, Open, Preparing, Prepared, Executed}
use Rattle.rules.specs.declared.connection.TicketRecord.{TicketRecord}
use Rattle.runs.specs.Tickets.{Account}
use Rattle.runs.proofs.Conns.{seat, change, seat_changed}
use Rattle.runs.proofs.Ticks.{moves, Running, OneEach, running_like}

-- what moves is relocating, and is not closed
pub moves_relocating : (s : ConnectionState) → moves s ≡ true → relocating s ≡ true
moves_relocating Closed e = e
moves_relocating Open e = e
moves_relocating Preparing e = refl
moves_relocating Prepared e = refl
moves_relocating Executed e = refl

pub preparing_moves : (s : ConnectionState) → preparing s ≡ true → (moves s ≡ true) × (closed s ≡ false)
preparing_moves Closed e = (e, sym e)
preparing_moves Open e = (e, refl)
preparing_moves Preparing e = (refl, refl)
preparing_moves Prepared e = (refl, refl)
preparing_moves Executed e = (e, refl)

pub moves_there : (s : ConnectionState) → moves s ≡ true → closed s ≡ false
moves_there Closed e = sym e
moves_there Open e = refl
moves_there Preparing e = refl
moves_there Prepared e = refl
moves_there Executed e = refl

pub reopened_still : (s : ConnectionState) → moves (reopened s) ≡ false
reopened_still Closed = refl
reopened_still Open = refl
reopened_still Preparing = refl
reopened_still Prepared = refl
reopened_still Executed = refl

pub closed_off : (u : ℕ) (c : Connection) → closed c.state ≡ true → of_ue u c ≡ false
closed_off u c e = ap (λ t. not t && eqb c.ue u) e

pub there_of : (u : ℕ) (c : Connection) → closed c.state ≡ false → of_ue u c ≡ eqb c.ue u
there_of u c e = ap (λ t. not t && eqb c.ue u) e

-- a connection of one UE is not of another, and a change for one leaves it
change_other : (u v : ℕ) (f : ConnectionState → ConnectionState) (c : Connection) → (u ≡ v → ⊥) → (of_ue u (change v f c) ≡ of_ue u c) × (of_ue u c ≡ true → (change v f c).state ≡ c.state)
change_other u v f c off = at (of_ue v c) refl
  where
    at : (t : Bool) → of_ue v c ≡ t → (of_ue u (cond t (moved_to (f c.state) c) c) ≡ of_ue u c) × (of_ue u c ≡ true → (cond t (moved_to (f c.state) c) c).state ≡ c.state)
    at true e =
        let h = and_parts (not (closed c.state)) (eqb c.ue v) e in
        let q : c.ue ≡ v = eqb-true c.ue v h.1 in
        let n : eqb c.ue u ≡ false = ne_eqb c.ue u (λ z. off (sym z ∙ q)) in
        let no : (b : Bool) → (b && eqb c.ue u) ≡ false = λ b. ap (λ z. b && z) n ∙ none b in
        (no (not (closed (f c.state))) ∙ sym (no (not (closed c.state))), λ mine. absurd (both_ways (of_ue u c) (no (not (closed c.state))) mine))
      where
        none : (b : Bool) → (b && false) ≡ false
        none true = refl
        none false = refl
    at false e = (refl, λ _. refl)

-- so a running relocation of another UE runs on
pub running_other : (u v : ℕ) (f : ConnectionState → ConnectionState) (a : Account) (cs : List Connection) → (u ≡ v → ⊥) → Running u a cs → Running u a (changed v f cs)
running_other u v f a cs off r =
    running_like u a cs (changed v f cs) r
    (λ k. ap (of_ue u) (seat_changed v f cs k) ∙ (change_other u v f (seat cs k) off).0)
    (λ k e. ap (λ c. c.state) (seat_changed v f cs k) ∙ (change_other u v f (seat cs k) off).1 e)

-- a stopped ticket is the same UE's
stopped_ue : (u : ℕ) (o : Option TicketRecord) (t : TicketRecord) → stopped u o ≡ Some t → (s : TicketRecord) × (o ≡ Some s) × (s.ue ≡ t.ue)
stopped_ue u None t e = let z : ◌≡◌ {A = ℕ} 0 1 = cc in absurd (omega arith)
stopped_ue u (Some s) t e = (s, refl, at (eqb s.ue u) e)
  where
    at : (c : Bool) → Some (cond c (record { ue = s.ue; running = false }) s) ≡ Some t → s.ue ≡ t.ue
    at true f = let q : record { ue = s.ue; running = false } ≡ t = cc in ap (λ z. z.ue) q
    at false f = let q : s ≡ t = cc in ap (λ z. z.ue) q

pub one_stopped : (u : ℕ) (ts : List (Option TicketRecord)) → OneEach ts → OneEach (map (stopped u) ts)
one_stopped u ts h i j s t e f q =
    let a = stopped_ue u (get_or ts i None) s (sym (get_or-map (stopped u) ts i None) ∙ e) in
    let c = stopped_ue u (get_or ts j None) t (sym (get_or-map (stopped u) ts j None) ∙ f) in
    h i j a.0 c.0 a.1 c.1 (a.2 ∙ q ∙ sym c.2)

pub out_stopped : (u : ℕ) (ts : List (Option TicketRecord)) → length (filter is_some (map (stopped u) ts)) ≡ length (filter is_some ts)
out_stopped u [] = refl
out_stopped u (None ∷ ts) = out_stopped u ts
out_stopped u (Some t ∷ ts) = ap suc (out_stopped u ts)
