-- The book's pages for tickets and the state tell the same: which are out, whose relocation runs, and which connections are prepared.
use Rattle.std.proofs.Common.{◌≡◌, ℕ, ◌+◌, Bool, true, false, not, ◌&&◌, ◌||◌, eqb, List, [], ◌∷◌, length, get_or, Some, None, filter, Option, sym, refl, ap, ◌∙◌, ⊎_elim, arith}
use Rattle.std.proofs.lemmas.Bool.Decides.{nat_tests}
use Rattle.std.proofs.lemmas.Bool.{cases_Bool, and_parts, and_from, or_left, or_right}
use Rattle.rules.specs.Tables.{is_some}
use Rattle.rules.specs.Message.{among}
use Rattle.rules.specs.Connections.{preparing, prepared, of_ue, each_of_ue}
use Rattle.rules.specs.declared.connection.Connection.{Connection}
use Rattle.rules.specs.declared.connection.ConnectionState.{ConnectionState}
use Rattle.rules.specs.declared.connection.TicketRecord.{TicketRecord}
use Rattle.runs.specs.Tickets.{Account, Tickets, each_among}
use Rattle.runs.proofs.Conns.{seat, no_seat}
use Rattle.runs.proofs.Obeyed.{each_seat}

-- preparing or prepared
abbrev pub moves : ConnectionState → Bool
moves s = preparing s || prepared s

-- the relocation of a UE runs as the account says
pub record Running (u : ℕ) (a : Account) (cs : List Connection) : Type 0 where
  pub theirs : (k : ℕ) → among k a.connections ≡ of_ue u (seat cs k)
  pub some : (k : ℕ) × (of_ue u (seat cs k) ≡ true)
  pub moving : (k : ℕ) → of_ue u (seat cs k) ≡ true → moves (seat cs k).state ≡ true
  pub told : (k : ℕ) → of_ue u (seat cs k) ≡ true → among k a.commands ≡ prepared (seat cs k).state

-- one number: out in neither, or in both, and not lost exactly while it runs
abbrev pub Slot : Option Account → Option TicketRecord → List Connection → Type 0
Slot None None cs = Unit {0}
Slot None (Some t) cs = ⊥
Slot (Some a) None cs = ⊥
Slot (Some a) (Some t) cs = (a.lost ≡ not t.running) × (t.running ≡ true → Running t.ue a cs)

-- no UE has two tickets out
abbrev pub OneEach : List (Option TicketRecord) → Type 0
OneEach ts = (i j : ℕ) (s t : TicketRecord) → get_or ts i None ≡ Some s → get_or ts j None ≡ Some t → s.ue ≡ t.ue → i ≡ j

pub record Ticks (b : Tickets) (cs : List Connection) (ts : List (Option TicketRecord)) : Type 0 where
  pub slots : (i : ℕ) → Slot (b.out i) (get_or ts i None) cs
  pub one_each : OneEach ts
  pub count : b.handed_out ≡ b.given_back + length (filter is_some ts)
  pub wide : length ts ≡ 16

-- a UE's connections as they were
pub running_like : (u : ℕ) (a : Account) (cs cs' : List Connection) → Running u a cs → ((k : ℕ) → of_ue u (seat cs' k) ≡ of_ue u (seat cs k)) →
    ((k : ℕ) → of_ue u (seat cs k) ≡ true → (seat cs' k).state ≡ (seat cs k).state) → Running u a cs'
running_like u a cs cs' r same kept = record {
  theirs = λ k. r.theirs k ∙ sym (same k);
  some = (r.some.0, same r.some.0 ∙ r.some.1);
  moving = λ k e. let f = sym (same k) ∙ e in ap moves (kept k f) ∙ r.moving k f;
  told = λ k e. let f = sym (same k) ∙ e in r.told k f ∙ sym (ap prepared (kept k f));
}

-- a number whose relocation, if it runs, runs on
pub slot_like : (oa : Option Account) (ot : Option TicketRecord) (cs cs' : List Connection) → Slot oa ot cs →
    ((t : TicketRecord) (a : Account) → ot ≡ Some t → t.running ≡ true → Running t.ue a cs → Running t.ue a cs') → Slot oa ot cs'
slot_like None None cs cs' s f = tt
slot_like None (Some t) cs cs' s f = s
slot_like (Some a) None cs cs' s f = s
slot_like (Some a) (Some t) cs cs' s f = (s.0, λ on. f t a refl on (s.1 on))

-- out in both
pub slot_some : (oa : Option Account) (ot : Option TicketRecord) (cs : List Connection) → Slot oa ot cs → is_some oa ≡ is_some ot
slot_some None None cs s = refl
slot_some None (Some t) cs s = absurd s
slot_some (Some a) None cs s = absurd s
slot_some (Some a) (Some t) cs s = refl

-- each of the first is among the second
all_among : (ps ks : List ℕ) → ((k : ℕ) → among k ps ≡ true → among k ks ≡ true) → each_among ps ks ≡ true
all_among [] ks h = refl
all_among (p ∷ ps) ks h =
    let self : eqb p p ≡ true = grind (arith, nat_tests) in
    and_from (among p ks) (each_among ps ks) (h p (or_left (eqb p p) (among p ps) self)) (all_among ps ks (λ k e. h k (or_right (eqb k p) (among k ps) e)))

among_all : (ps ks : List ℕ) → each_among ps ks ≡ true → (k : ℕ) → among k ps ≡ true → among k ks ≡ true
among_all [] ks h k e = let z : ◌≡◌ {A = ℕ} 0 1 = cc in absurd (omega arith)
among_all (p ∷ ps) ks h k e =
    let n = and_parts (among p ks) (each_among ps ks) h in
    let m : among p ks ≡ true = n.0 in
    at (eqb k p) refl e (among_all ps ks n.1 k)
  where
    at : (t : Bool) → eqb k p ≡ t → (t || among k ps) ≡ true → (among k ps ≡ true → among k ks ≡ true) → among k ks ≡ true
    at true f g ih = let q : k ≡ p = grind (arith, nat_tests) in ap (λ z. among z ks) q ∙ (and_parts (among p ks) (each_among ps ks) h).0
    at false f g ih = ih g

same_bool : (a b : Bool) → (a ≡ true → b ≡ true) → (b ≡ true → a ≡ true) → a ≡ b
same_bool true b f g = sym (f refl)
same_bool false true f g = g refl
same_bool false false f g = refl

-- while it runs: each connection prepared exactly when each has had its command
pub ready_told : (u : ℕ) (a : Account) (cs : List Connection) → Running u a cs → each_of_ue u prepared cs ≡ each_among a.connections a.commands
ready_told u a cs r =
    same_bool (each_of_ue u prepared cs) (each_among a.connections a.commands)
    (λ e. all_among a.connections a.commands (λ k f. let mine = sym (r.theirs k) ∙ f in r.told k mine ∙ each_seat u prepared cs e k mine))
    (λ e. ap not (no_seat (λ c. of_ue u c && not (prepared c.state)) cs (λ k.
    ⊎_elim
    (λ mine. ap (λ t. t && not (prepared (seat cs k).state)) mine ∙ ap not (sym (r.told k mine) ∙ among_all a.connections a.commands e k (r.theirs k ∙ mine)))
    (λ other. ap (λ t. t && not (prepared (seat cs k).state)) other)
    (cases_Bool (of_ue u (seat cs k))))))
