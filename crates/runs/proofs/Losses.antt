-- The tickets after an opening, a command, a loss and a closing.
use Rattle.std.proofs.Common.{◌≡◌, ℕ, ◌+◌, ◌<◌, Bool, true, false, cond, not, ◌&&◌, ◌||◌, eqb, List, ◌∷◌, map, length, get_or, set, Some, None, Option, sym, refl, ap, ◌∙◌, subst, ⊎_elim}
use lib.ListN.{length-map, get_or-map}
use Rattle.std.proofs.lemmas.Bool.{both_ways, cases_Bool, true≢false, eqb-true, eqb-false, eq-eqb, ne_eqb}
use Rattle.rules.specs.Message.{among}
use Rattle.rules.specs.Connections.{closed, preparing, prepared, relocating, reopened, of_ue, moved_to, changed, any_connection, vacant}
use Rattle.rules.specs.Relocation.{stopped}
use Rattle.rules.specs.declared.connection.Connection.{Connection}
use Rattle.rules.specs.declared.connection.ConnectionState.TheVariants.{Open, Prepared}
use Rattle.rules.specs.declared.connection.Domain.{Domain}
use Rattle.rules.specs.declared.connection.TicketRecord.{TicketRecord}
use Rattle.runs.specs.Tickets.{Account, Tickets, with_command, with_loss, command_at, loss_at}
use Rattle.runs.proofs.Conns.{seat, seat_set, none_seat}
use Rattle.runs.proofs.Moves.{moves_relocating, preparing_moves, closed_off, there_of, running_other, one_stopped, out_stopped}
use Rattle.runs.proofs.Ticks.{moves, Running, Slot, Ticks, running_like, slot_like}

module _ (b : Tickets) (cs : List Connection) (ts : List (Option TicketRecord)) (h : Ticks b cs ts) where
  -- a closed place is opened for a UE that does not relocate
  pub ticks_open : (p u : ℕ) (d : Domain) → p < length cs → closed (seat cs p).state ≡ true → any_connection (λ c. of_ue u c && relocating c.state) cs ≡ false →
      Ticks b (set cs p (record { state = Open; ue = u; domain = d })) ts
  ticks_open p u d wide shut still =
      let v : Connection = record { state = Open; ue = u; domain = d } in
      record {
        slots = λ i. slot_like (b.out i) (get_or ts i None) cs (set cs p v) (h.slots i) (λ t a e on r.
            let k = r.some.0 in
            let mine = r.some.1 in
            let off : t.ue ≡ u → ⊥ = λ same.
            let n = none_seat (λ c. of_ue u c && relocating c.state) refl cs still k in
            let f : of_ue u (seat cs k) ≡ true = ap (λ z. of_ue z (seat cs k)) (sym same) ∙ mine in
            true≢false (sym (ap (λ z. z && relocating (seat cs k).state) f ∙ moves_relocating (seat cs k).state (r.moving k mine)) ∙ n) in
            running_like t.ue a cs (set cs p v) r
            (λ j. ⊎_elim
            (λ here. ap (of_ue t.ue) here.1 ∙ ne_eqb u t.ue (λ z. off (sym z)) ∙ sym (ap (λ z. of_ue t.ue (seat cs z)) here.0 ∙ closed_off t.ue (seat cs p) shut))
            (λ there. ap (of_ue t.ue) there.1)
            (seat_set cs p j v wide))
            (λ j f. ⊎_elim
            (λ here. absurd (both_ways (of_ue t.ue (seat cs j)) (ap (λ z. of_ue t.ue (seat cs z)) here.0 ∙ closed_off t.ue (seat cs p) shut) f))
            (λ there. ap (λ c. c.state) there.1)
            (seat_set cs p j v wide)));
        one_each = h.one_each;
        count = h.count;
        wide = h.wide;
      }

  -- a place that does not move is closed
  pub ticks_close : (p : ℕ) → p < length cs → moves (seat cs p).state ≡ false → Ticks b (set cs p vacant) ts
  ticks_close p wide still = record {
    slots = λ i. slot_like (b.out i) (get_or ts i None) cs (set cs p vacant) (h.slots i) (λ t a e on r.
        let off : of_ue t.ue (seat cs p) ≡ false =
        ⊎_elim (λ mine. absurd (both_ways (moves (seat cs p).state) still (r.moving p mine))) (λ other. other) (cases_Bool (of_ue t.ue (seat cs p))) in
        running_like t.ue a cs (set cs p vacant) r
        (λ j. ⊎_elim
        (λ here. ap (of_ue t.ue) here.1 ∙ sym (ap (λ z. of_ue t.ue (seat cs z)) here.0 ∙ off))
        (λ there. ap (of_ue t.ue) there.1)
        (seat_set cs p j vacant wide))
        (λ j f. ⊎_elim
        (λ here. absurd (both_ways (of_ue t.ue (seat cs j)) (ap (λ z. of_ue t.ue (seat cs z)) here.0 ∙ off) f))
        (λ there. ap (λ c. c.state) there.1)
        (seat_set cs p j vacant wide)));
    one_each = h.one_each;
    count = h.count;
    wide = h.wide;
  }

  -- a loss at a place that does not move loses nothing that runs
  still_slot : (p : ℕ) → moves (seat cs p).state ≡ false → (oa : Option Account) (ot : Option TicketRecord) → Slot oa ot cs → Slot (with_loss p oa) ot cs
  still_slot p still None None s = tt
  still_slot p still None (Some t) s = s
  still_slot p still (Some a) None s = s
  still_slot p still (Some a) (Some t) s = at (among p a.connections) refl t.running refl
    where
      at : (c : Bool) → among p a.connections ≡ c → (g : Bool) → t.running ≡ g →
          Slot (Some (cond c (record { connections = a.connections; commands = a.commands; lost = true }) a)) (Some t) cs
      at true e true on =
          let r = s.1 on in
          absurd (both_ways (moves (seat cs p).state) still (r.moving p (sym (r.theirs p) ∙ e)))
      at true e false on = (sym (ap not on), λ f. absurd (both_ways t.running on f))
      at false e g on = s

  pub ticks_still : (p : ℕ) → moves (seat cs p).state ≡ false → Ticks (loss_at p b) cs ts
  ticks_still p still = record { slots = λ i. still_slot p still (b.out i) (get_or ts i None) (h.slots i); one_each = h.one_each; count = h.count; wide = h.wide }

  -- a preparing connection has its command
  command_slot : (p : ℕ) → p < length cs → preparing (seat cs p).state ≡ true → (oa : Option Account) (ot : Option TicketRecord) → Slot oa ot cs →
      Slot (with_command p oa) ot (set cs p (moved_to Prepared (seat cs p)))
  command_slot p wide on None None s = tt
  command_slot p wide on None (Some t) s = s
  command_slot p wide on (Some a) None s = s
  command_slot p wide on (Some a) (Some t) s = at (among p a.connections) refl
    where
      same : (j : ℕ) → of_ue t.ue (seat (set cs p (moved_to Prepared (seat cs p))) j) ≡ of_ue t.ue (seat cs j)
      same j =
          ⊎_elim
          (λ here. ap (of_ue t.ue) here.1 ∙ sym (ap (λ z. of_ue t.ue (seat cs z)) here.0 ∙ there_of t.ue (seat cs p) (preparing_moves (seat cs p).state on).1))
          (λ there. ap (of_ue t.ue) there.1)
          (seat_set cs p j (moved_to Prepared (seat cs p)) wide)

      moved : Running t.ue a cs → (j : ℕ) → of_ue t.ue (seat (set cs p (moved_to Prepared (seat cs p))) j) ≡ true → moves (seat (set cs p (moved_to Prepared (seat cs p))) j).state ≡ true
      moved r j e =
          ⊎_elim
          (λ here. ap (λ c. moves c.state) here.1)
          (λ there. ap (λ c. moves c.state) there.1 ∙ r.moving j (sym (ap (of_ue t.ue) there.1) ∙ e))
          (seat_set cs p j (moved_to Prepared (seat cs p)) wide)

      -- it runs on as an account says that has the same connections
      runs_on : (a' : Account) → ((j : ℕ) → among j a'.connections ≡ among j a.connections) → Running t.ue a cs →
          ((j : ℕ) → of_ue t.ue (seat (set cs p (moved_to Prepared (seat cs p))) j) ≡ true → among j a'.commands ≡ prepared (seat (set cs p (moved_to Prepared (seat cs p))) j).state) →
          Running t.ue a' (set cs p (moved_to Prepared (seat cs p)))
      runs_on a' like r told = record {
        theirs = λ j. like j ∙ r.theirs j ∙ sym (same j);
        some = (r.some.0, same r.some.0 ∙ r.some.1);
        moving = moved r;
        told = told;
      }

      at : (c : Bool) → among p a.connections ≡ c →
          Slot (Some (cond c (record { connections = a.connections; commands = p ∷ a.commands; lost = a.lost }) a)) (Some t) (set cs p (moved_to Prepared (seat cs p)))
      at true e = (
        s.0,
        λ f.
            let r = s.1 f in
            runs_on (record { connections = a.connections; commands = p ∷ a.commands; lost = a.lost }) (λ j. refl) r (λ j g.
            ⊎_elim
            (λ here. let q : eqb j p ≡ true = eq-eqb j p here.0 in ap (λ z. z || among j a.commands) q ∙ sym (ap (λ c. prepared c.state) here.1))
            (λ there. ap (λ z. z || among j a.commands) (ne_eqb j p there.0) ∙ r.told j (sym (same j) ∙ g) ∙ sym (ap (λ c. prepared c.state) there.1))
            (seat_set cs p j (moved_to Prepared (seat cs p)) wide)),
      )
      at false e = (
        s.0,
        λ f.
            let r = s.1 f in
            runs_on a (λ j. refl) r (λ j g.
            ⊎_elim
            (λ here. absurd (both_ways (of_ue t.ue (seat cs j)) (ap (λ z. of_ue t.ue (seat cs z)) here.0 ∙ sym (r.theirs p) ∙ e) (sym (same j) ∙ g)))
            (λ there. r.told j (sym (same j) ∙ g) ∙ sym (ap (λ c. prepared c.state) there.1))
            (seat_set cs p j (moved_to Prepared (seat cs p)) wide)),
      )

  pub ticks_command : (p : ℕ) → p < length cs → preparing (seat cs p).state ≡ true → Ticks (command_at p b) (set cs p (moved_to Prepared (seat cs p))) ts
  ticks_command p wide on = record { slots = λ i. command_slot p wide on (b.out i) (get_or ts i None) (h.slots i); one_each = h.one_each; count = h.count; wide = h.wide }

  -- the relocation at a place is lost: its UE's ticket stops
  loss_slot : (p : ℕ) → closed (seat cs p).state ≡ false → (oa : Option Account) (ot : Option TicketRecord) → Slot oa ot cs →
      Slot (with_loss p oa) (stopped (seat cs p).ue ot) (changed (seat cs p).ue reopened cs)
  loss_slot p there None None s = tt
  loss_slot p there None (Some t) s = s
  loss_slot p there (Some a) None s = s
  loss_slot p there (Some a) (Some t) s = at (among p a.connections) (eqb t.ue (seat cs p).ue) t.running refl refl refl
    where
      at : (c d g : Bool) → among p a.connections ≡ c → eqb t.ue (seat cs p).ue ≡ d → t.running ≡ g →
          Slot (Some (cond c (record { connections = a.connections; commands = a.commands; lost = true }) a)) (Some (cond d (record { ue = t.ue; running = false }) t)) (changed (seat cs p).ue reopened cs)
      at true true g e f on = (refl, λ z. absurd (true≢false (sym z)))
      at true false true e f on =
          let r = s.1 on in
          let q : eqb (seat cs p).ue t.ue ≡ true = sym (there_of t.ue (seat cs p) there) ∙ sym (r.theirs p) ∙ e in
          absurd (both_ways (eqb t.ue (seat cs p).ue) f (eq-eqb t.ue (seat cs p).ue (sym (eqb-true (seat cs p).ue t.ue q))))
      at true false false e f on = (sym (ap not on), λ z. absurd (both_ways t.running on z))
      at false true true e f on =
          let r = s.1 on in
          let q : of_ue t.ue (seat cs p) ≡ true = there_of t.ue (seat cs p) there ∙ eq-eqb (seat cs p).ue t.ue (sym (eqb-true t.ue (seat cs p).ue f)) in
          absurd (both_ways (among p a.connections) e (r.theirs p ∙ q))
      at false true false e f on = (s.0 ∙ ap not on, λ z. absurd (true≢false (sym z)))
      at false false g e f on = (s.0, λ z. running_other t.ue (seat cs p).ue reopened a cs (eqb-false t.ue (seat cs p).ue f) (s.1 z))

  -- the relocation at a place that is not closed is lost
  pub ticks_loss : (p : ℕ) → closed (seat cs p).state ≡ false → Ticks (loss_at p b) (changed (seat cs p).ue reopened cs) (map (stopped (seat cs p).ue) ts)
  ticks_loss p there =
      let u = (seat cs p).ue in
      record {
        slots = λ i. subst (λ o. Slot (with_loss p (b.out i)) o (changed u reopened cs)) (sym (get_or-map (stopped u) ts i None)) (loss_slot p there (b.out i) (get_or ts i None) (h.slots i));
        one_each = one_stopped u ts h.one_each;
        count = h.count ∙ ap (λ n. b.given_back + n) (sym (out_stopped u ts));
        wide = length-map ts (stopped u) ∙ h.wide;
      }
