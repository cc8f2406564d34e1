-- The tickets after one is handed out or given back.
use Rattle.std.proofs.Common.{◌≡◌, ℕ, zero, suc, ◌+◌, ◌<◌, true, false, cond, not, eqb, List, [], ◌∷◌, length, get_or, set, Some, None, filter, Option, sym, refl, ap, ◌∙◌, subst, ⊎_elim, arith, length-set, get_or-set_other, get_or-set_same}
use Rattle.std.proofs.lemmas.Bool.{both_ways, cases_Bool, cases_eq, and_parts, or_parts, eq-eqb, ne_eqb}
use Rattle.rules.specs.Tables.{is_some}
use Rattle.rules.specs.Message.{among}
use Rattle.rules.specs.Connections.{closed, prepared, of_ue, changed, any_connection, places_from, moved_to}
use Rattle.rules.specs.Refusals.{any_ticket}
use Rattle.rules.specs.Relocation.{ticket_of}
use Rattle.rules.specs.declared.connection.Connection.{Connection}
use Rattle.rules.specs.declared.connection.ConnectionState.TheVariants.{Preparing}
use Rattle.rules.specs.declared.connection.TicketId.{TicketId}
use Rattle.rules.specs.declared.connection.TicketRecord.{TicketRecord}
use Rattle.runs.specs.Ledger.{write}
use Rattle.runs.specs.Tickets.{Account, Tickets, take_back}
use Rattle.runs.proofs.Conns.{seat, seat_changed, some_seat, among_places}
use Rattle.runs.proofs.Ticks.{moves, Running, Slot, OneEach, Ticks, slot_like}
use Rattle.runs.proofs.Moves.{running_other}

-- one more or one fewer out
out_more : (ts : List (Option TicketRecord)) (i : ℕ) (t : TicketRecord) → i < length ts → get_or ts i None ≡ None → length (filter is_some (set ts i (Some t))) ≡ length (filter is_some ts) + 1
out_more [] i t l e = absurd (omega arith)
out_more (None ∷ ts) zero t l e = omega arith
out_more (Some s ∷ ts) zero t l e = let z : ◌≡◌ {A = ℕ} 0 1 = cc in absurd (omega arith)
out_more (None ∷ ts) (suc i) t l e = out_more ts i t (omega arith) e
out_more (Some s ∷ ts) (suc i) t l e = let h = out_more ts i t (omega arith) e in omega arith

out_fewer : (ts : List (Option TicketRecord)) (i : ℕ) (t : TicketRecord) → get_or ts i None ≡ Some t → (i < length ts) × (length (filter is_some ts) ≡ length (filter is_some (set ts i None)) + 1)
out_fewer [] i t e = let z : ◌≡◌ {A = ℕ} 0 1 = cc in absurd (omega arith)
out_fewer (None ∷ ts) zero t e = let z : ◌≡◌ {A = ℕ} 0 1 = cc in absurd (omega arith)
out_fewer (Some s ∷ ts) zero t e = (omega arith, omega arith)
out_fewer (None ∷ ts) (suc i) t e = let h = out_fewer ts i t e in let l : i < length ts = h.0 in (omega arith, h.1)
out_fewer (Some s ∷ ts) (suc i) t e = let h = out_fewer ts i t e in let l : i < length ts = h.0 in let n : length (filter is_some ts) ≡ length (filter is_some (set ts i None)) + 1 = h.1 in (omega arith, omega arith)

-- no ticket is a UE's
none_of : (u : ℕ) (ts : List (Option TicketRecord)) → any_ticket u ts ≡ false → (i : ℕ) (t : TicketRecord) → get_or ts i None ≡ Some t → t.ue ≡ u → ⊥
none_of u [] e i t f q = let z : ◌≡◌ {A = ℕ} 0 1 = cc in omega arith
none_of u (o ∷ ts) e zero t f q =
    let h : ticket_of u o ≡ false = (or_parts (ticket_of u o) (any_ticket u ts) e).0 in
    both_ways (eqb t.ue u) (sym (ap (ticket_of u) f) ∙ h) (eq-eqb t.ue u q)
none_of u (o ∷ ts) e (suc i) t f q = none_of u ts (or_parts (ticket_of u o) (any_ticket u ts) e).1 i t f q

module _ (b : Tickets) (cs : List Connection) (ts : List (Option TicketRecord)) where
  -- a ticket is handed out to a UE that has none and has connections
  pub ticks_start : Ticks b cs ts → (i u : ℕ) → i < 16 → get_or ts i None ≡ None → any_ticket u ts ≡ false → any_connection (of_ue u) cs ≡ true → (ps : List ℕ) → ps ≡ places_from (of_ue u) 0 cs →
      Ticks (record { out = write b.out i (Some (record { connections = ps; commands = []; lost = false })); handed_out = b.handed_out + 1; given_back = b.given_back })
      (changed u (λ _. Preparing) cs) (set ts i (Some (record { ue = u; running = true })))
  ticks_start h i u low free none some ps e =
      let cs' = changed u (λ _. Preparing) cs in
      let new : TicketRecord = record { ue = u; running = true } in
      let acc : Account = record { connections = ps; commands = []; lost = false } in
      let wide = h.wide in
      let inside : i < length ts = omega arith in
      let at_i : get_or (set ts i (Some new)) i None ≡ Some new = get_or-set_same ts i (Some new) None inside in
      let prep : (k : ℕ) → of_ue u (seat cs k) ≡ true → seat cs' k ≡ moved_to Preparing (seat cs k) =
      λ k mine. seat_changed u (λ _. Preparing) cs k ∙ ap (λ t. cond t (moved_to Preparing (seat cs k)) (seat cs k)) mine in
      let same : (k : ℕ) → of_ue u (seat cs' k) ≡ of_ue u (seat cs k) = λ k.
      ⊎_elim
      (λ mine. ap (of_ue u) (prep k mine) ∙ (and_parts (not (closed (seat cs k).state)) (eqb (seat cs k).ue u) mine).1 ∙ sym mine)
      (λ other. ap (of_ue u) (seat_changed u (λ _. Preparing) cs k ∙ ap (λ t. cond t (moved_to Preparing (seat cs k)) (seat cs k)) other))
      (cases_Bool (of_ue u (seat cs k))) in
      let run : Running u acc cs' = record {
        theirs = λ k. ap (among k) e ∙ among_places (of_ue u) refl 0 k k cs (omega arith) ∙ sym (same k);
        some = let s = some_seat (of_ue u) cs some in (s.0, same s.0 ∙ s.1);
        moving = λ k f. ap (λ c. moves c.state) (prep k (sym (same k) ∙ f));
        told = λ k f. sym (ap (λ c. prepared c.state) (prep k (sym (same k) ∙ f)));
      } in
      record {
        slots = λ j.
            ⊎_elim
            (λ here.
            subst (λ o. Slot o (get_or (set ts i (Some new)) j None) cs') (sym (ap (λ t. cond t (Some acc) (b.out j)) (eq-eqb j i here)))
            (subst (λ o. Slot (Some acc) o cs') (sym (ap (λ z. get_or (set ts i (Some new)) z None) here ∙ at_i)) (refl, λ _. run)))
            (λ there.
            subst (λ o. Slot o (get_or (set ts i (Some new)) j None) cs') (sym (ap (λ t. cond t (Some acc) (b.out j)) (ne_eqb j i there)))
            (subst (λ o. Slot (b.out j) o cs') (sym (get_or-set_other ts i j (Some new) None there))
            (slot_like (b.out j) (get_or ts j None) cs cs' (h.slots j) (λ t a f on r. running_other t.ue u (λ _. Preparing) a cs (λ q. none_of u ts none j t f q) r))))
            (cases_eq j i);
        one_each = λ j k s t f g q.
            ⊎_elim
            (λ here. ⊎_elim
            (λ here'. here ∙ sym here')
            (λ there'.
            let new-s : Some new ≡ Some s = sym (ap (λ z. get_or (set ts i (Some new)) z None) here ∙ at_i) ∙ f in
            let n : new ≡ s = cc in
            absurd (none_of u ts none k t (sym (get_or-set_other ts i k (Some new) None there') ∙ g) (sym q ∙ sym (ap (λ z. z.ue) n))))
            (cases_eq k i))
            (λ there. ⊎_elim
            (λ here'.
            let new-t : Some new ≡ Some t = sym (ap (λ z. get_or (set ts i (Some new)) z None) here' ∙ at_i) ∙ g in
            let n : new ≡ t = cc in
            absurd (none_of u ts none j s (sym (get_or-set_other ts i j (Some new) None there) ∙ f) (q ∙ sym (ap (λ z. z.ue) n))))
            (λ there'. h.one_each j k s t (sym (get_or-set_other ts i j (Some new) None there) ∙ f) (sym (get_or-set_other ts i k (Some new) None there') ∙ g) q)
            (cases_eq k i))
            (cases_eq j i);
        count = let c = h.count in let o = out_more ts i new inside free in omega arith;
        wide = length-set ts i (Some new) ∙ wide;
      }

  -- a ticket is given back, the others being in order
  pub ticks_back : (n : TicketId) (t : TicketRecord) → get_or ts n.number None ≡ Some t → ((j : ℕ) → (j ≡ n.number → ⊥) → Slot (b.out j) (get_or ts j None) cs) → OneEach ts →
      b.handed_out ≡ b.given_back + length (filter is_some ts) → length ts ≡ 16 → Ticks (take_back n b) cs (set ts n.number None)
  ticks_back n t e slots one count wide =
      let i = n.number in
      let o = out_fewer ts i t e in
      let inside : i < length ts = o.0 in
      let fewer : length (filter is_some ts) ≡ length (filter is_some (set ts i None)) + 1 = o.1 in
      let gone : get_or (set ts i None) i None ≡ None = get_or-set_same ts i None None inside in
      let other : (j : ℕ) (s : TicketRecord) → get_or (set ts i None) j None ≡ Some s → get_or ts j None ≡ Some s = λ j s f.
      ⊎_elim
      (λ here. let z : get_or (set ts i None) j None ≡ None = ap (λ k. get_or (set ts i None) k None) here ∙ gone in let y : ◌≡◌ {A = ℕ} 0 1 = cc in absurd (omega arith))
      (λ there. sym (get_or-set_other ts i j None None there) ∙ f)
      (cases_eq j i) in
      record {
        slots = λ j.
            ⊎_elim
            (λ here.
            subst (λ o. Slot o (get_or (set ts i None) j None) cs) (sym (ap (λ t. cond t None (b.out j)) (eq-eqb j i here)))
            (subst (λ o. Slot None o cs) (sym (ap (λ z. get_or (set ts i None) z None) here ∙ gone)) tt))
            (λ there.
            subst (λ o. Slot o (get_or (set ts i None) j None) cs) (sym (ap (λ t. cond t None (b.out j)) (ne_eqb j i there)))
            (subst (λ o. Slot (b.out j) o cs) (sym (get_or-set_other ts i j None None there)) (slots j there)))
            (cases_eq j i);
        one_each = λ j k s t f g q. one j k s t (other j s f) (other k t g) q;
        count = omega arith;
        wide = length-set ts i None ∙ wide;
      }
