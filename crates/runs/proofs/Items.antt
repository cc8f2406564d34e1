-- An item's turn keeps book and state together: refused, kept, queued, done or released.
use Rattle.std.proofs.Common.{◌≡◌, ℕ, ◌<◌, ◌≤◌, Bool, true, false, cond, not, eqb, leb, List, [], Some, None, Option, sym, refl, ap, ◌∙◌, subst, ⊎_elim, arith}
use Rattle.std.proofs.lemmas.Bool.Decides.{nat_tests}
use Rattle.std.proofs.lemmas.Bool.{cases_Bool, or_right, leb-true, both_ways}
use Rattle.rules.specs.Radio.{Radio}
use Rattle.rules.specs.State.{State, each}
use Rattle.rules.specs.Tables.{is_some, waits_as}
use Rattle.rules.specs.Checks.{known}
use Rattle.rules.specs.Numbers.{cause_number}
use Rattle.rules.specs.Connections.{opened, state_at}
use Rattle.rules.specs.Preemption.{own, own_grant, admitted, victims, shortest_front, candidates}
use Rattle.rules.specs.Actions.{refuse, enqueue, establish}
use Rattle.rules.specs.Request.{done, ask, done_or_not, pre_empt, free_own}
use Rattle.rules.specs.declared.bearer.Bearer.{Bearer}
use Rattle.rules.specs.declared.bearer.Request.{Request}
use Rattle.rules.specs.declared.item.Assignment.{Assignment}
use Rattle.rules.specs.declared.item.ReadItem.{ReadItem}
use Rattle.rules.specs.declared.report.Cause.{Cause}
use Rattle.rules.specs.declared.report.ReportKind.TheVariants as kind
use Rattle.rules.specs.declared.report.Cause.TheVariants as cause
use Rattle.bearers.proofs.Waiting.{key_cases, waits_append}
use Rattle.bearers.proofs.Known.{new_append}
use Rattle.runs.specs.Ledger.{Ledger, take_reports, settle, deny, wait, asked_at, with_parameters, size_asked, trades_down}
use Rattle.runs.specs.Law.{Laws}
use Rattle.runs.proofs.Bearers.{well_once}
use Rattle.runs.proofs.Agrees.{Agrees, one_more, number_and_size}
use Rattle.runs.proofs.Turns.{kept_settled, kept_queued}
use Rattle.runs.proofs.Room.{room_made}
use Rattle.runs.proofs.Trade.{trade_admitted}
use Rattle.runs.proofs.Fed.{agrees_like, Stands, fed_then}
use Rattle.runs.proofs.Hole.{hole_victims}
use Rattle.runs.proofs.Filled.{filled}
use Rattle.runs.proofs.Made.{made}
use Rattle.runs.proofs.Chosen.{victims_stand, victims_room}

module _ {m : Radio} (laws : Laws m) (fp : ℕ) (is : List ReadItem) (todo : ℕ → ℕ → ℕ) where
  -- a refusal that is not for want of room
  pub kept_refuse : (p r : ℕ) (c : Cause) (l : Ledger) (x : State m) → eqb (cause_number c) 6 ≡ false → Stands (one_more todo p r) l x → waits_as p r x.queue ≡ None →
      Stands todo (take_reports fp is (refuse kind.Failed p r c x).reports l) x
  kept_refuse p r c l x other s none = record {
    agrees =
        agrees_like todo (settle p r l) (take_reports fp is (refuse kind.Failed p r c x).reports l) x (kept_settled todo p r l x s.agrees none) record {
          requests = λ _ _. refl;
          outcomes = λ _ _. refl;
          waiting = λ _ _. refl;
          bearing = λ _ _. refl;
          used = λ _. refl;
          denied = grind (arith, nat_tests);
        };
    few = s.few;
    idle = s.idle;
  }

  -- a request is done at its item's turn
  pub kept_done : (q : Request) (vs : List Bearer) (l : Ledger) (x : State m) → Stands (one_more todo q.place q.rab) l x → waits_as q.place q.rab x.queue ≡ None →
      (own q x ≡ None → known x < 64) → with_parameters (asked_at fp q.rab q.place is) ≡ true → victims q x ≡ Some vs →
      Stands todo (take_reports fp is (done q vs x).reports l) (done q vs x).state
  unfolding done
  kept_done q vs l x s none new flag e =
      let h = made laws todo q.place q.rab l x s.agrees none (own q x) refl s.few s.idle new in
      let o = each pre_empt vs (free_own (own q x) x) in
      fed_then fp is (Stands todo) l o (establish q)
      (filled laws fp is todo q (take_reports fp is o.reports l) o.state (hole_victims laws fp is todo q.place q.rab vs l (free_own (own q x) x) h (victims_stand q x (well_once x.bearers s.agrees.well) vs e))
      (room_made laws x (own q x) q.size vs s.agrees.sound (victims_room laws q x vs e))
      (or_right (is_some ((take_reports fp is o.reports l).waiting q.place q.rab)) (with_parameters (asked_at fp q.rab q.place is)) flag))

  -- a modification without room asks for more than is in use
  undenied : (q : Request) (a : Assignment) (l : Ledger) (x : State m) → Agrees (one_more todo q.place q.rab) l x → asked_at fp q.rab q.place is ≡ Some a → a.size ≡ q.size →
      0 < q.size → admitted x q ≡ false → (o : Option Bearer) → own q x ≡ o → trades_down (number_and_size o) (Some a) ≡ 0
  undenied q a l x g asked size some not_yet None e = refl
  undenied q a l x g asked size some not_yet (Some b) e =
      ⊎_elim
      (λ less. absurd (both_ways (admitted x q) not_yet (trade_admitted laws (one_more todo q.place q.rab) l x g q b e some (omega (arith, leb-true a.size b.size less)))))
      (λ more. ap (λ t. cond {A = ℕ} t 1 0) more)
      (cases_Bool (leb a.size b.size))

  module _
      (q : Request) (a : Assignment) (l : Ledger) (x : State m) (s : Stands (one_more todo q.place q.rab) l x) (none : waits_as q.place q.rab x.queue ≡ None)
      (new : own q x ≡ None → known x < 64) (asked : asked_at fp q.rab q.place is ≡ Some a) (size : a.size ≡ q.size) (some : 0 < q.size)
    where
      no_denial : admitted x q ≡ false → trades_down (l.bearing q.place q.rab) (asked_at fp q.rab q.place is) ≡ 0
      no_denial e =
          ap (λ o. trades_down o (asked_at fp q.rab q.place is)) (s.agrees.bearing q.place q.rab) ∙ ap (trades_down (number_and_size (own q x))) asked ∙
          undenied q a l x s.agrees asked size some e (own q x) refl

      queued_few : (o : Option Bearer) → own q x ≡ o → known (enqueue q x).state ≤ 64
      queued_few None e = let n = new e in let f = new_append x.bearers q x.queue in let g : ◌≡◌ {A = ℕ} (cond (not (is_some (own q x))) 1 0) 1 = ap (λ o. cond {A = ℕ} (not (is_some o)) 1 0) e in omega arith
      queued_few (Some b) e =
          let n = s.few in let f = new_append x.bearers q x.queue in let g : ◌≡◌ {A = ℕ} (cond (not (is_some (own q x))) 1 0) 0 = ap (λ o. cond {A = ℕ} (not (is_some o)) 1 0) e in omega arith

      -- without room, on an open connection
      kept_wait_or_fail : (w : Bool) → admitted x q ≡ false → opened (state_at q.place x) ≡ true →
          Stands todo
          (take_reports fp is (cond w (enqueue q x) (refuse kind.Failed q.place q.rab cause.MaximumBitRateNotAvailable x)).reports l)
          (cond w (enqueue q x) (refuse kind.Failed q.place q.rab cause.MaximumBitRateNotAvailable x)).state
      kept_wait_or_fail true e shows = record {
        agrees =
            subst (λ n. Agrees todo (wait q.place q.rab (size_asked (asked_at fp q.rab q.place is)) (deny n l)) (enqueue q x).state) (sym (no_denial e))
            (subst (λ n. Agrees todo (wait q.place q.rab n (deny 0 l)) (enqueue q x).state) (sym (ap size_asked asked ∙ size)) (kept_queued todo q l x s.agrees none));
        few = queued_few (own q x) refl;
        idle = λ k j shut.
            ⊎_elim
            (λ same. absurd (both_ways (opened (state_at k x)) shut (ap (λ z. opened (state_at z x)) same.0 ∙ shows)))
            (λ other. waits_append k j q x.queue none ∙ ap (λ t. cond t (Some q) (waits_as k j x.queue)) other ∙ s.idle k j shut)
            (key_cases q.place q.rab k j);
      }
      kept_wait_or_fail false e shows = record {
        agrees = agrees_like todo (settle q.place q.rab l) (settle q.place q.rab (deny (trades_down (l.bearing q.place q.rab) (asked_at fp q.rab q.place is)) l)) x
            (kept_settled todo q.place q.rab l x s.agrees none) record {
              requests = λ _ _. refl;
              outcomes = λ _ _. refl;
              waiting = λ _ _. refl;
              bearing = λ _ _. refl;
              used = λ _. refl;
              denied = let n = no_denial e in omega arith;
            };
        few = s.few;
        idle = s.idle;
      }

      -- where there is no way to make room, the request is not admitted at once
      refused_room : (t : Bool) (o : Option (List Bearer)) → cond t (Some []) o ≡ None → t ≡ false
      refused_room true o e = let z : ◌≡◌ {A = ℕ} 0 1 = cc in absurd (omega arith)
      refused_room false o e = refl

      ask_when : a.flags.parameters ≡ true → opened (state_at q.place x) ≡ true → (o : Option (List Bearer)) → victims q x ≡ o →
          Stands todo (take_reports fp is (done_or_not q o x).reports l) (done_or_not q o x).state
      ask_when flag shows None e =
          kept_wait_or_fail q.priority.queuing
          (refused_room (admitted x q) (cond q.priority.triggers (shortest_front x (own_grant (own q x)) q.size (candidates q x)) None) e) shows
      ask_when flag shows (Some vs) e = kept_done q vs l x s none new (ap with_parameters asked ∙ flag) e

      -- a request for a size, at its item's turn on an open connection
      pub kept_ask : a.flags.parameters ≡ true → opened (state_at q.place x) ≡ true → Stands todo (take_reports fp is (ask q x).reports l) (ask q x).state
      unfolding ask
      kept_ask flag shows = ask_when flag shows (victims q x) refl
