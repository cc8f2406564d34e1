-- A set-up or modify item on an open connection.
use Rattle.std.proofs.Common.{◌≡◌, ℕ, ◌<◌, Bool, true, false, cond, not, ◌&&◌, ◌||◌, eqb, ltb, leb, List, get_or, Some, None, Option, sym, refl, ap, ◌∙◌, subst, arith}
use Rattle.std.proofs.lemmas.Bool.Decides.{nat_tests}
use Rattle.std.proofs.lemmas.Bool.{or_parts, and_parts, not-false, eqb-false, leb-false}
use Rattle.rules.specs.Radio.{Radio}
use Rattle.rules.specs.State.{State}
use Rattle.rules.specs.Tables.{is_some, set_up_as, waits_as}
use Rattle.rules.specs.Checks.{known, fault_of, ill_combined, ill_valued, table_full, parts_missing}
use Rattle.rules.specs.Numbers.{cause_number}
use Rattle.rules.specs.Connections.{opened, state_at, vacant}
use Rattle.rules.specs.Actions.{keep_size, fail_waiting}
use Rattle.rules.specs.Request.{ask, unless_fault, assign_anew, assign, supersede, request_of}
use Rattle.rules.specs.declared.bearer.Bearer.{Bearer}
use Rattle.rules.specs.declared.item.Assignment.{Assignment}
use Rattle.rules.specs.declared.item.ReadItem.{ReadItem}
use Rattle.rules.specs.declared.report.Cause.{Cause}
use Rattle.rules.specs.declared.report.Cause.TheVariants as cause
use Rattle.bounds.proofs.Removals.{set_up_key}
use Rattle.runs.specs.Ledger.{Ledger, take_reports, settle, asked_at, with_parameters, resized, keep_number, take_number}
use Rattle.runs.specs.Law.{Laws}
use Rattle.runs.proofs.Agrees.{one_more, size_waited, number_and_size, kept_fail_waiting}
use Rattle.runs.proofs.Turns.{kept_settled}
use Rattle.runs.proofs.Few.{failed_few, failed_off, failed_idle, failed_connections}
use Rattle.runs.proofs.Fed.{Like, agrees_like, Stands, fed_then}
use Rattle.runs.proofs.Made.{same_write}
use Rattle.runs.proofs.Items.{kept_refuse, kept_ask}

-- no fault is want of room
fault_other : (s t u : Bool) (c : Cause) → cond s (Some cause.InvalidCombination) (cond t (Some cause.InvalidValue) (cond u (Some cause.TableFull) None)) ≡ Some c → eqb (cause_number c) 6 ≡ false
fault_other true t u c e = let s : cause.InvalidCombination ≡ c = cc in ap (λ z. eqb (cause_number z) 6) (sym s)
fault_other false true u c e = let s : cause.InvalidValue ≡ c = cc in ap (λ z. eqb (cause_number z) 6) (sym s)
fault_other false false true c e = let s : cause.TableFull ≡ c = cc in ap (λ z. eqb (cause_number z) 6) (sym s)
fault_other false false false c e = let z : ◌≡◌ {A = ℕ} 0 1 = cc in absurd (omega arith)

no_fault : (s t u : Bool) → cond s (Some cause.InvalidCombination) (cond t (Some cause.InvalidValue) (cond u (Some cause.TableFull) None)) ≡ None → (s ≡ false) × (t ≡ false) × (u ≡ false)
no_fault true t u e = let z : ◌≡◌ {A = ℕ} 0 1 = cc in absurd (omega arith)
no_fault false true u e = let z : ◌≡◌ {A = ℕ} 0 1 = cc in absurd (omega arith)
no_fault false false true e = let z : ◌≡◌ {A = ℕ} 0 1 = cc in absurd (omega arith)
no_fault false false false e = (refl, refl, refl)

-- a size that is looked at is not 0
size_there : (a : Assignment) → a.flags.parameters ≡ true → ill_valued a ≡ false → 0 < a.size
size_there a flag e =
    let h : ((eqb a.size 0 || ltb 64 a.size) || (a.flags.priority && (eqb a.priority.level 0 || ltb 15 a.priority.level))) ≡ false =
    sym (ap (λ t. t && ((eqb a.size 0 || ltb 64 a.size) || (a.flags.priority && (eqb a.priority.level 0 || ltb 15 a.priority.level)))) flag) ∙ e in
    let i = or_parts (eqb a.size 0 || ltb 64 a.size) (a.flags.priority && (eqb a.priority.level 0 || ltb 15 a.priority.level)) h in
    let j = or_parts (eqb a.size 0) (ltb 64 a.size) i.0 in
    let z = eqb-false a.size 0 j.0 in
    grind (arith, nat_tests)

-- a set-up with no parts missing has RAB parameters
parts_there : (a : Assignment) → ill_combined a None ≡ false → a.flags.parameters ≡ true
parts_there a e =
    let h = or_parts (parts_missing a.flags None) (a.flags.priority && not a.flags.parameters) e in
    let i = not-false (a.flags.parameters && a.flags.transport && a.flags.plane) h.0 in
    (and_parts a.flags.parameters a.flags.transport (and_parts (a.flags.parameters && a.flags.transport) a.flags.plane i).0).0

-- below 64 where a set-up is not refused
place_left : {m : Radio} (o : Option Bearer) (x : State m) → table_full o x ≡ false → o ≡ None → known x < 64
place_left o x e none =
    let f : leb 64 (known x) ≡ false = sym (ap (λ z. not (is_some z) && leb 64 (known x)) none) ∙ e in
    leb-false 64 (known x) f

module _ {m : Radio} (laws : Laws m) (fp : ℕ) (is : List ReadItem) (todo : ℕ → ℕ → ℕ) where
  -- a waiting request fails for another cause than room
  pub kept_fail : (c : Cause) (p r : ℕ) (l : Ledger) (x : State m) → eqb (cause_number c) 6 ≡ false → Stands todo l x →
      Stands todo (take_reports fp is (fail_waiting c p r x).reports l) (fail_waiting c p r x).state
  kept_fail c p r l x other s = record {
    agrees = kept_fail_waiting todo fp is c p r l x other s.agrees;
    few = let f = failed_few c p r x in let g = s.few in omega arith;
    idle = failed_idle c p r x s.agrees.apart s.idle;
  }

  -- an outcome that is only counted
  pub kept_counted : (p r : ℕ) (l l' : Ledger) (x : State m) → Stands (one_more todo p r) l x → waits_as p r x.queue ≡ None → Like (settle p r l) l' → Stands todo l' x
  kept_counted p r l l' x s none e = record {
    agrees = agrees_like todo (settle p r l) l' x (kept_settled todo p r l x s.agrees none) e;
    few = s.few;
    idle = s.idle;
  }

  -- a modification without RAB parameters
  kept_keep : (b : Bearer) (a : Assignment) (l : Ledger) (x : State m) → Stands (one_more todo b.place b.rab) l x → waits_as b.place b.rab x.queue ≡ None →
      set_up_as b.place b.rab x.bearers ≡ Some b → asked_at fp b.rab b.place is ≡ Some a → a.flags.parameters ≡ false →
      Stands todo (take_reports fp is (keep_size b x).reports l) x
  kept_keep b a l x s none stands asked flag =
      let p = b.place in
      let r = b.rab in
      let unwaited : is_some (l.waiting p r) ≡ false = ap is_some (s.agrees.waiting p r ∙ ap size_waited none) in
      let e : (is_some (l.waiting p r) || with_parameters (asked_at fp r p is)) ≡ false = ap (λ t. t || with_parameters (asked_at fp r p is)) unwaited ∙ ap with_parameters asked ∙ flag in
      let booked : l.bearing p r ≡ Some (b.grant, b.size) = s.agrees.bearing p r ∙ ap number_and_size stands in
      kept_counted p r l (take_reports fp is (keep_size b x).reports l) x s none
      (subst (λ t. Like (settle p r l) (settle p r (cond t (take_number p r b.size l) (keep_number p r b.size l)))) (sym e) record {
        requests = λ _ _. refl;
        outcomes = λ _ _. refl;
        waiting = λ _ _. refl;
        bearing = λ k j. same_write l.bearing p r k j (resized b.size (l.bearing p r)) (booked ∙ sym (ap (resized b.size) booked));
        used = λ _. refl;
        denied = refl;
      })

  module _
      (p : ℕ) (a : Assignment) (l : Ledger) (x : State m) (s : Stands (one_more todo p a.rab) l x) (none : waits_as p a.rab x.queue ≡ None)
      (asked : asked_at fp a.rab p is ≡ Some a) (shows : opened (state_at p x) ≡ true)
    where
      keep_or_ask : (b : Bearer) → set_up_as p a.rab x.bearers ≡ Some b → ill_valued a ≡ false → (t : Bool) → a.flags.parameters ≡ t →
          Stands todo (take_reports fp is (cond t (ask (request_of p a (Some b)) x) (keep_size b x)).reports l) (cond t (ask (request_of p a (Some b)) x) (keep_size b x)).state
      keep_or_ask b e valued true flag =
          kept_ask laws fp is todo (request_of p a (Some b)) a l x s none (λ n. let z : ◌≡◌ {A = ℕ} 0 1 = cc in absurd (omega arith)) asked refl (size_there a flag valued) flag shows
      keep_or_ask b e valued false flag =
          let k = set_up_key p a.rab b x.bearers e in
          let back : (P : ℕ → ℕ → Type 0) → P p a.rab → P b.place b.rab = λ P h. subst (λ v. P v b.rab) (sym k.0) (subst (λ v. P p v) (sym k.1) h) in
          kept_keep b a l x (back (λ z w. Stands (one_more todo z w) l x) s) (back (λ z w. waits_as z w x.queue ≡ None) none) (back (λ z w. set_up_as z w x.bearers ≡ Some b) e)
          (back (λ z w. asked_at fp w z is ≡ Some a) asked) flag

      unless_when : (o : Option Bearer) → set_up_as p a.rab x.bearers ≡ o → (f : Option Cause) → fault_of a o x ≡ f →
          Stands todo (take_reports fp is (unless_fault f p a o x).reports l) (unless_fault f p a o x).state
      unless_when o e (Some c) f = kept_refuse laws fp is todo p a.rab c l x (fault_other (ill_combined a o) (ill_valued a) (table_full o x) c f) s none
      unless_when None e None f =
          let n = no_fault (ill_combined a None) (ill_valued a) (table_full None x) f in
          let flag = parts_there a n.0 in
          kept_ask laws fp is todo (request_of p a None) a l x s none (λ _. place_left None x n.2 refl) asked refl (size_there a flag n.1) flag shows
      unless_when (Some b) e None f =
          let n = no_fault (ill_combined a (Some b)) (ill_valued a) (table_full (Some b) x) f in
          keep_or_ask b e n.1 a.flags.parameters refl

      kept_assign_anew : Stands todo (take_reports fp is (assign_anew p a x).reports l) (assign_anew p a x).state
      kept_assign_anew = unless_when (set_up_as p a.rab x.bearers) refl (fault_of a (set_up_as p a.rab x.bearers) x) refl

module _ {m : Radio} (laws : Laws m) (fp : ℕ) (is : List ReadItem) (todo : ℕ → ℕ → ℕ) where
  -- a set-up or modify item on an open connection
  pub kept_assign : (p : ℕ) (a : Assignment) (l : Ledger) (x : State m) → Stands (one_more todo p a.rab) l x → asked_at fp a.rab p is ≡ Some a → opened (state_at p x) ≡ true →
      Stands todo (take_reports fp is (assign p a x).reports l) (assign p a x).state
  unfolding assign
  kept_assign p a l x s asked shows =
      let o = supersede p a.rab x in
      fed_then fp is (Stands todo) l o (assign_anew p a)
      (kept_assign_anew laws fp is todo p a (take_reports fp is o.reports l) o.state (kept_fail laws fp is (one_more todo p a.rab) cause.RequestSuperseded p a.rab l x refl s)
      (failed_off cause.RequestSuperseded p a.rab x s.agrees.apart) asked
      (ap (λ cs. opened (get_or cs p vacant).state) (failed_connections cause.RequestSuperseded p a.rab x) ∙ shows))
