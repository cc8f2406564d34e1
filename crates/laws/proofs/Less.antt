-- A modification to the size in use or less is done at its turn.
use Rattle.laws.proofs.Failing.{failed_pool, failed_bearers}
use Rattle.std.proofs.Common.{◌≡◌, ℕ, ◌<◌, Bool, true, false, cond, ◌&&◌, ◌||◌, eqb, ltb, [], ◌∷◌, ◌++◌, Some, None, sym, refl, ap, ◌∙◌, subst, ⊎_elim, arith}
use Rattle.std.proofs.lemmas.Bool.Decides.{nat_tests}
use Rattle.std.proofs.lemmas.Bool.{and_cases, or_parts}
use Rattle.rules.specs.Grants.{nothing, added}
use Rattle.rules.specs.Radio.{Radio, Lawful}
use Rattle.rules.specs.State.{State}
use Rattle.rules.specs.Tables.{set_up_as, without_request}
use Rattle.rules.specs.Actions.{report, done_report, keep_size}
use Rattle.rules.specs.Checks.{ill_combined, ill_valued, table_full, fault_of}
use Rattle.rules.specs.Preemption.{own, own_grant, admitted, candidates, shortest_front}
use Rattle.rules.specs.Request.{request_of, supersede, done, done_or_not, ask, unless_fault, assign_anew, assign}
use Rattle.rules.specs.declared.bearer.Bearer.{Bearer}
use Rattle.rules.specs.declared.bearer.Request.{Request}
use Rattle.rules.specs.declared.item.Assignment.{Assignment}
use Rattle.rules.specs.declared.report.ReportKind.TheVariants as kind
use Rattle.rules.specs.declared.report.Cause.{Cause}
use Rattle.rules.specs.declared.report.Cause.TheVariants as cause
use Rattle.laws.specs.Done.{DoneAlone}
use Rattle.laws.specs.Items.{superseded, waiting}
use Rattle.laws.specs.Trade.{AsksNoMore, LessIsAlwaysDone}
use Rattle.laws.proofs.Anew.{alone}
use Rattle.laws.proofs.Outcomes.{is_superseded}

-- no cause, so no fault of the second kind
second_clear : (t u w : Bool) (a b c : Cause) → cond t (Some a) (cond u (Some b) (cond w (Some c) None)) ≡ None → u ≡ false
second_clear true u w a b c e = let z : ◌≡◌ {A = ℕ} 0 1 = cc in absurd (omega arith)
second_clear false true w a b c e = let z : ◌≡◌ {A = ℕ} 0 1 = cc in absurd (omega arith)
second_clear false false w a b c e = refl

-- good values have a size
sized : (a : Assignment) → a.flags.parameters ≡ true → ill_valued a ≡ false → 0 < a.size
sized a f e =
    let bad-size = eqb a.size 0 || ltb 64 a.size in
    let bad-level = a.flags.priority && (eqb a.priority.level 0 || ltb 15 a.priority.level) in
    ⊎_elim
    (λ none. let z : ◌≡◌ {A = ℕ} 0 1 = cc in absurd (omega arith))
    (λ good. let p = or_parts bad-size bad-level good in let q = or_parts (eqb a.size 0) (ltb 64 a.size) p.0 in let n : eqb a.size 0 ≡ false = q.0 in grind (arith, nat_tests))
    (and_cases a.flags.parameters (bad-size || bad-level) e)

module _ {m : Radio} (lawful : (y : m.State) → m.sound y → Lawful m y) (p : ℕ) (a : Assignment) (b : Bearer) (x : State m) (h : AsksNoMore p a b x) where
  abbrev asked : Request
  asked = request_of p a (Some b)

  fits : admitted x asked ≡ true
  fits =
      let s = sized a h.sized (second_clear (ill_combined a (Some b)) (ill_valued a) (table_full (Some b) x) cause.InvalidCombination cause.InvalidValue cause.TableFull h.faultless) in
      let l = h.less in
      let e = h.held in
      ap (λ o. m.admits x.pool (own_grant o) a.size) h.set_up ∙
      (lawful x.pool h.sound).trade (added nothing b.grant) b.grant a.size (grind (arith, nat_tests)) s (omega arith)

  -- so it is done with no victims
  is_done : assign_anew p a x ≡ done asked [] x
  unfolding ask
  is_done =
      ap (λ o. unless_fault (fault_of a o x) p a o x) h.set_up ∙
      ap (λ f. unless_fault f p a (Some b) x) h.faultless ∙
      ap (λ t. cond t (ask asked x) (keep_size b x)) h.sized ∙
      ap (λ t. done_or_not asked (cond t (Some []) (cond asked.priority.triggers (shortest_front x (own_grant (own asked x)) asked.size (candidates asked x)) None)) x) fits

  done_alone : DoneAlone asked x (assign_anew p a x)
  done_alone = subst (DoneAlone asked x) (sym is_done) (alone asked x)

module _ {m : Radio} where
  -- what is superseded makes no difference
  still : (p : ℕ) (a : Assignment) (b : Bearer) (x : State m) → AsksNoMore p a b x → AsksNoMore p a b (supersede p a.rab x).state
  still p a b x h =
      let t = waiting p a.rab x in
      let o = report kind.Failed p a.rab cause.RequestSuperseded in
      let qs = without_request p a.rab x.queue in
      let pool = failed_pool t o x qs in
      record {
        sound = subst m.sound (sym pool) h.sound;
        set_up = ap (set_up_as p a.rab) (failed_bearers t o x qs) ∙ h.set_up;
        held = ap (λ y. m.holds y b.grant) pool ∙ h.held;
        sized = h.sized;
        faultless = h.faultless;
        less = h.less;
      }

module _ {m : Radio} (lawful : (y : m.State) → m.sound y → Lawful m y) (p : ℕ) (a : Assignment) (b : Bearer) (x : State m) (h : AsksNoMore p a b x) where
  whole : (assign p a x).reports ≡ superseded (waiting p a.rab x) p a.rab ++ done_report p a.rab a.size ∷ []
  unfolding assign
  whole =
      let y = (supersede p a.rab x).state in
      ap (λ rs. rs ++ (assign_anew p a y).reports) (is_superseded p a.rab x) ∙
      ap (λ rs. superseded (waiting p a.rab x) p a.rab ++ rs) (done_alone lawful p a b y (still p a b x h)).report

pub less_done : (m : Radio) → ((y : m.State) → m.sound y → Lawful m y) → LessIsAlwaysDone m
less_done m lawful = record { turn = λ p a b x h. done_alone lawful p a b x h; item = λ p a b x h. whole lawful p a b x h }
