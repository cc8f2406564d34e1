-- Victims are other RABs than the request's, and so are the reports of their going.
use Rattle.std.proofs.Common.{◌≡◌, Bool, true, false, cond, List, [], ◌∷◌, ◌++◌, sym, refl, ap, subst, ⊎_elim}
use Rattle.rules.specs.Radio.{Radio}
use Rattle.rules.specs.State.{State, silent, tell, at_queue, each}
use Rattle.rules.specs.Tables.{is_some, waits_as, without_request}
use Rattle.rules.specs.Actions.{report}
use Rattle.rules.specs.Preemption.{candidates}
use Rattle.rules.specs.Request.{pre_empt}
use Rattle.rules.specs.declared.bearer.Bearer.{Bearer}
use Rattle.rules.specs.declared.bearer.Request.{Request}
use Rattle.rules.specs.declared.report.Report.{Report}
use Rattle.rules.specs.declared.report.ReportKind.TheVariants as kind
use Rattle.rules.specs.declared.report.Cause.TheVariants as cause
use Rattle.laws.specs.Lists.{Among}
use Rattle.laws.specs.Victims.{RightlyChosen}
use Rattle.laws.specs.Items.{going, Go}
use Rattle.laws.proofs.Standing.{among_left}
use Rattle.laws.proofs.Candidates.{only_those}

module _ {m : Radio} where
  -- victims are among the candidates
  among_candidates : (q : Request) (x : State m) (vs : List Bearer) (v : Bearer) → RightlyChosen q x vs → Among v vs → Among v (candidates q x)
  among_candidates q x vs v c a =
      ⊎_elim
      (λ none. absurd (subst (Among v) none.1 a))
      (λ some. let f = some.2.front in subst (Among v) (sym f.1) (among_left v vs f.0 a))
      c

  -- so they are others
  pub victims_others : (q : Request) (x : State m) (vs : List Bearer) → RightlyChosen q x vs → (v : Bearer) → Among v vs → v.place ≡ q.place → v.rab ≡ q.rab → ⊥
  victims_others q x vs c v a = (only_those q x v (among_candidates q x vs v c a)).other

  failed_when : (t : Bool) (o : Report) (x y : State m) → (cond t (tell o y) (silent x)).reports ≡ cond t (o ∷ []) []
  failed_when true o x y = refl
  failed_when false o x y = refl

  -- whether a modification waited on a victim
  abbrev waited_on : Bearer → State m → Bool
  waited_on b x = is_some (waits_as b.place b.rab x.queue)

  goes : (b : Bearer) (x : State m) → (pre_empt b x).reports ≡ going (waited_on b x) b
  goes b x =
      ap (λ rs. rs ++ report kind.ReleaseRequested b.place b.rab cause.RabPreempted ∷ [])
      (failed_when (waited_on b x) (report kind.Failed b.place b.rab cause.RabPreempted) x (at_queue x (without_request b.place b.rab x.queue)))

  -- victims go one after the other
  pub all_go : (vs : List Bearer) (x : State m) → Go vs (each pre_empt vs x).reports
  all_go [] x = refl
  all_go (v ∷ vs) x =
      let rest = (each pre_empt vs (pre_empt v x).state).reports in
      (waited_on v x, rest, ap (λ rs. rs ++ rest) (goes v x), all_go vs (pre_empt v x).state)
