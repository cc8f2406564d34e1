-- What is told on a UE's connections, one place further.
use Rattle.std.proofs.Common.{◌≡◌, ℕ, suc, ◌+◌, ◌<◌, ◌≤◌, Bool, true, false, cond, not, ◌&&◌, List, [], ◌∷◌, ◌++◌, map, length, get_or, drop, None, filter, Option, sym, refl, ap, ◌∙◌, add-one}
use Rattle.controller.specs.Notices.{spared, told, notices_from}
use Rattle.rules.specs.Connections.{vacant, of_ue, places_from}
use Rattle.rules.specs.Actions.{report}
use Rattle.rules.specs.declared.connection.Connection.{Connection}
use Rattle.rules.specs.declared.report.Cause.{Cause}
use Rattle.rules.specs.declared.report.Report.{Report}
use Rattle.rules.specs.declared.report.ReportKind.{ReportKind}
use Rattle.std.proofs.lemmas.List.{at_drop_more, at_drop_all}

module _ (n : ReportKind) (c : Cause) (o : Option ℕ) (u : ℕ) where
  abbrev notice : ℕ → Report
  notice p = report n p 0 c

  by_tests : (i : ℕ) (rest : List ℕ) (t s : Bool) →
      map notice (cond t (cond (not s) (i ∷ filter (λ k. not (spared o k)) rest) (filter (λ k. not (spared o k)) rest)) (filter (λ k. not (spared o k)) rest)) ≡
      cond (t && not s) (notice i ∷ []) [] ++ map notice (filter (λ k. not (spared o k)) rest)
  by_tests i rest true true = refl
  by_tests i rest true false = refl
  by_tests i rest false s = refl

  inside : (t : Bool) (i : ℕ) (rest : List ℕ) → filter (λ k. not (spared o k)) (cond t (i ∷ rest) rest) ≡
      cond t (cond (not (spared o i)) (i ∷ filter (λ k. not (spared o k)) rest) (filter (λ k. not (spared o k)) rest)) (filter (λ k. not (spared o k)) rest)
  inside true i rest = refl
  inside false i rest = refl

  pub notices_next : (cs : List Connection) (i : ℕ) → i < length cs →
      notices_from n c o u i (drop i cs) ≡ cond (told o u i (get_or cs i vacant)) (report n i 0 c ∷ []) [] ++ notices_from n c o u (i + 1) (drop (i + 1) cs)
  notices_next cs i l =
      at_drop_more (notices_from n c o u i) cs i vacant l ∙
      ap (map notice) (inside (of_ue u (get_or cs i vacant)) i (places_from (of_ue u) (suc i) (drop (i + 1) cs))) ∙
      by_tests i (places_from (of_ue u) (suc i) (drop (i + 1) cs)) (of_ue u (get_or cs i vacant)) (spared o i) ∙
      ap (λ k. cond (told o u i (get_or cs i vacant)) (notice i ∷ []) [] ++ notices_from n c o u k (drop (i + 1) cs)) (sym (add-one i))

  pub notices_end : (cs : List Connection) (i : ℕ) → length cs ≤ i → notices_from n c o u i (drop i cs) ≡ []
  notices_end cs i l = at_drop_all (notices_from n c o u i) cs i l

-- with no place left out, all are
pub none_spared : (ps : List ℕ) → filter (λ k. not (spared None k)) ps ≡ ps
none_spared [] = refl
none_spared (p ∷ ps) = ap (λ qs. p ∷ qs) (none_spared ps)
