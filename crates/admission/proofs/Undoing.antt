-- That a give undoes a take, from the laws of a pool.
use Rattle.std.proofs.Common.{◌≡◌, ℕ, ◌<◌, true, ◌||◌, sym, ap, ◌∙◌, subst, ⊎_elim, arith}
use Rattle.std.proofs.lemmas.Bool.{cases_eq, cond-true, lt-ltb, ne_eqb}
use Rattle.std.proofs.lemmas.Bool.Decides.{nat_tests}
use Rattle.rules.specs.Grants.{nothing, added}
use Rattle.rules.specs.Radio.{Radio, Lawful, Taken, Given, takes, gives, put, after_take, after_give}
use Rattle.admission.specs.Undone.{Alike, GiveUndoesTake}
use Rattle.admission.specs.Obeyed.{takes_parts}

module _
    (m : Radio)
    (lawful : (x : m.State) → m.sound x → Lawful m x)
    (taken : (x : m.State) (g s : ℕ) → m.sound x → takes m x g s ≡ true → Taken m x g s)
    (given : (x : m.State) (g : ℕ) → m.sound x → gives m x g ≡ true → Given m x g) where
  pub give_undoes_take : GiveUndoesTake m
  give_undoes_take x g s ok does =
      let obeyed = takes_parts m x g s does in
      let y : m.State = m.taken x g s in
      let took : Taken m x g s = taken x g s ok does in
      let sized : 0 < s = (lawful x ok).least nothing s obeyed.room in
      let has : m.holds y g ≡ s = ap (λ f. f g) took.holds ∙ grind (arith, nat_tests) in
      let gives-it : gives m y g ≡ true = lt-ltb 0 (m.holds y g) (omega arith) in
      let gave : Given m y g = given y g took.sound gives-it in
      let end : m.given y g ≡ after_give m (after_take m x g s) g =
      sym (cond-true (gives m y g) (m.given y g) y gives-it) ∙ ap (λ z. after_give m z g) (sym (cond-true (takes m x g s) y x does))
      in
      subst (Alike m x) end (record {
        sound = gave.sound;
        holds = λ k.
            let after : m.holds (m.given y g) k ≡ put (m.holds y) g 0 k = ap (λ f. f k) gave.holds in
            let before : m.holds y k ≡ put (m.holds x) g s k = ap (λ f. f k) took.holds in
            ⊎_elim
            (λ same. let fresh : m.holds x k ≡ 0 = ap (m.holds x) same ∙ obeyed.fresh in grind (arith, nat_tests))
            (λ ne. grind (arith, nat_tests))
            (cases_eq k g);
        admits = λ n t.
            let yes : added n g g ≡ true = grind (arith, nat_tests) in
            gave.same n t ∙ took.same (added n g) t yes ∙
            (lawful x ok).unheld (added n g) n t
            (λ k held. let ne : k ≡ g → ⊥ = λ same. omega (arith, ap (m.holds x) same, obeyed.fresh) in ap (λ b. b || n k) (ne_eqb k g ne));
      })
