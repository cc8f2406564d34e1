-- The laws of the rate pool.
use Rattle.std.specs.Prelude.{◌≡◌, ℕ, ◌+◌, ◌<◌, ◌≤◌, Bool, true, cond, ◌&&◌, ◌==◌, nat_le, nat_lt, refl}
use Rattle.std.proofs.Common.{ap, ◌∙◌, ⊎_elim, arith}
use Rattle.std.proofs.Math.Path.{fun_ext}
use Rattle.std.proofs.lemmas.Bool.{cases_eq, cases_Bool, cases_lt}
use Rattle.std.proofs.lemmas.Bool.Decides.{nat_tests}
use Rattle.rules.specs.Grants.{everything}
use Rattle.rules.specs.Radio.{Lawful, Taken, Given, takes, gives}
use Rattle.admission.specs.Sums.{total, without}
use Rattle.admission.specs.Rate.{Rate, Within, rates, fresh}
use Rattle.admission.specs.Obeyed.{takes_parts, gives_part}
use Rattle.admission.specs.Puts.{put_small, put_numbers, numbered}
use Rattle.admission.specs.Totals.{total_put, without_one, total_zero}

-- admission by the load alone
abbrev by_load : Rate → ℕ → (ℕ → ℕ) → Bool
by_load x s w = nat_lt 0 s && (nat_le s 64 && nat_le (total w 64 + s) x.capacity)

same_without : (f : ℕ → ℕ) (n n' : ℕ → Bool) → ((k : ℕ) → 0 < f k → n k ≡ n' k) → without n f ≡ without n' f
same_without f n n' same =
    fun_ext (λ k. ⊎_elim (λ p. ap (λ b. cond b 0 (f k)) (same k p)) (λ z. grind (arith, cases_Bool (n k), cases_Bool (n' k))) (cases_lt 0 (f k)))

pub fresh_within : (c : ℕ) → Within (fresh c)
fresh_within c = record {
  some = omega arith;
  fits = omega (arith, total_zero (λ _. 0) 64 (λ _ _. refl));
  small = λ g. omega arith;
  numbers = λ g out. refl;
}

pub lawful : (x : Rate) → Within x → Lawful rates x
lawful x ok = record {
  numbers = ok.numbers;
  small = ok.small;
  unheld = λ n n' s same. ap (by_load x s) (same_without x.sizes n n' same);
  trade = λ n g s named some le.
      let within : g < 64 = numbered x.sizes ok.numbers g (omega arith) in
      let rest : total (without n x.sizes) 64 + x.sizes g ≤ total x.sizes 64 = without_one n x.sizes g 64 within named in
      let most : x.sizes g ≤ 64 = ok.small g in
      grind (arith, nat_tests);
  last =
      let none : total (without everything x.sizes) 64 ≡ 0 = total_zero (without everything x.sizes) 64 (λ k l. grind (arith, nat_tests)) in
      grind (arith, nat_tests);
  least = λ n s yes. grind (arith, nat_tests);
  most = λ n s yes. grind (arith, nat_tests);
}

pub taken : (x : Rate) (g s : ℕ) → Within x → takes rates x g s ≡ true → Taken rates x g s
taken x g s ok does =
    let within : g < 64 = (takes_parts rates x g s does).number in
    let small : s ≤ 64 = grind (arith, nat_tests) in
    let fit : total x.sizes 64 + s ≤ x.capacity = grind (arith, nat_tests) in
    record {
      sound = record {
        some = ok.some;
        fits = omega (arith, total_put x.sizes g s 64 within);
        small = put_small x.sizes g s small ok.small;
        numbers = put_numbers x.sizes g s within ok.numbers;
      };
      holds = refl;
      same = λ n t named.
          ap (by_load x t)
          (fun_ext (λ k. ⊎_elim (λ e. let b : n k ≡ true = ap n e ∙ named in grind (arith, nat_tests)) (λ ne. grind (arith, nat_tests, cases_Bool (n k))) (cases_eq k g)));
    }

pub given : (x : Rate) (g : ℕ) → Within x → gives rates x g ≡ true → Given rates x g
given x g ok does =
    let some : 0 < x.sizes g = gives_part rates x g does in
    let within : g < 64 = numbered x.sizes ok.numbers g some in
    record {
      sound = record {
        some = ok.some;
        fits = omega (arith, total_put x.sizes g 0 64 within);
        small = put_small x.sizes g 0 (omega arith) ok.small;
        numbers = put_numbers x.sizes g 0 within ok.numbers;
      };
      holds = refl;
      same = λ n t. ap (by_load x t) (fun_ext (λ k. grind (arith, cases_Bool (n k), cases_Bool (k == g))));
    }
