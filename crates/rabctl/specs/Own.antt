-- A cabinet and a controller over its own pool alone, a rate pool or a code tree: each line is answered alike by both.
use Rattle.std.specs.Prelude.{◌≡◌, ℕ}
use Rattle.std.proofs.Common.{inl, inr}
use Rattle.admission.specs.Rate.{rates, fresh}
use Rattle.admission.specs.Tree.{codes, bare}
use Rattle.laws.specs.Carried.{carried}
use Rattle.rabctl.specs.Cabinets.{pools, new_cabinet}
use Rattle.rabctl.specs.Replies.{at_cabinet, left_at, told_at}
use Rattle.rules.specs.Calls.{new_state}
use Rattle.rules.specs.Radio.{Radio}
use Rattle.rules.specs.State.{State}
use Rattle.script.specs.Saying.{Saying}
use Rattle.script.specs.declared.said.Pool.TheVariants as kind

-- a line to a cabinet whose pool is of one kind: what a controller over that pool answers, leaves and reports
pub record LineAlone (own : Radio) (into : own.State → pools.State) : Type 0 where
  pub answer : (n : ℕ) (x : State own) (s : Saying) → at_cabinet n (carried own pools into x) s ≡ at_cabinet n x s
  pub state : (n : ℕ) (x : State own) (s : Saying) → left_at n (carried own pools into x) s ≡ carried own pools into (left_at n x s)
  pub list : (n : ℕ) (x : State own) (s : Saying) → told_at n (carried own pools into x) s ≡ told_at n x s

-- so it is for both kinds, from the cabinet line on
pub record LinesAlone : Type 0 where
  pub rate : LineAlone rates inl
  pub tree : LineAlone codes inr
  -- the cabinet that a cabinet line makes, with its number and its capacity
  pub new_rate : (number capacity : ℕ) → new_cabinet number (kind.Rate capacity) ≡ carried rates pools inl (new_state rates number (fresh capacity))
  pub new_tree : (number : ℕ) → new_cabinet number kind.Tree ≡ carried codes pools inr (new_state codes number bare)
