-- The controller of a cabinet, over a pool of one of two kinds: what it knows, and which one a cabinet line makes.
use Rattle.std.specs.Prelude.{ℕ, None, Option}
use Rattle.std.proofs.Common.{inl, inr}
use Rattle.admission.specs.Rate.{rates, fresh}
use Rattle.admission.specs.Tree.{codes, bare}
use Rattle.admission.specs.Views.{rate_of, tree_of}
use Rattle.controller.specs.View.{view}
use Rattle.controller.specs.declared.controller.Controller.{Controller}
use Rattle.rabctl.specs.Either.{either}
use Rattle.rabctl.specs.declared.cabinet.Pool.{Pool}
use Rattle.rabctl.specs.declared.cabinet.Pool.TheVariants as pool
use Rattle.rules.specs.Calls.{new_state}
use Rattle.rules.specs.Radio.{Radio}
use Rattle.rules.specs.State.{State}
use Rattle.script.specs.declared.said.Pool.{Pool as Kind}
use Rattle.script.specs.declared.said.Pool.TheVariants as kind
use Rattle.std.specs.Option.{option_map}

-- a rate pool or a code tree
abbrev pub pools : Radio
pools = either rates codes

abbrev pub pool_of : Pool → pools.State
pool_of (pool.Rate p) = inl (rate_of p)
pool_of (pool.Tree t) = inr (tree_of t)

-- everything that the controller of a cabinet knows
abbrev pub Standing : Type 0
Standing = State pools

abbrev pub stands : Controller Pool → Standing
stands c = view pools pool_of c

-- the same, if the cabinet stands
abbrev pub standing : Option (Controller Pool) → Option Standing
standing c = option_map stands c

-- the pool that a cabinet line asks for, with nothing taken
abbrev pub new_pool : Kind → pools.State
new_pool (kind.Rate capacity) = inl (fresh capacity)
new_pool kind.Tree = inr bare

-- the controller that it asks for, with nothing known
abbrev pub new_cabinet : ℕ → Kind → Standing
new_cabinet number kind = new_state pools number (new_pool kind)

-- the grant on a leaf of the code tree; a rate pool has no leaves
abbrev pub owns : ℕ → pools.State → Option ℕ
owns i (inl x) = None
owns i (inr x) = x.owner i
