-- A waiting request that is due.
use Rattle.std.specs.Prelude.{ℕ, Bool, ◌&&◌, ◌==◌}
use Rattle.rules.specs.declared.bearer.Request.{Request}

-- a request of this level that passes
abbrev pub due : ℕ → (Request → Bool) → Request → Bool
due l p q = q.priority.level == l && p q
