use Rattle.runs.proofs.Every.{every_run}
use Rattle.runs.proofs.commission.Goals as goal
use Rattle.runs.specs.Law.{Laws, LawOfRuns}
use Rattle.std.proofs.Common.{IfOk, Ok, Err, Result, sym, subst}

-- what holds of everything made so
made_then : {X Y : Type 0} (r : Result X Y) (f g : X → Type 0) → ((x : X) → f x → g x) → IfOk r f → IfOk r g
made_then (Ok x) f g h e = h x e
made_then (Err y) f g h e = tt

pub returns : goal.returns
returns g c =
    let m = g.P.RadioPool.radio in
    let s = g.P.RadioPool.state in
    let met = g.met.P.RadioPool in
    let laws : Laws m = record { lawful = met.lawful; taken = met.taken; given = met.given } in
    record {
      new = c.new.ensures;
      law = made_then c.new.result _ _ (λ d e ok. subst (LawOfRuns m) (sym e) (every_run m laws c.args.number (s c.args.pool) ok)) c.new.ensures;
    }
