use Rattle.ranap.proofs.reader.item_at.Goals as goal
use Rattle.std.proofs.Common.{◌≡◌, ◌-◌, arith}

pub returns : goal.returns
returns c =
    let long : c.end.result - c.from.result ≡ c.args.pair.length = omega (arith, c.end.ensures, c.from.ensures) in
    rw (long, c.from.ensures) at c.item_of.ensures
