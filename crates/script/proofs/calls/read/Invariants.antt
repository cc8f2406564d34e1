use Rattle.script.proofs.calls.read.Given as goal
use Rattle.script.specs.Script.{bytes_of, grant_named}

abbrev pub ghost-gather : goal.ghost-gather
ghost-gather a = bytes_of

abbrev pub ghost-gather-2 : goal.ghost-gather-2
ghost-gather-2 a = grant_named
