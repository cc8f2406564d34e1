-- The first word of a line, which chooses the call.
use Rattle.std.specs.Prelude.{ℕ, cond, List, Some, None, codes, Option}
use Rattle.script.specs.declared.verb.Verb.{Verb}
use Rattle.script.specs.declared.verb.Verb.TheVariants.{Cabinet, Open, Frame, Expiry, Start, Execute, Withdraw, Rab, Grant, Room, Show}
use Rattle.std.specs.Str.{bytes_eq}

abbrev pub verb_of : List ℕ → Option Verb
verb_of w =
    cond (bytes_eq w (codes "cabinet")) (Some Cabinet)
    (cond (bytes_eq w (codes "open")) (Some Open)
    (cond (bytes_eq w (codes "frame")) (Some Frame)
    (cond (bytes_eq w (codes "expiry")) (Some Expiry)
    (cond (bytes_eq w (codes "start")) (Some Start)
    (cond (bytes_eq w (codes "execute")) (Some Execute)
    (cond (bytes_eq w (codes "withdraw")) (Some Withdraw)
    (cond (bytes_eq w (codes "rab")) (Some Rab)
    (cond (bytes_eq w (codes "grant")) (Some Grant)
    (cond (bytes_eq w (codes "room")) (Some Room)
    (cond (bytes_eq w (codes "show")) (Some Show) None))))))))))
