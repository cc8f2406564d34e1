-- What a line of a script says.
use Rattle.std.specs.Prelude.{ℕ, Bool, true, false, cond, List, [], ◌∷◌, ◌++◌, Some, None, Ok, Err, codes, Option, Result, ◌==◌}
use Rattle.script.specs.Hex.{group_fault, pairs_of}
use Rattle.script.specs.Numbers.{number_of}
use Rattle.script.specs.Saying.{Saying, skips, makes, opens, hands, expires, starts, executes, withdraws, asks_rab, asks_grant, asks_room, shows}
use Rattle.script.specs.Verbs.{verb_of}
use Rattle.script.specs.Words.{words}
use Rattle.script.specs.declared.said.Argument.{Argument}
use Rattle.script.specs.declared.said.Argument.TheVariants as argument
use Rattle.script.specs.declared.said.Fault.{Fault}
use Rattle.script.specs.declared.said.Fault.TheVariants.{UnknownWord, Missing, MissingPool, UnknownPool, Extra}
use Rattle.script.specs.declared.said.Pool.{Pool}
use Rattle.script.specs.declared.said.Pool.TheVariants.{Rate, Tree}
use Rattle.script.specs.declared.verb.Verb.{Verb}
use Rattle.script.specs.declared.verb.Verb.TheVariants as verb
use Rattle.std.specs.Str.{bytes_eq}

-- one reading after another, up to the first fault
abbrev pub then : {X Y : Type 0} → Result X Fault → (X → Result Y Fault) → Result Y Fault
then (Ok x) next = next x
then (Err f) next = Err f

abbrev pub with_rest : {X Y : Type 0} → Y → Result X Fault → Result (X × Y) Fault
with_rest rest (Ok x) = Ok (x, rest)
with_rest rest (Err f) = Err f

-- the next word as a number, and the words after it
abbrev pub number_at : Argument → List (List ℕ) → Result (ℕ × List (List ℕ)) Fault
number_at a [] = Err (Missing a)
number_at a (w ∷ ws) = with_rest ws (number_of a w)

-- no word may follow
abbrev pub ended : Saying → List (List ℕ) → Result Saying Fault
ended s [] = Ok s
ended s (w ∷ ws) = Err Extra

-- `rate CAPACITY` or `tree`, and the words after it
abbrev pub pool_at : List (List ℕ) → Result (Pool × List (List ℕ)) Fault
pool_at [] = Err MissingPool
pool_at (w ∷ ws) =
    cond (bytes_eq w (codes "tree")) (Ok (Tree, ws))
    (cond (bytes_eq w (codes "rate")) (then (number_at argument.Capacity ws) (λ capacity. Ok (Rate capacity.0, capacity.1)))
    (Err UnknownPool))

-- `cabinet NUMBER POOL`
abbrev pub cabinet_of : List (List ℕ) → Result Saying Fault
cabinet_of ws =
    then (number_at argument.Number ws) (λ number.
    then (pool_at number.1) (λ pool.
    ended (makes number.0 pool.0) pool.1))

-- `open PLACE UE DOMAIN`
abbrev pub open_of : List (List ℕ) → Result Saying Fault
open_of ws =
    then (number_at argument.Place ws) (λ place.
    then (number_at argument.Ue place.1) (λ ue.
    then (number_at argument.Domain ue.1) (λ domain.
    ended (opens place.0 ue.0 domain.0) domain.1)))

-- `expiry PLACE TIMER`
abbrev pub expiry_of : List (List ℕ) → Result Saying Fault
expiry_of ws =
    then (number_at argument.Place ws) (λ place.
    then (number_at argument.Timer place.1) (λ timer.
    ended (expires place.0 timer.0) timer.1))

-- `start UE`
abbrev pub start_of : List (List ℕ) → Result Saying Fault
start_of ws =
    then (number_at argument.Ue ws) (λ ue.
    ended (starts ue.0) ue.1)

-- `execute TICKET`
abbrev pub execute_of : List (List ℕ) → Result Saying Fault
execute_of ws =
    then (number_at argument.Ticket ws) (λ ticket.
    ended (executes ticket.0) ticket.1)

-- `withdraw TICKET`
abbrev pub withdraw_of : List (List ℕ) → Result Saying Fault
withdraw_of ws =
    then (number_at argument.Ticket ws) (λ ticket.
    ended (withdraws ticket.0) ticket.1)

-- `rab PLACE RAB`
abbrev pub rab_of : List (List ℕ) → Result Saying Fault
rab_of ws =
    then (number_at argument.Place ws) (λ place.
    then (number_at argument.Rab place.1) (λ rab.
    ended (asks_rab place.0 rab.0) rab.1))

-- `grant GRANT`
abbrev pub grant_of : List (List ℕ) → Result Saying Fault
grant_of ws =
    then (number_at argument.Grant ws) (λ grant.
    ended (asks_grant grant.0) grant.1)

-- what each of any number of words gives, one after the other, or the first fault
abbrev pub and_then : Result (List ℕ) Fault → Result (List ℕ) Fault → Result (List ℕ) Fault
and_then (Ok xs) (Ok ys) = Ok (xs ++ ys)
and_then (Ok xs) (Err f) = Err f
and_then (Err f) later = Err f

abbrev pub gathered : (List ℕ → Result (List ℕ) Fault) → List (List ℕ) → Result (List ℕ) Fault
gathered part [] = Ok []
gathered part (w ∷ ws) = and_then (part w) (gathered part ws)

-- a group of hex digits
abbrev pub bytes_unless : Option Fault → List ℕ → Result (List ℕ) Fault
bytes_unless None bs = Ok bs
bytes_unless (Some f) bs = Err f

abbrev pub bytes_of : List ℕ → Result (List ℕ) Fault
bytes_of w = bytes_unless (group_fault w) (pairs_of w)

-- `frame HEX ..`
abbrev pub frame_of : List (List ℕ) → Result Saying Fault
frame_of ws = then (gathered bytes_of ws) (λ bytes. Ok (hands bytes))

-- a grant number
abbrev pub grant_named : List ℕ → Result (List ℕ) Fault
grant_named w = then (number_of argument.Grant w) (λ grant. Ok (grant ∷ []))

-- `room SIZE GRANT ..`
abbrev pub room_of : List (List ℕ) → Result Saying Fault
room_of ws =
    then (number_at argument.Size ws) (λ size.
    then (gathered grant_named size.1) (λ named.
    Ok (asks_room size.0 named)))

-- the words after the first one are read as that one says
abbrev pub call_of : Verb → List (List ℕ) → Result Saying Fault
call_of verb.Cabinet ws = cabinet_of ws
call_of verb.Open ws = open_of ws
call_of verb.Frame ws = frame_of ws
call_of verb.Expiry ws = expiry_of ws
call_of verb.Start ws = start_of ws
call_of verb.Execute ws = execute_of ws
call_of verb.Withdraw ws = withdraw_of ws
call_of verb.Rab ws = rab_of ws
call_of verb.Grant ws = grant_of ws
call_of verb.Room ws = room_of ws
call_of verb.Show ws = ended shows ws

abbrev pub chosen : Option Verb → List (List ℕ) → Result Saying Fault
chosen None ws = Err UnknownWord
chosen (Some v) ws = call_of v ws

abbrev pub words_say : List (List ℕ) → Result Saying Fault
words_say [] = Ok skips
words_say (w ∷ ws) = chosen (verb_of w) ws

-- a line whose first byte is `#`, 35
abbrev pub comment : List ℕ → Bool
comment [] = false
comment (b ∷ bs) = b == 35

-- what a line says
abbrev pub meaning : List ℕ → Result Saying Fault
meaning bs = cond (comment bs) (Ok skips) (words_say (words bs))

-- whether a line holds a list of any length
abbrev pub takes_memory : Verb → Bool
takes_memory verb.Cabinet = false
takes_memory verb.Open = false
takes_memory verb.Frame = true
takes_memory verb.Expiry = false
takes_memory verb.Start = false
takes_memory verb.Execute = false
takes_memory verb.Withdraw = false
takes_memory verb.Rab = false
takes_memory verb.Grant = false
takes_memory verb.Room = true
takes_memory verb.Show = false

abbrev pub chosen_takes_memory : Option Verb → Bool
chosen_takes_memory None = false
chosen_takes_memory (Some v) = takes_memory v

abbrev pub words_take_memory : List (List ℕ) → Bool
words_take_memory [] = false
words_take_memory (w ∷ ws) = chosen_takes_memory (verb_of w)

abbrev pub may_take_memory : List ℕ → Bool
may_take_memory bs = cond (comment bs) false (words_take_memory (words bs))
