-- What the tables of RABs always keep.
use Rattle.std.specs.Prelude.{Bool, true, not, ◌&&◌, List, [], ◌∷◌, nat_le, nat_lt}
use Rattle.rules.specs.Tables.{is_some, before, waits_as}
use Rattle.rules.specs.declared.bearer.Bearer.{Bearer}
use Rattle.rules.specs.declared.bearer.Request.{Request}
use Rattle.rules.specs.declared.item.Priority.{Priority}

-- a RAB stands before the first of a table
abbrev pub heads : Bearer → List Bearer → Bool
heads a [] = true
heads a (b ∷ bs) = before a b

-- each RAB stands before the next, by place and RAB ID
abbrev pub ascending : List Bearer → Bool
ascending [] = true
ascending (a ∷ bs) = heads a bs && ascending bs

-- no RAB has two requests
abbrev pub apart : List Request → Bool
apart [] = true
apart (q ∷ qs) = not (is_some (waits_as q.place q.rab qs)) && apart qs

-- a level from 1 to 15
abbrev pub level_good : Priority → Bool
level_good p = nat_le 1 p.level && nat_le p.level 15

-- a set-up RAB has a grant number below 64 and a level from 1 to 15
abbrev pub bearer_good : Bearer → Bool
bearer_good b = nat_lt b.grant 64 && level_good b.priority

-- so have all of a table
abbrev pub bearers_good : List Bearer → Bool
bearers_good [] = true
bearers_good (b ∷ bs) = bearer_good b && bearers_good bs

-- every request has a level from 1 to 15
abbrev pub requests_good : List Request → Bool
requests_good [] = true
requests_good (q ∷ qs) = level_good q.priority && requests_good qs

-- both tables
abbrev pub in_range : List Bearer → List Request → Bool
in_range bs qs = bearers_good bs && requests_good qs
