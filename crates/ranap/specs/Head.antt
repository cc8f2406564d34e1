-- The first four bytes of a frame: kind, place and count, or the place of the fault.
use Rattle.std.specs.Prelude.{ℕ, cond, List, Some, None, Ok, Err, Option, Result}
use Rattle.rules.specs.Frame.{byte, kind_at, count_at, count_good, broken}
use Rattle.rules.specs.declared.item.FrameKind.{FrameKind}
use Rattle.rules.specs.declared.refusal.Refusal.{Refusal}
use Rattle.ranap.specs.declared.head.Head.{Head}

-- kind, place and count of a frame that has a kind
abbrev pub head_as : Option FrameKind → List ℕ → Result Head Refusal
head_as None bs = Err (broken 0)
head_as (Some k) bs = cond (count_good k bs) (Ok (record { kind = k; place = byte bs 1; count = count_at bs })) (Err (broken 2))

-- kind, place and count of a frame
abbrev pub head_of : List ℕ → Result Head Refusal
head_of bs = head_as (kind_at bs) bs
