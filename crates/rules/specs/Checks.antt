-- What is wrong with a set-up or modify item, and the priority that it asks under.
use Rattle.std.specs.Prelude.{ℕ, Bool, true, false, cond, not, ◌&&◌, ◌||◌, Some, None, Option, ◌==◌, nat_le, nat_lt}
use Rattle.rules.specs.Radio.{Radio}
use Rattle.rules.specs.State.{State}
use Rattle.rules.specs.Tables.{is_some, known_in}
use Rattle.rules.specs.declared.bearer.Bearer.{Bearer}
use Rattle.rules.specs.declared.item.Assignment.{Assignment}
use Rattle.rules.specs.declared.item.Flags.{Flags}
use Rattle.rules.specs.declared.item.Priority.{Priority}
use Rattle.rules.specs.declared.report.Cause.{Cause}
use Rattle.rules.specs.declared.report.Cause.TheVariants as cause

-- level 15, "no priority", may not trigger and is not pre-emptable
abbrev pub effective : Priority → Priority
effective t = record {
  level = t.level;
  triggers = t.triggers && not (t.level == 15);
  preemptable = t.preemptable && not (t.level == 15);
  queuing = t.queuing;
}

-- a set-up without flag 1: level 14, may not trigger, is pre-emptable, may not wait
abbrev pub default_priority : Priority
default_priority = record { level = 14; triggers = false; preemptable = true; queuing = false }

-- the values in use of a modification, those of a set-up without flag 1 where there are none
abbrev pub priority_in_use : Option Bearer → Priority
priority_in_use None = default_priority
priority_in_use (Some b) = b.priority

-- the priority that an item asks under
abbrev pub priority_of : Assignment → Option Bearer → Priority
priority_of a own = cond a.flags.priority (effective a.priority) (priority_in_use own)

-- a set-up lacks flag 0, 3 or 4; a modification has flag 3 but neither 0 nor 4
abbrev pub parts_missing : Flags → Option Bearer → Bool
parts_missing f None = not (f.parameters && f.transport && f.plane)
parts_missing f (Some b) = f.transport && not (f.parameters || f.plane)

-- cause 8: parts missing, or flag 1 without flag 0
abbrev pub ill_combined : Assignment → Option Bearer → Bool
ill_combined a own = parts_missing a.flags own || (a.flags.priority && not a.flags.parameters)

-- cause 7, looked at only with flag 0: size 0 or over 64, or flag 1 with a level of 0 or over 15
abbrev pub ill_valued : Assignment → Bool
ill_valued a = a.flags.parameters && ((a.size == 0 || nat_lt 64 a.size) || (a.flags.priority && (a.priority.level == 0 || nat_lt 15 a.priority.level)))

-- how many RABs the controller knows
abbrev pub known : {m : Radio} → State m → ℕ
known x = known_in x.bearers x.queue

-- cause 12: a set-up when 64 RABs are known
abbrev pub table_full : {m : Radio} → Option Bearer → State m → Bool
table_full own x = not (is_some own) && nat_le 64 (known x)

-- the first of these causes, if any
abbrev pub fault_of : {m : Radio} → Assignment → Option Bearer → State m → Option Cause
fault_of a own x =
    cond (ill_combined a own) (Some cause.InvalidCombination)
    (cond (ill_valued a) (Some cause.InvalidValue)
    (cond (table_full own x) (Some cause.TableFull) None))
