-- The caller's list of reports, written from its first record on.
use Rattle.std.specs.Prelude.{◌≡◌, ℕ, ◌+◌, cond, List, [], ◌∷◌, length, nat_lt, slice_set}
use Rattle.controller.specs.declared.writing.Sheet.{Sheet}
use Rattle.rules.specs.declared.report.Report.{Report}

-- the list, and how many of its records are written
pub record Page : Type 0 where
  pub list : List Report
  pub count : ℕ

abbrev pub page : List Report → ℕ → Page
page rs n = record { list = rs; count = n }

-- a sheet as it stands
abbrev pub page_of : Sheet → Page
page_of s = page s.reports.now s.count

-- one report more; past the end there is no room for it
abbrev pub write : Report → Page → Page
write r p = cond (nat_lt p.count (length p.list)) (page (slice_set p.list p.count r) (p.count + 1)) p

-- reports one after the other
abbrev pub write_all : List Report → Page → Page
write_all [] p = p
write_all (r ∷ rs) p = write_all rs (write r p)

-- these reports were written, and the sheet is still over the same list
pub record Wrote (rs : List Report) (before after : Sheet) : Type 0 where
  pub page : page_of after ≡ write_all rs (page_of before)
  pub same : after.reports.ghost_name ≡ before.reports.ghost_name
