-- The caller's list of reports after a call.
use Rattle.std.specs.Prelude.{List, ◌++◌, length, drop}
use Rattle.rules.specs.declared.report.Report.{Report}

-- the first places hold these reports, the others what they held
abbrev pub listed : List Report → List Report → List Report
listed rs l = rs ++ drop (length rs) l
