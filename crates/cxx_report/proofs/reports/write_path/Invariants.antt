-- what is written and the rest are the whole
use Rattle.std.proofs.Common.{◌≡◌, ◌++◌, drop}
use Rattle.cxx_model.specs.Printing.Reports.{spaced_numbers}
use Rattle.cxx_report.proofs.reports.write_path.Given as goal

abbrev pub invariant-loop-number : goal.invariant-loop-number
invariant-loop-number l = l.out.items ++ spaced_numbers (drop l.number-index l.path) ≡ l.initial.out.items ++ spaced_numbers l.path
