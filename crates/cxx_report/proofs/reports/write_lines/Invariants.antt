-- what is written and the rest are the whole
use Rattle.std.proofs.Common.{◌≡◌, ◌≤◌, ◌+◌, ◌++◌, drop}
use Rattle.cxx_model.specs.Printing.Reports.{evidence_lines}
use Rattle.cxx_report.proofs.reports.write_lines.Given as goal

abbrev pub invariant-loop-one : goal.invariant-loop-one
invariant-loop-one l = (l.out.items ++ evidence_lines l.number (drop l.one-index l.evidence) ≡ l.initial.out.items ++ evidence_lines 1 l.evidence) × (l.number ≤ l.one-index + 1)
