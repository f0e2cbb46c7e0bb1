use Rattle.std.proofs.Common.{◌≡◌, map, drop}
use Rattle.cxx_model.specs.Text.Spelling.{number_beside}
use Rattle.cxx_constant.proofs.operands.number_beside.Given as goal

abbrev pub invariant-loop-entry : goal.invariant-loop-entry
invariant-loop-entry l = number_beside (map (λ entry. (entry.0.now, entry.1)) (drop l.entry-index l.table)) l.text ≡ number_beside (map (λ entry. (entry.0.now, entry.1)) l.table) l.text
