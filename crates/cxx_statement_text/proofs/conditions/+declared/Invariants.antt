use Rattle.std.proofs.Common.{◌+◌, ◌*◌}
use Rattle.cxx_statement_text.proofs.conditions.+declared.Given as goal

abbrev pub decreases-declared : goal.decreases-declared
decreases-declared l = 2 * l.end.0

abbrev pub decreases-declared_tree : goal.decreases-declared_tree
decreases-declared_tree l = 2 * l.number.0 + 1
