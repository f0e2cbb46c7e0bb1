use Rattle.std.proofs.Common.{◌+◌, ◌*◌}
use Rattle.cxx_statement_text.proofs.conditions.+converted.Given as goal

abbrev pub decreases-write_converted : goal.decreases-write_converted
decreases-write_converted g l = 4 * l.end.0

abbrev pub decreases-write_cast : goal.decreases-write_cast
decreases-write_cast g l = 4 * l.end.0 + 1

abbrev pub decreases-write_converted_tree : goal.decreases-write_converted_tree
decreases-write_converted_tree g l = 4 * l.number.0 + 2
