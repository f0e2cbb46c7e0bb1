use Rattle.std.proofs.Common.{◌+◌, ◌*◌}
use Rattle.cxx_statement_text.proofs.objects.+storage.Given as goal

abbrev pub decreases-is_static : goal.decreases-is_static
decreases-is_static l = 2 * l.end.0

abbrev pub decreases-is_static_tree : goal.decreases-is_static_tree
decreases-is_static_tree l = 2 * l.number.0 + 1
