use Rattle.std.proofs.Common.{◌+◌}
use Rattle.cxx_types.proofs.table.TypeTable.+is_similar.Given as goal

abbrev pub decreases-is_similar : goal.decreases-is_similar
decreases-is_similar l = l.one.0 + l.two.0
