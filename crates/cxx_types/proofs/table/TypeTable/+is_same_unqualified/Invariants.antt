use Rattle.std.proofs.Common.{◌+◌}
use Rattle.cxx_types.proofs.table.TypeTable.+is_same_unqualified.Given as goal

abbrev pub decreases-is_same_unqualified : goal.decreases-is_same_unqualified
decreases-is_same_unqualified l = l.one.0 + l.two.0
