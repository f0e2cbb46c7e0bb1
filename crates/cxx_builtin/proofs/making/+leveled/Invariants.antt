use Rattle.std.proofs.Common.{◌+◌, ◌*◌}
use Rattle.cxx_builtin.proofs.making.+leveled.Given as goal

abbrev pub decreases-leveled : goal.decreases-leveled
decreases-leveled l = 2 * l.of.0 + 1

abbrev pub decreases-leveled_pointer : goal.decreases-leveled_pointer
decreases-leveled_pointer l = 2 * l.to.0 + 2
