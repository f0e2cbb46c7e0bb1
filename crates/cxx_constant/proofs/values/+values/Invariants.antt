use Rattle.std.proofs.Common.{◌+◌, ◌*◌}
use Rattle.cxx_constant.proofs.values.+values.Given as goal

abbrev pub decreases-cast_value : goal.decreases-cast_value
decreases-cast_value l = 4 * l.number.0 + 1

abbrev pub decreases-unary : goal.decreases-unary
decreases-unary l = 4 * l.number.0 + 1

abbrev pub decreases-binary : goal.decreases-binary
decreases-binary l = 4 * l.number.0 + 1

abbrev pub decreases-conjunction : goal.decreases-conjunction
decreases-conjunction l = 4 * l.number.0 + 1

abbrev pub decreases-disjunction : goal.decreases-disjunction
decreases-disjunction l = 4 * l.number.0 + 1

abbrev pub decreases-third : goal.decreases-third
decreases-third l = 4 * l.number.0

abbrev pub decreases-choice : goal.decreases-choice
decreases-choice l = 4 * l.number.0 + 1

abbrev pub decreases-value_by : goal.decreases-value_by
decreases-value_by l = 4 * l.number.0 + 2

abbrev pub decreases-value : goal.decreases-value
decreases-value l = 4 * l.number.0 + 3
