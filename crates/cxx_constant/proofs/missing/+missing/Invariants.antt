use Rattle.std.proofs.Common.{◌+◌, ◌*◌}
use Rattle.cxx_constant.proofs.missing.+missing.Given as goal

abbrev pub decreases-missing_of_one : goal.decreases-missing_of_one
decreases-missing_of_one l = 3 * l.number.0

abbrev pub decreases-missing_of_two : goal.decreases-missing_of_two
decreases-missing_of_two l = 3 * l.number.0

abbrev pub decreases-missing_of_three : goal.decreases-missing_of_three
decreases-missing_of_three l = 3 * l.number.0

abbrev pub decreases-missing_by : goal.decreases-missing_by
decreases-missing_by l = 3 * l.number.0 + 1

abbrev pub decreases-missing : goal.decreases-missing
decreases-missing l = 3 * l.number.0 + 2
