use Rattle.std.proofs.Common.{◌+◌, ◌*◌}
use Rattle.cxx_phrase_text.proofs.standing.+standing.Given as goal

abbrev pub decreases-first_standing : goal.decreases-first_standing
decreases-first_standing l = 4 * l.end.0

abbrev pub decreases-initial_standing : goal.decreases-initial_standing
decreases-initial_standing l = 4 * l.number.0 + 1

abbrev pub decreases-form_standing : goal.decreases-form_standing
decreases-form_standing l = 4 * l.number.0 + 2

abbrev pub decreases-standing : goal.decreases-standing
decreases-standing l = 4 * l.number.0 + 3
