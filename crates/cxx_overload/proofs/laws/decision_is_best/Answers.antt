use Rattle.cxx_overload.proofs.Deciding.{decision_best}
use Rattle.cxx_overload.proofs.laws.decision_is_best.Goals as goal

pub returns : goal.returns
returns c = decision_best
