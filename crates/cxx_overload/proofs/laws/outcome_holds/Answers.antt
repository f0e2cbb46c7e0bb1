use Rattle.cxx_overload.proofs.Reasons.{outcome_is}
use Rattle.cxx_overload.proofs.laws.outcome_holds.Goals as goal

pub returns : goal.returns
returns c = outcome_is
