use Rattle.cxx_overload.proofs.Narrowed.{rated_same}
use Rattle.cxx_overload.proofs.laws.outcomes_are_kept.Goals as goal

pub returns : goal.returns
returns c = rated_same
