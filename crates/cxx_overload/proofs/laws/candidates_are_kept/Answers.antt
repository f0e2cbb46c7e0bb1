use Rattle.cxx_overload.proofs.Narrowed.{candidates_same}
use Rattle.cxx_overload.proofs.laws.candidates_are_kept.Goals as goal

pub returns : goal.returns
returns c = candidates_same
