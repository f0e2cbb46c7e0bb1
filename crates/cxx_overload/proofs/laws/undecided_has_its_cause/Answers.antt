use Rattle.cxx_overload.proofs.Deciding.{undecided_why}
use Rattle.cxx_overload.proofs.laws.undecided_has_its_cause.Goals as goal

pub returns : goal.returns
returns c = undecided_why
