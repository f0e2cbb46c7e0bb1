use Rattle.cxx_computed.proofs.Exact.{minus_of_integers}
use Rattle.cxx_computed.proofs.laws.minus_is_of_integers.Goals as goal

pub returns : goal.returns
returns c = minus_of_integers
