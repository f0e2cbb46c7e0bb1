use Rattle.cxx_computed.proofs.Exact.{of_integers}
use Rattle.cxx_computed.proofs.laws.operators_are_of_integers.Goals as goal

pub returns : goal.returns
returns c = of_integers
