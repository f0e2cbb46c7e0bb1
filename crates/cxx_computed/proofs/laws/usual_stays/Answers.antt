use Rattle.cxx_computed.proofs.Again.{usual_again}
use Rattle.cxx_computed.proofs.laws.usual_stays.Goals as goal

pub returns : goal.returns
returns c = usual_again
