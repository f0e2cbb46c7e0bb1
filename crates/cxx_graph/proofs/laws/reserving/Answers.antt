use Rattle.cxx_graph.proofs.GraphRange.{reserved-in-range}
use Rattle.cxx_graph.proofs.laws.reserving.Goals as goal

pub returns : goal.returns
returns c = reserved-in-range
