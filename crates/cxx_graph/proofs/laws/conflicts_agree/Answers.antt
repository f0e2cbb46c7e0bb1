use Rattle.cxx_graph.proofs.Clashing.{clash_ways}
use Rattle.cxx_graph.proofs.laws.conflicts_agree.Goals as goal

pub returns : goal.returns
returns c graph m n one two = clash_ways graph m one n two
