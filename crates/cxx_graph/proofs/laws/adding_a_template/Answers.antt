use Rattle.cxx_graph.proofs.GraphRange.{pattern-in-range}
use Rattle.cxx_graph.proofs.laws.adding_a_template.Goals as goal

pub returns : goal.returns
returns c = pattern-in-range
