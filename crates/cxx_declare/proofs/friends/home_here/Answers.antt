use Rattle.cxx_declare.proofs.Befriending.{home_below}
use Rattle.cxx_declare.proofs.friends.home_here.Goals as goal

pub returns-clause-there : goal.returns-clause-there
returns-clause-there c = home_below c.args.state.now c.graph-graph.result.now c.scope.result c.home.result.0 c.graph-graph.ensures.is c.in_range.ensures c.scope.ensures.there (c.home.ensures c.args.state.now.types)
