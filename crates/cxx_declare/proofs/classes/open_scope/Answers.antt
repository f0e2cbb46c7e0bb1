use Rattle.cxx_declare.proofs.Classed.{open_below}
use Rattle.cxx_declare.proofs.classes.open_scope.Goals as goal

pub returns-clause-there : goal.returns-clause-there
returns-clause-there c = open_below c.args.state.now c.graph-graph.result.now c.scope.result c.open_scope.result.0 c.graph-graph.ensures.is c.in_range.ensures c.scope.ensures.there (c.open_scope.ensures c.args.state.now.types)
