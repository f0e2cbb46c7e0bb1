use Rattle.cxx_tree.proofs.Holders.{class_below}
use Rattle.cxx_expr.proofs.statics.class_of_scope.Goals as goal

pub returns-clause-there : goal.returns-clause-there
returns-clause-there c = class_below c.args.state.now.graph c.graph-graph.result.now c.args.scope c.class_of_scope.result c.graph-graph.ensures.is c.in_range.ensures c.class_of_scope.ensures
