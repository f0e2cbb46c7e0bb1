use Rattle.cxx_this.proofs.Classed.{class_below}
use Rattle.cxx_this.proofs.this.class_at.Goals as goal

pub returns-clause-there : goal.returns-clause-there
returns-clause-there c = class_below c.args.state.now.graph c.graph-graph.result.now c.args.scope c.class_of_scope.result c.graph-graph.ensures.is c.in_range.ensures c.class_of_scope.ensures
