use Rattle.cxx_expr.proofs.NodeKept.{node_later}
use Rattle.cxx_elaborate.proofs.this.this.Goals as goal

pub pointer_given-requires-clause-node : goal.pointer_given-requires-clause-node
pointer_given-requires-clause-node c = node_later c.args.state.now c.this_object.new.state c.args.node c.this_object.ensures.later c.requires
