use Rattle.cxx_expr.proofs.NodeKept.{node_later}
use Rattle.cxx_expr.proofs.conditional.arms.Goals as goal

pub arms_built-requires-clause-node : goal.arms_built-requires-clause-node
arms_built-requires-clause-node g c = node_later c.args.state.now c.arms_meaning.new.state c.args.node c.arms_meaning.ensures.later c.requires.node
