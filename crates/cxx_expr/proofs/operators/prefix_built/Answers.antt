use Rattle.cxx_expr.proofs.NodeKept.{node_later}
use Rattle.cxx_expr.proofs.operators.prefix_built.Goals as goal

pub built_by-requires-clause-node : goal.built_by-requires-clause-node
built_by-requires-clause-node g c = node_later _ _ _ c.operand_of.ensures.later c.requires.node
