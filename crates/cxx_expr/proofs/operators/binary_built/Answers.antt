use Rattle.cxx_expr.proofs.NodeKept.{node_later}
use Rattle.cxx_expr.proofs.operators.binary_built.Goals as goal

pub built_by-requires-clause-node : goal.built_by-requires-clause-node
built_by-requires-clause-node g c = node_later _ _ _ c.operands_beside.ensures.later c.requires.node
