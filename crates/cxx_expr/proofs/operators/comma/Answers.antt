use Rattle.cxx_expr.proofs.NodeKept.{node_later}
use Rattle.cxx_expr.proofs.operators.comma.Goals as goal

pub own_meaning-requires-clause-node : goal.own_meaning-requires-clause-node
own_meaning-requires-clause-node g c = node_later _ _ _ c.operands_both.ensures.later c.requires.node
