use Rattle.cxx_expr.proofs.NodeKept.{node_later}
use Rattle.cxx_called.proofs.members.placed_over.Goals as goal

pub placed_on-requires-clause-node : goal.placed_on-requires-clause-node
placed_on-requires-clause-node g c = node_later _ _ _ c.object_called.ensures.later c.requires.node
