use Rattle.cxx_expr.proofs.NodeKept.{node_later}
use Rattle.cxx_called.proofs.members.placed_on.Goals as goal

pub reached-requires-clause-node : goal.reached-requires-clause-node
reached-requires-clause-node g c = node_later _ _ _ c.step.ensures.later c.requires.node
