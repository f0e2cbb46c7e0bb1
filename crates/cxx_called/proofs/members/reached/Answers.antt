use Rattle.cxx_expr.proofs.NodeKept.{node_later}
use Rattle.cxx_called.proofs.members.reached.Goals as goal

pub reached_from-requires-clause-node : goal.reached_from-requires-clause-node
reached_from-requires-clause-node c = node_later _ _ _ c.declaring.ensures.later c.requires.node
