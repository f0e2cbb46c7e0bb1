use Rattle.cxx_expr.proofs.NodeKept.{node_later}
use Rattle.cxx_called.proofs.members.owned.Goals as goal

pub owned_from-requires-clause-node : goal.owned_from-requires-clause-node
owned_from-requires-clause-node c = node_later _ _ _ c.declaring.ensures.later c.requires.node
