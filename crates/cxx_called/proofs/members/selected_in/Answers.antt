use Rattle.cxx_expr.proofs.NodeKept.{node_later}
use Rattle.cxx_called.proofs.members.selected_in.Goals as goal

pub selected_within-requires-clause-node : goal.selected_within-requires-clause-node
selected_within-requires-clause-node g c = node_later _ _ _ c.naming.ensures.later c.requires.node
