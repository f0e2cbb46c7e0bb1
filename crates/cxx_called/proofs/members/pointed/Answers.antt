use Rattle.cxx_expr.proofs.NodeKept.{node_later}
use Rattle.cxx_called.proofs.members.pointed.Goals as goal

pub selected_from-requires-clause-node : goal.selected_from-requires-clause-node
selected_from-requires-clause-node g c = node_later _ _ _ c.convert_each.ensures.later c.requires.node
