use Rattle.cxx_expr.proofs.NodeKept.{node_later}
use Rattle.cxx_called.proofs.members.selected_noted.Goals as goal

pub selected_as-requires-clause-node : goal.selected_as-requires-clause-node
selected_as-requires-clause-node g c = node_later _ _ _ c.bound.ensures.later c.requires.node
