use Rattle.cxx_expr.proofs.NodeKept.{node_later}
use Rattle.cxx_called.proofs.members.selected_within.Goals as goal

pub selected_behind-requires-clause-node : goal.selected_behind-requires-clause-node
selected_behind-requires-clause-node g c = node_later _ _ _ c.written.ensures.later c.requires.node
