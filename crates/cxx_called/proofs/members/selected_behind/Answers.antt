use Rattle.cxx_expr.proofs.NodeKept.{node_later}
use Rattle.cxx_called.proofs.members.selected_behind.Goals as goal

pub selected_among-requires-clause-node : goal.selected_among-requires-clause-node
selected_among-requires-clause-node g c = node_later _ _ _ c.declared_member.ensures.later c.requires.node
