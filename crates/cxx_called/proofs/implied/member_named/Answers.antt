use Rattle.cxx_expr.proofs.NodeKept.{node_later}
use Rattle.cxx_called.proofs.implied.member_named.Goals as goal

pub member_selected-requires-clause-node : goal.member_selected-requires-clause-node
member_selected-requires-clause-node g c = node_later _ _ _ c.qualified.ensures.later c.requires.node
