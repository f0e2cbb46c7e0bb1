use Rattle.cxx_expr.proofs.NodeKept.{node_later}
use Rattle.cxx_initialize.proofs.whole.list_whole.Goals as goal

pub list_over-requires-clause-node : goal.list_over-requires-clause-node
list_over-requires-clause-node g c = node_later _ _ _ c.elements.ensures.later c.requires.node
