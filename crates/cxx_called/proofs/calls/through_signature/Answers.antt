use Rattle.cxx_expr.proofs.NodeKept.{node_later}
use Rattle.cxx_called.proofs.calls.through_signature.Goals as goal

pub through_tree-requires-clause-node : goal.through_tree-requires-clause-node
through_tree-requires-clause-node g c = node_later _ _ _ c.convert_each.ensures.later c.requires.node
