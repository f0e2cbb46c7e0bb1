use Rattle.cxx_expr.proofs.NodeKept.{node_later}
use Rattle.cxx_called.proofs.implied.named_here.Goals as goal

pub named_by-requires-clause-node : goal.named_by-requires-clause-node
named_by-requires-clause-node g c = node_later _ _ _ c.object_of_first.ensures.later c.requires.node
