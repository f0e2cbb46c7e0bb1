use Rattle.cxx_expr.proofs.NodeKept.{node_later}
use Rattle.cxx_called.proofs.implied.name.Goals as goal

pub named_here-requires-clause-node : goal.named_here-requires-clause-node
named_here-requires-clause-node g c = node_later _ _ _ c.declared.ensures.later c.requires.node
