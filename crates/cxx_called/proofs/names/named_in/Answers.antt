use Rattle.cxx_expr.proofs.NodeKept.{node_later}
use Rattle.cxx_called.proofs.names.named_in.Goals as goal

pub named_of-requires-clause-node : goal.named_of-requires-clause-node
named_of-requires-clause-node c = node_later _ _ _ c.type_of_class.ensures.later c.requires.node
