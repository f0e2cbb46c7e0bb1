use Rattle.cxx_expr.proofs.Kept.{later_trans}
use Rattle.cxx_expr.proofs.NodeKept.{node_later}
use Rattle.cxx_called.proofs.names.named.Goals as goal

pub named_tree-requires-clause-node : goal.named_tree-requires-clause-node
named_tree-requires-clause-node g c = node_later _ _ _ (later_trans _ _ _ c.meant_by.ensures.later c.bound.ensures.later) c.requires.node
