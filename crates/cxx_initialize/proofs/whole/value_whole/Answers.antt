use Rattle.cxx_expr.proofs.NodeKept.{node_later}
use Rattle.cxx_initialize.proofs.whole.value_whole.Goals as goal

pub as_copy-requires-clause-node : goal.as_copy-requires-clause-node
as_copy-requires-clause-node g c = node_later _ _ _ c.one_of.ensures.later c.requires.node
