use Rattle.cxx_expr.proofs.NodeKept.{node_later}
use Rattle.cxx_initialize.proofs.whole.text_over.Goals as goal

pub as_copy-requires-clause-node : goal.as_copy-requires-clause-node
as_copy-requires-clause-node c = node_later _ _ _ c.array_with.ensures.later c.requires.node
