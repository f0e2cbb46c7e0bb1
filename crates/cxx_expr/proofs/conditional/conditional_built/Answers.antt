use Rattle.cxx_expr.proofs.Kept.{later_trans}
use Rattle.cxx_expr.proofs.NodeKept.{node_later}
use Rattle.cxx_expr.proofs.conditional.conditional_built.Goals as goal

pub arms-requires-clause-node : goal.arms-requires-clause-node
arms-requires-clause-node g c = node_later _ _ _ (later_trans _ _ _ c.bool_type.ensures.later c.convert.ensures.later) c.requires.node
