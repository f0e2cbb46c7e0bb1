use Rattle.cxx_expr.proofs.Kept.{later_trans}
use Rattle.cxx_expr.proofs.NodeKept.{node_later}
use Rattle.cxx_expr.proofs.operators.step_built.Goals as goal

pub built_by-requires-clause-node : goal.built_by-requires-clause-node
built_by-requires-clause-node g c = node_later _ _ _ (later_trans _ _ _ c.operand_of.ensures.later c.int_operand.ensures.later) c.requires.node
