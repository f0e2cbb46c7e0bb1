use Rattle.cxx_expr.proofs.NodeKept.{node_later}
use Rattle.cxx_called.proofs.calls.implied_callee.Goals as goal

pub selected_callee-requires-clause-name : goal.selected_callee-requires-clause-name
selected_callee-requires-clause-name c = node_later _ _ _ c.object_tree.ensures.later c.requires.name
