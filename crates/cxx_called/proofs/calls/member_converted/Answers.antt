use Rattle.cxx_expr.proofs.NodeKept.{node_later}
use Rattle.cxx_called.proofs.Chosen.{chosen_later}
use Rattle.cxx_called.proofs.calls.member_converted.Goals as goal

pub member_call_tree-requires-clause-node : goal.member_call_tree-requires-clause-node
member_call_tree-requires-clause-node g c = node_later _ _ _ c.convert_each.ensures.later c.requires.node

pub member_call_tree-requires-clause-chosen : goal.member_call_tree-requires-clause-chosen
member_call_tree-requires-clause-chosen g c = chosen_later _ _ _ c.convert_each.ensures.later c.requires.chosen
