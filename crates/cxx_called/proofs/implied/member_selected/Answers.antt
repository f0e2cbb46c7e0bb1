use Rattle.cxx_expr.proofs.NodeKept.{node_later}
use Rattle.cxx_called.proofs.Judged.{facts_known}
use Rattle.cxx_called.proofs.implied.member_selected.Goals as goal

pub selected_among-requires-clause-node : goal.selected_among-requires-clause-node
selected_among-requires-clause-node g c = c.in_ok-member.ensures.held _ (node_later _ _ _ c.object_tree.ensures.later c.requires.node)

pub selected_among-requires-clause-all : goal.selected_among-requires-clause-all
selected_among-requires-clause-all g c = facts_known _ _ _ c.object_tree.ensures.same c.requires.all
