use Rattle.cxx_expr.proofs.NodeKept.{node_later}
use Rattle.cxx_called.proofs.Chosen.{chosen_later}
use Rattle.cxx_called.proofs.calls.filled.Goals as goal

pub converted-requires-clause-node : goal.converted-requires-clause-node
converted-requires-clause-node g c = node_later _ _ _ c.left_out.ensures.later c.requires.node

pub converted-requires-clause-chosen : goal.converted-requires-clause-chosen
converted-requires-clause-chosen g c = chosen_later _ _ _ c.left_out.ensures.later c.requires.chosen
