use Rattle.cxx_expr.proofs.NodeKept.{node_later}
use Rattle.cxx_called.proofs.Chosen.{chosen_later}
use Rattle.cxx_called.proofs.calls.converted.Goals as goal

pub chosen_as-requires-clause-node : goal.chosen_as-requires-clause-node
chosen_as-requires-clause-node g c = node_later _ _ _ c.convert_each.ensures.later c.requires.node

pub chosen_as-requires-clause-chosen : goal.chosen_as-requires-clause-chosen
chosen_as-requires-clause-chosen g c = chosen_later _ _ _ c.convert_each.ensures.later c.requires.chosen
