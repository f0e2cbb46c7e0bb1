use Rattle.cxx_called.proofs.Chosen.{chosen_later}
use Rattle.cxx_called.proofs.calls.chosen_in.Goals as goal

pub chosen_tree-requires-clause-chosen : goal.chosen_tree-requires-clause-chosen
chosen_tree-requires-clause-chosen c = chosen_later _ _ _ c.type_of_class.ensures.later c.requires.chosen
