use Rattle.cxx_called.proofs.Chosen.{chosen_later}
use Rattle.cxx_called.proofs.calls.chosen_call.Goals as goal

pub filled-requires-clause-chosen : goal.filled-requires-clause-chosen
filled-requires-clause-chosen g c = chosen_later _ _ _ c.bound.ensures.later c.requires.chosen
