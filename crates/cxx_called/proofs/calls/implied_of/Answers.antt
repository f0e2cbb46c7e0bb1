use Rattle.cxx_called.proofs.Chosen.{chosen_later}
use Rattle.cxx_called.proofs.calls.implied_of.Goals as goal

pub implied_behind-requires-clause-chosen : goal.implied_behind-requires-clause-chosen
implied_behind-requires-clause-chosen g c = chosen_later _ _ _ c.qualified.ensures.later c.requires.chosen
