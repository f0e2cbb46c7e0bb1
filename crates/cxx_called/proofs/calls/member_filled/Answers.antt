use Rattle.cxx_called.proofs.Chosen.{chosen_later}
use Rattle.cxx_called.proofs.calls.member_filled.Goals as goal

pub member_based-requires-clause-chosen : goal.member_based-requires-clause-chosen
member_based-requires-clause-chosen g c = chosen_later _ _ _ c.fallbacks.ensures.later c.requires.chosen
