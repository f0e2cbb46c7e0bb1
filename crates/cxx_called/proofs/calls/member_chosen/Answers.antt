use Rattle.cxx_called.proofs.Chosen.{chosen_later}
use Rattle.cxx_called.proofs.calls.member_chosen.Goals as goal

pub member_filled-requires-clause-chosen : goal.member_filled-requires-clause-chosen
member_filled-requires-clause-chosen g c = chosen_later _ _ _ c.bound.ensures.later c.requires.chosen
