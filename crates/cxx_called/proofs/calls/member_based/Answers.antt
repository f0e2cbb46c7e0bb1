use Rattle.cxx_called.proofs.Chosen.{chosen_later}
use Rattle.cxx_called.proofs.calls.member_based.Goals as goal

pub member_meant-requires-clause-chosen : goal.member_meant-requires-clause-chosen
member_meant-requires-clause-chosen g c = chosen_later _ _ _ c.based.ensures.later c.requires.chosen
