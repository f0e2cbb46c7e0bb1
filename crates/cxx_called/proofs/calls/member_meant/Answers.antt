use Rattle.cxx_called.proofs.Chosen.{chosen_later}
use Rattle.cxx_called.proofs.calls.member_meant.Goals as goal

pub member_converted-requires-clause-chosen : goal.member_converted-requires-clause-chosen
member_converted-requires-clause-chosen g c = chosen_later _ _ _ c.callee_as.ensures.later c.requires.chosen
