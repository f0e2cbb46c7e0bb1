use Rattle.cxx_tree.proofs.Wholes.{space_closed}
use Rattle.cxx_tree.proofs.state.State.close_space.Goals as goal

pub returns-clause-is : goal.returns-clause-is
returns-clause-is c = space_closed _ _ c.leave_scope.ensures.is
