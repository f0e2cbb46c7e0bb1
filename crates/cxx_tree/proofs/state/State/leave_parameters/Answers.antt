use Rattle.cxx_tree.proofs.Wholes.{parameters_left}
use Rattle.cxx_tree.proofs.state.State.leave_parameters.Goals as goal

pub returns-clause-is : goal.returns-clause-is
returns-clause-is c = parameters_left _ _ c.leave_scope.ensures.is
