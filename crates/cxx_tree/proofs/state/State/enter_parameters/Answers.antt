use Rattle.cxx_tree.proofs.Wholes.{parameters_entered}
use Rattle.cxx_tree.proofs.state.State.enter_parameters.Goals as goal

pub returns : goal.returns
returns c = parameters_entered _ _ c.enter_scope.result c.enter_scope.ensures
