use Rattle.cxx_tree.proofs.Keeping.{scope_set}
use Rattle.cxx_tree.proofs.state.State.set_scope.Goals as goal

pub returns-clause-is : goal.returns-clause-is
returns-clause-is c = scope_set _ _ c.args.scope c.self.view_is
