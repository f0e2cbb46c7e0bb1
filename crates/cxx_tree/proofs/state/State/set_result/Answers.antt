use Rattle.cxx_tree.proofs.Keeping.{result_set}
use Rattle.cxx_tree.proofs.state.State.set_result.Goals as goal

pub returns-clause-is : goal.returns-clause-is
returns-clause-is c = result_set _ _ c.args.of c.self.view_is
