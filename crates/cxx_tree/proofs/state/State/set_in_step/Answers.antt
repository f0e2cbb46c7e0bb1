use Rattle.cxx_tree.proofs.Keeping.{step_set}
use Rattle.cxx_tree.proofs.state.State.set_in_step.Goals as goal

pub returns-clause-is : goal.returns-clause-is
returns-clause-is c = step_set _ _ c.args.inside c.self.view_is
