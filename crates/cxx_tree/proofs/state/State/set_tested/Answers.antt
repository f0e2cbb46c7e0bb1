use Rattle.cxx_tree.proofs.Keeping.{tested_set}
use Rattle.cxx_tree.proofs.state.State.set_tested.Goals as goal

pub returns-clause-is : goal.returns-clause-is
returns-clause-is c = tested_set _ _ c.args.number c.self.view_is
