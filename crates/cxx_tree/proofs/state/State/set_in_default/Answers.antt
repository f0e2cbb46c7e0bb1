use Rattle.cxx_tree.proofs.Keeping.{default_set}
use Rattle.cxx_tree.proofs.state.State.set_in_default.Goals as goal

pub returns-clause-is : goal.returns-clause-is
returns-clause-is c = default_set _ _ c.args.inside c.self.view_is
