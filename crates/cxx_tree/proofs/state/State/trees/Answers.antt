use Rattle.cxx_tree.proofs.Keeping.{trees_counted}
use Rattle.cxx_tree.proofs.state.State.trees.Goals as goal

pub returns-clause-count : goal.returns-clause-count
returns-clause-count c = trees_counted _ _ c.self.view_is
