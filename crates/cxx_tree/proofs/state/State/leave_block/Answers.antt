use Rattle.cxx_tree.proofs.Wholes.{block_left}
use Rattle.cxx_tree.proofs.state.State.leave_block.Goals as goal

pub returns-clause-is : goal.returns-clause-is
returns-clause-is c = block_left _ _ c.leave_scope.ensures.is
