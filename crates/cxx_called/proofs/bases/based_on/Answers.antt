use Rattle.cxx_expr.proofs.NodeKept.{node_later}
use Rattle.cxx_called.proofs.bases.based_on.Goals as goal

pub based_second-requires-clause-callee : goal.based_second-requires-clause-callee
based_second-requires-clause-callee g c = node_later _ _ _ c.step_to.ensures.later c.requires.callee
