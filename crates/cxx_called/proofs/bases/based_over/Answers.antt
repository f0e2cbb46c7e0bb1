use Rattle.cxx_expr.proofs.NodeKept.{node_later}
use Rattle.cxx_called.proofs.bases.based_over.Goals as goal

pub based_on-requires-clause-callee : goal.based_on-requires-clause-callee
based_on-requires-clause-callee g c = node_later _ _ _ c.object_called.ensures.later c.requires.callee
