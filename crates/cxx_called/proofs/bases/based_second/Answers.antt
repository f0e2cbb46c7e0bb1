use Rattle.cxx_expr.proofs.NodeKept.{node_later}
use Rattle.cxx_called.proofs.bases.based_second.Goals as goal

pub step_to-requires-clause-from : goal.step_to-requires-clause-from
step_to-requires-clause-from g c = c.or_own-from.ensures.below _ c.requires.of c.requires.class

pub member_over-requires-clause-callee : goal.member_over-requires-clause-callee
member_over-requires-clause-callee g c = node_later _ _ _ c.step_to.ensures.later c.requires.callee
