use Rattle.cxx_expr.proofs.NodeKept.{node_later}
use Rattle.cxx_called.proofs.members.enumerator_member.Goals as goal

pub enumerator_from-requires-clause-node : goal.enumerator_from-requires-clause-node
enumerator_from-requires-clause-node c = node_later _ _ _ c.declaring.ensures.later c.requires.node
