use Rattle.cxx_expr.proofs.NodeKept.{node_later}
use Rattle.cxx_called.proofs.members.static_member.Goals as goal

pub static_from-requires-clause-node : goal.static_from-requires-clause-node
static_from-requires-clause-node c = node_later _ _ _ c.declaring.ensures.later c.requires.node
