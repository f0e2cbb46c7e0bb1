use Rattle.cxx_expr.proofs.NodeKept.{node_held}
use Rattle.cxx_initialize.proofs.written.only_part.Goals as goal

pub only_child-requires : goal.only_child-requires
only_child-requires c = node_held c.args.state.now c.args.number c.node.result.now c.requires c.node.ensures.below c.node.ensures.children
