use Rattle.cxx_expr.proofs.NodeKept.{node_held}
use Rattle.cxx_expr.proofs.copies.node_of.Goals as goal

pub copy_held-requires : goal.copy_held-requires
copy_held-requires c = node_held c.args.state.now c.args.number c.node.result.now c.requires c.node.ensures.below c.node.ensures.children
