use Rattle.cxx_expr.proofs.NodeKept.{node_later}
use Rattle.cxx_expr.proofs.casts.functional.Goals as goal

pub functional_to-requires-clause-node : goal.functional_to-requires-clause-node
functional_to-requires-clause-node g c = node_later c.args.state.now c.target_of.new.state c.args.node c.target_of.ensures.later c.requires.node
