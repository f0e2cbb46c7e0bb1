use Rattle.cxx_expr.proofs.Chained.{grows_later, spelled_is}
use Rattle.cxx_expr.proofs.NodeKept.{node_later}
use Rattle.cxx_expr.proofs.sizes.size_tree.Goals as goal

pub spelled_as-requires-clause-node : goal.spelled_as-requires-clause-node
spelled_as-requires-clause-node c = node_later c.args.state.now c.size_operand.new.state c.args.node c.size_operand.ensures.later c.requires

pub returns : goal.returns
returns c =
    grows_later c.args.state.now c.size_operand.new.state c.spelled_as.new.state c.spelled_as.result _ _ c.size_operand.ensures.later c.size_operand.ensures.same
    (spelled_is c.args.state.now c.size_operand.new.state c.args.node c.in_ok-text.text _ c.in_ok-operand.operand _ c.size_operand.ensures.later c.requires c.in_ok-text.ensures c.in_ok-operand.ensures.made.1)
    c.spelled_as.ensures
