use Rattle.cxx_expr.proofs.Chained.{reply_is, size_is}
use Rattle.cxx_expr.proofs.Kept.{later_trans}
use Rattle.cxx_expr.proofs.NodeKept.{node_later}
use Rattle.cxx_expr.proofs.sizes.size.Goals as goal

pub size_by-requires-clause-node : goal.size_by-requires-clause-node
size_by-requires-clause-node g c = node_later c.args.state.now c.size.new.state c.args.node (later_trans _ _ _ c.measured.ensures.later c.size.ensures.later) c.requires.node

pub returns : goal.returns
returns g c =
    reply_is c.args.state.now c.size.new.state c.size_by.new.state c.size_by.result _ _
    (later_trans _ _ _ c.measured.ensures.later c.size.ensures.later)
    (size_is (g.Q.Questions.asks c.args.questions.now) c.args.state.now c.measured.new.state c.size.new.state c.args.node c.in_ok-of.of c.in_ok-found.found c.measured.ensures.later c.size.ensures.later c.measured.ensures.same c.requires.node c.in_ok-of.ensures.made.0 c.in_ok-of.ensures.made.1 c.in_ok-found.ensures.is.0)
    c.size_by.ensures
