use Rattle.std.proofs.Common.{subst}
use Rattle.cxx_expr.proofs.Kept.{later_trans}
use Rattle.cxx_expr.proofs.NodeKept.{node_later}
use Rattle.cxx_expr.specs.Nodes.{IsNodeHeld, node_tree}
use Rattle.cxx_tree.specs.Answered.{Replies}
use Rattle.cxx_called.proofs.Based.{based_same}
use Rattle.cxx_called.proofs.bases.based.Goals as goal

pub based_to-requires-clause-callee : goal.based_to-requires-clause-callee
based_to-requires-clause-callee g c = node_later _ _ _ c.declaring.ensures.later c.requires.callee

pub returns : goal.returns
returns g c = record {
  is = subst (λ r. Replies node_tree IsNodeHeld c.based_to.new.state c.based_to.result r) (based_same (g.Q.Questions.asks c.args.questions.now) c.args.state.now c.declaring.new.state c.args.callee c.args.of c.args.class c.in_ok-declared.declared c.args.target.0 c.declaring.ensures.later c.declaring.ensures.same c.requires.callee c.requires.of c.requires.class c.in_ok-declared.ensures.made.1) c.based_to.ensures.is;
  later = later_trans _ _ _ c.declaring.ensures.later c.based_to.ensures.later;
}
