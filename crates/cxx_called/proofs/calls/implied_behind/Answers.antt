use Rattle.cxx_expr.proofs.NodeKept.{node_later}
use Rattle.cxx_called.proofs.Called.{implied_behind_is}
use Rattle.cxx_called.proofs.Chosen.{chosen_later}
use Rattle.cxx_called.proofs.calls.implied_behind.Goals as goal

pub implied_callee-requires-clause-name : goal.implied_callee-requires-clause-name
implied_callee-requires-clause-name g c = c.apart-name.ensures.name_held c.args.state.now c.requires.node

pub member_chosen-requires-clause-node : goal.member_chosen-requires-clause-node
member_chosen-requires-clause-node g c = node_later _ _ _ c.implied_callee.ensures.later (c.apart-name.ensures.call_held c.args.state.now c.requires.node)

pub member_chosen-requires-clause-chosen : goal.member_chosen-requires-clause-chosen
member_chosen-requires-clause-chosen g c = chosen_later _ _ _ c.implied_callee.ensures.later c.requires.chosen

pub returns : goal.returns
returns g c = implied_behind_is (g.Q.Questions.asks c.args.questions.now) c.args.state.now c.implied_callee.new.state c.member_chosen.new.state c.args.node c.apart-name.result.0 c.apart-name.result.1 c.in_ok-callee.callee c.args.arguments.now c.args.of c.args.class c.args.chosen c.behind_called-last.result c.member_chosen.result c.in_ok-callee.ensures.later c.in_ok-callee.ensures.same (c.apart-name.ensures.call_held c.args.state.now c.requires.node) c.requires.arguments c.requires.of c.requires.class c.requires.chosen (c.apart-name.ensures.name c.args.state.now) c.behind_called-last.ensures (c.apart-name.ensures.call c.args.state.now) c.in_ok-callee.ensures.made.1 c.member_chosen.ensures
