use Rattle.cxx_syntax.proofs.Longer.{parameter_more}
use Rattle.cxx_syntax.proofs.parameters.parameter_added.Goals as goal

pub returns : goal.returns
returns c = parameter_more c.args.state.now c.parameter_tree.new.state c.args.end.now c.args.of c.in_ok-tree.tree _ c.args.so_far c.with_parameter.result c.parameter_tree.ensures.later c.parameter_tree.ensures.same c.requires.known c.requires.list c.in_ok-tree.ensures.made.0 c.in_ok-tree.ensures.made.1 c.with_parameter.ensures.is c.with_parameter.ensures.memory
