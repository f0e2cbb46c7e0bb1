use Rattle.cxx_declare.proofs.Firsts.{linked_function_by}
use Rattle.cxx_declare.proofs.members.linked_function.Goals as goal

pub returns-clause-earlier : goal.returns-clause-earlier
returns-clause-earlier c = linked_function_by c.args.state.now c.args.of c.graph.result.now c.types.result.now c.as_slice.result.now c.in_ok-numbers.numbers c.args.space.0 c.args.word.now c.first_function.result c.graph.ensures.is c.types.ensures.is c.as_slice.ensures c.in_ok-numbers.ensures.numbered c.first_function.ensures
