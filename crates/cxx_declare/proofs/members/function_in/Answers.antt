use Rattle.cxx_declare.proofs.Firsts.{declared_function_by}
use Rattle.cxx_declare.proofs.members.function_in.Goals as goal

pub returns-clause-earlier : goal.returns-clause-earlier
returns-clause-earlier c = declared_function_by c.args.state.now c.args.of c.graph.result.now c.types.result.now c.args.scope.0 c.args.word.now c.first_function.result c.graph.ensures.is c.types.ensures.is c.first_function.ensures
