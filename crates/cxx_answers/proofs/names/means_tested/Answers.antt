use Rattle.cxx_answers.proofs.Found.{tested_meant}
use Rattle.cxx_answers.proofs.names.means_tested.Goals as goal

pub returns : goal.returns
returns c = tested_meant c.args.state.now c.graph.result.now c.tested.result c.scope.result c.args.numbers.now c.names_tested.result c.graph.ensures.is c.tested.ensures c.scope.ensures.is c.names_tested.ensures
