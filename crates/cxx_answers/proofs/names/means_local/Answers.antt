use Rattle.cxx_answers.proofs.Found.{local_meant}
use Rattle.cxx_answers.proofs.names.means_local.Goals as goal

pub returns : goal.returns
returns c = local_meant c.args.state.now c.graph.result.now c.args.numbers.now c.names_local.result c.graph.ensures.is c.names_local.ensures
