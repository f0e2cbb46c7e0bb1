use Rattle.cxx_names.proofs.Sampling.{first_of_row}
use Rattle.cxx_names.proofs.names.Names.representatives_in.Goals as goal

pub returns : goal.returns
returns c = λ types new. first_of_row types c.args.graph.now new c.args.self.now c.args.scope c.args.word.now c.met_as.result.number c.row_in.result.now c.requires c.met_as.ensures c.row_in.ensures
