use Rattle.cxx_model.proofs.TypeTrees.{arguments_normal}
use Rattle.cxx_types.proofs.Proper.{arguments-proper}
use Rattle.cxx_types.proofs.table.TypeTable.specialisation.Goals as goal

pub insert-requires-clause-normal : goal.insert-requires-clause-normal
insert-requires-clause-normal c = λ each. arguments_normal c.args.self.now c.args.arguments each c.requires.below

pub insert-requires-clause-proper : goal.insert-requires-clause-proper
insert-requires-clause-proper c = λ each. (c.requires.depends, arguments-proper c.args.self.now c.args.arguments each c.requires.below)
