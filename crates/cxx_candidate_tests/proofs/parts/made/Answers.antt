use Rattle.cxx_candidate_tests.proofs.Growing.{number_known, part_fitted}
use Rattle.cxx_candidate_tests.proofs.parts.made.Goals as goal

pub returns-clause-fitted : goal.returns-clause-fitted
returns-clause-fitted c = part_fitted c.args.graph.now _ _ c.make.result c.args.part c.requires.fitted c.requires.known c.make.ensures

pub returns-clause-known : goal.returns-clause-known
returns-clause-known c = number_known _ c.make.result _ c.make.ensures.made
