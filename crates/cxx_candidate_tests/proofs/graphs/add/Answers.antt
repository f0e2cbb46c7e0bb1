use Rattle.cxx_candidate_tests.proofs.Growing.{declared_in_range, fact_fitted, scopes_grown, scopes_more}
use Rattle.cxx_candidate_tests.proofs.graphs.add.Goals as goal

pub add-requires : goal.add-requires
add-requires c = declared_in_range c.args.graph.now c.args.fact c.in_range.ensures c.requires.scope c.requires.names

pub returns-clause-fitted : goal.returns-clause-fitted
returns-clause-fitted c = fact_fitted c.args.graph.now c.add.new.self c.args.types.now c.args.fact c.in_ok-add.ensures.appended c.requires.fitted c.requires.below

pub returns-clause-grown : goal.returns-clause-grown
returns-clause-grown c = scopes_grown c.args.graph.now c.add.new.self c.args.fact c.in_ok-add.ensures.appended

pub returns-clause-more : goal.returns-clause-more
returns-clause-more c = scopes_more c.args.graph.now c.add.new.self c.args.fact c.in_ok-add.ensures.appended
