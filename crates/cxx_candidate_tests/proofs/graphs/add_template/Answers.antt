use Rattle.cxx_candidate_tests.proofs.Growing.{template_fitted}
use Rattle.cxx_candidate_tests.proofs.graphs.add_template.Goals as goal

pub returns-clause-fitted : goal.returns-clause-fitted
returns-clause-fitted c = template_fitted c.args.graph.now c.add_template.new.self c.args.types.now c.pattern.result c.args.class c.in_ok-add_template.ensures.added c.pattern.ensures c.requires.fitted
