use Rattle.cxx_candidate_tests.proofs.Growing.{reserved_fitted}
use Rattle.cxx_candidate_tests.proofs.graphs.reserve.Goals as goal

pub returns-clause-fitted : goal.returns-clause-fitted
returns-clause-fitted c =
    let said = c.in_ok-reserve_class.ensures in
    reserved_fitted c.args.graph.now c.reserve_class-2.new.self c.args.types.now c.args.template c.new.result c.in_ok-reserve_class.field-0.0 c.requires.fitted c.new.ensures said.is said.kept said.fresh said.at_most_one
