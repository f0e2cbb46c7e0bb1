use Rattle.cxx_model.specs.Facts.Declarations.{graph_at}
use Rattle.cxx_computed.specs.Computes.{constants_at}
use Rattle.cxx_computed.proofs.Ranged.{two_ranged, three_ranged}
use Rattle.cxx_computed.proofs.formulas.+constant_of.Goals as goal

pub returns-in-Binary-clause-range : goal.returns-in-Binary-clause-range
returns-in-Binary-clause-range t c =
    let types = c.args.types.now in
    two_ranged c.args.graph.now types c.two_constants.result (graph_at types c.args.graph.now) c.in-Binary.number (constants_at types c.constant_of-left.result) (constants_at types c.constant_of-right.result) c.two_constants.ensures

pub returns-in-Conditional-clause-range : goal.returns-in-Conditional-clause-range
returns-in-Conditional-clause-range t c =
    let types = c.args.types.now in
    three_ranged c.args.graph.now types c.three_constants.result c.constant_of-left-in-Conditional.result (graph_at types c.args.graph.now) (constants_at types c.constant_of-test.result) (constants_at types c.constant_of-right-in-Conditional.result) c.constant_of-left-in-Conditional.ensures.range c.three_constants.ensures
