use Rattle.cxx_reading.specs.Seen.{fact_numbers}
use Rattle.cxx_paths.proofs.Classed.{class_there}
use Rattle.cxx_paths.proofs.classes.first_class.Goals as goal

pub returns-clause-there : goal.returns-clause-there
returns-clause-there c = class_there c.args.state.now c.graph-graph.result.now c.types.result.now (fact_numbers c.args.numbers.now) c.first_meant.result c.graph-graph.ensures.is c.types.ensures.is c.graph-graph.ensures.fitted c.in_range.ensures c.first_meant.ensures
