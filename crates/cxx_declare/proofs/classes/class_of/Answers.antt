use Rattle.std.proofs.Common.{◌∙◌}
use Rattle.cxx_reading.specs.Classes.{first_class}
use Rattle.cxx_reading.specs.Seen.{fact_numbers, numbered_at}
use Rattle.cxx_declare.proofs.Classed.{class_there}
use Rattle.cxx_declare.proofs.Firsts.{in_graph}
use Rattle.cxx_declare.proofs.classes.class_of.Goals as goal

pub returns-clause-is : goal.returns-clause-is
returns-clause-is c = c.first_class.ensures c.args.state.now.types ∙ in_graph (λ g. first_class (numbered_at g (fact_numbers c.args.numbers.now))) c.args.state.now c.graph-graph.result.now c.graph-graph.ensures.is

pub returns-clause-there : goal.returns-clause-there
returns-clause-there c = class_there c.args.state.now c.graph-graph.result.now (fact_numbers c.args.numbers.now) c.first_class.result c.graph-graph.ensures.is c.graph-graph.ensures.fitted c.in_range.ensures (c.first_class.ensures c.args.state.now.types)
