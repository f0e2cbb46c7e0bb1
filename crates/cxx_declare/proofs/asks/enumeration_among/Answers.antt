use Rattle.std.proofs.Common.{◌∙◌}
use Rattle.cxx_reading.specs.Declaring.{enumeration_in}
use Rattle.cxx_reading.specs.Seen.{fact_numbers, numbered_at}
use Rattle.cxx_declare.proofs.Asking.{enumeration_there}
use Rattle.cxx_declare.proofs.Firsts.{in_graph}
use Rattle.cxx_declare.proofs.asks.enumeration_among.Goals as goal

pub returns-clause-is : goal.returns-clause-is
returns-clause-is c = c.first_enumeration.ensures c.args.state.now.types ∙ in_graph (λ g. enumeration_in (numbered_at g (fact_numbers c.args.numbers.now))) c.args.state.now c.graph-graph.result.now c.graph-graph.ensures.is

pub returns-clause-there : goal.returns-clause-there
returns-clause-there c = enumeration_there c.args.state.now c.graph-graph.result.now (fact_numbers c.args.numbers.now) c.first_enumeration.result c.graph-graph.ensures.is c.graph-graph.ensures.fitted c.in_range.ensures (c.first_enumeration.ensures c.args.state.now.types)
