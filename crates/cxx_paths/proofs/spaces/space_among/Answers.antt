use Rattle.std.proofs.Common.{◌∙◌}
use Rattle.cxx_reading.specs.Paths.{first_space}
use Rattle.cxx_reading.specs.Seen.{fact_numbers, numbered_at}
use Rattle.cxx_paths.proofs.Spaced.{found_there, in_graph}
use Rattle.cxx_paths.proofs.spaces.space_among.Goals as goal

pub returns-clause-is : goal.returns-clause-is
returns-clause-is c = c.first_space.ensures c.args.state.now.types ∙ in_graph (λ g. first_space (numbered_at g (fact_numbers c.args.numbers.now))) c.args.state.now c.graph-graph.result.now c.graph-graph.ensures.is

pub returns-clause-there : goal.returns-clause-there
returns-clause-there c =
    found_there c.args.state.now c.graph-graph.result.now (fact_numbers c.args.numbers.now) c.first_space.result c.graph-graph.ensures.is c.in_range.ensures
    (c.first_space.ensures c.args.state.now.types ∙ in_graph (λ g. first_space (numbered_at g (fact_numbers c.args.numbers.now))) c.args.state.now c.graph-graph.result.now c.graph-graph.ensures.is)
