use Rattle.std.proofs.Common.{ap, ◌∙◌}
use Rattle.cxx_reading.specs.Trees.{last_part}
use Rattle.cxx_tree.specs.Arena.{path_at, path_parts_at}
use Rattle.cxx_declare.proofs.Bringing.{inside_brought, inside_there}
use Rattle.cxx_declare.proofs.usings.brought_from.Goals as goal

pub returns-clause-is : goal.returns-clause-is
returns-clause-is c = inside_brought c.args.state.now c.graph-graph.result.now c.types.result.now c.args.space c.last_word.result.now (last_part (path_at c.args.path.now).parts) c.brought.result c.graph-graph.ensures.is c.types.ensures.is (c.last_word.ensures ∙ ap (λ parts. (last_part (path_parts_at parts)).word) c.as_slice.ensures) c.brought.ensures

pub returns-clause-there : goal.returns-clause-there
returns-clause-there c = inside_there c.args.state.now c.graph-graph.result.now c.types.result.now c.args.space c.last_word.result.now c.brought.result c.graph-graph.ensures.is c.in_range.ensures c.brought.ensures
