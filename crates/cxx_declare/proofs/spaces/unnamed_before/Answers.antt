use Rattle.std.proofs.Common.{◌∙◌}
use Rattle.cxx_reading.specs.Spaces.{unnamed_before}
use Rattle.cxx_declare.proofs.Firsts.{in_scope}
use Rattle.cxx_declare.proofs.Spacing.{unnamed_there}
use Rattle.cxx_declare.proofs.spaces.unnamed_before.Goals as goal

pub returns-clause-is : goal.returns-clause-is
returns-clause-is c = c.unnamed_before.ensures c.args.state.now.types ∙ in_scope unnamed_before c.args.state.now c.graph-graph.result.now c.scope.result c.graph-graph.ensures.is c.scope.ensures.is

pub returns-clause-there : goal.returns-clause-there
returns-clause-there c =
    unnamed_there c.args.state.now c.graph-graph.result.now c.unnamed_before.result c.graph-graph.ensures.is c.in_range.ensures
    (c.unnamed_before.ensures c.args.state.now.types ∙ in_scope unnamed_before c.args.state.now c.graph-graph.result.now c.scope.result c.graph-graph.ensures.is c.scope.ensures.is)
