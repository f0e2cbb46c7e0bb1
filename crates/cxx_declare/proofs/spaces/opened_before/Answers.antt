use Rattle.std.proofs.Common.{◌∙◌}
use Rattle.cxx_model.specs.Facts.Declarations.{spelled}
use Rattle.cxx_reading.specs.Spaces.{opened_before}
use Rattle.cxx_declare.proofs.Firsts.{in_scope}
use Rattle.cxx_declare.proofs.Spacing.{opened_there}
use Rattle.cxx_declare.proofs.spaces.opened_before.Goals as goal

pub returns-clause-is : goal.returns-clause-is
returns-clause-is c = c.opened_before.ensures c.args.state.now.types ∙ in_scope (λ g s. opened_before g s (spelled c.args.word.now)) c.args.state.now c.graph-graph.result.now c.scope.result c.graph-graph.ensures.is c.scope.ensures.is

pub returns-clause-there : goal.returns-clause-there
returns-clause-there c =
    opened_there c.args.state.now c.graph-graph.result.now c.args.word.now c.opened_before.result c.graph-graph.ensures.is c.in_range.ensures
    (c.opened_before.ensures c.args.state.now.types ∙ in_scope (λ g s. opened_before g s (spelled c.args.word.now)) c.args.state.now c.graph-graph.result.now c.scope.result c.graph-graph.ensures.is c.scope.ensures.is)
