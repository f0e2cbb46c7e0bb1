use Rattle.std.proofs.Common.{◌∙◌, ap, length}
use Rattle.cxx_model.specs.Facts.Graph.{Graph}
use Rattle.cxx_form.proofs.Lined.{class_definition_is}
use Rattle.cxx_form.proofs.lines.class_definition.Goals as goal

pub returns-clause-is : goal.returns-clause-is
returns-clause-is c =
    class_definition_is c.args.state.now c.args.places.now c.args.scope.0 c.args.ended c.in-Some.class c.length-count.result c.declaration-number.result.0 c.in-Some.is c.requires
    (c.length-count.ensures.count ∙ ap (λ (graph : Graph). length graph.facts) c.graph.ensures.is) c.declaration-number.ensures
