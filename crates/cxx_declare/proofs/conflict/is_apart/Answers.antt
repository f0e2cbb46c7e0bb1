use Rattle.std.proofs.Common.{ap, ◌∙◌, ◌&&◌, not}
use Rattle.std.specs.List.{slice_get}
use Rattle.cxx_model.specs.Facts.Graph.{Graph}
use Rattle.cxx_model.specs.Types.Same.{same_bool}
use Rattle.cxx_declare.specs.Made.{is_object_there}
use Rattle.cxx_declare.proofs.Clashing.{apart_is}
use Rattle.cxx_declare.proofs.conflict.is_apart.Goals as goal

pub returns : goal.returns
returns c =
    apart_is c.args.state.now c.args.linked c.args.number.0 c.is_apart_by.result
    (c.is_apart_by.ensures
    ∙ ap (λ b. b && not (same_bool c.args.linked c.is_linked.result)) (c.is_object_at-object.ensures c.args.state.now.types ∙ ap (λ (g : Graph). is_object_there c.args.state.now.types (slice_get g.facts c.args.number.0)) c.graph.ensures.is)
    ∙ ap (λ b. is_object_there c.args.state.now.types (slice_get c.args.state.now.graph.facts c.args.number.0) && not (same_bool c.args.linked b)) c.is_linked.ensures)
