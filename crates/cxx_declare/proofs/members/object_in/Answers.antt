use Rattle.std.proofs.Common.{◌∙◌}
use Rattle.cxx_model.specs.Facts.Declarations.{spelled}
use Rattle.cxx_reading.specs.Declaring.{first_object}
use Rattle.cxx_reading.specs.Seen.{declared_in}
use Rattle.cxx_declare.proofs.Firsts.{declared_object, in_graph}
use Rattle.cxx_declare.proofs.members.object_in.Goals as goal

pub returns-clause-earlier : goal.returns-clause-earlier
returns-clause-earlier c =
    declared_object c.args.state.now c.args.scope.0 c.args.word.now c.first_object.result
    (c.first_object.ensures c.args.state.now.types ∙ in_graph (λ g. first_object (declared_in g c.args.scope.0 (spelled c.args.word.now))) c.args.state.now c.graph.result.now c.graph.ensures.is)
