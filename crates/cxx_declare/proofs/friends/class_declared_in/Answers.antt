use Rattle.std.proofs.Common.{ap, subst, ◌∙◌}
use Rattle.std.specs.Prelude.{◌<◌, IfSome, length}
use Rattle.cxx_model.specs.Facts.Declarations.{spelled}
use Rattle.cxx_model.specs.Facts.Graph.{Graph}
use Rattle.cxx_reading.specs.Seen.{declared_in}
use Rattle.cxx_declare.specs.Friends.{class_number}
use Rattle.cxx_declare.proofs.Firsts.{in_graph}
use Rattle.cxx_declare.proofs.friends.class_declared_in.Goals as goal

pub returns-clause-is : goal.returns-clause-is
returns-clause-is c =
    let types = c.args.state.now.types in
    c.class_number.ensures.is types
    ∙ (ap class_number (c.declared_in.ensures.numbered types)
    ∙ in_graph (λ g. class_number (declared_in g c.args.scope.0 (spelled c.args.word.now))) c.args.state.now c.graph-graph.result.now c.graph-graph.ensures.is)

pub returns-clause-there : goal.returns-clause-there
returns-clause-there c = subst (λ (g : Graph). IfSome c.class_number.result (λ number. number.0 < length g.facts)) c.graph-graph.ensures.is c.class_number.ensures.there
