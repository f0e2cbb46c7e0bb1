use Rattle.std.proofs.Common.{ap, ◌∙◌}
use Rattle.cxx_model.specs.Facts.Declarations.{spelled}
use Rattle.cxx_reading.specs.Classes.{first_class}
use Rattle.cxx_reading.specs.Seen.{declared_in, fact_numbers}
use Rattle.cxx_declare.proofs.Classed.{class_there}
use Rattle.cxx_declare.proofs.Firsts.{in_graph}
use Rattle.cxx_declare.proofs.classes.class_in.Goals as goal

pub returns-clause-is : goal.returns-clause-is
returns-clause-is c =
    let types = c.args.state.now.types in
    c.first_class.ensures types
    ∙ (ap first_class (c.declared_in.ensures.numbered types)
    ∙ in_graph (λ g. first_class (declared_in g c.args.scope.0 (spelled c.args.word.now))) c.args.state.now c.graph-graph.result.now c.graph-graph.ensures.is)

pub returns-clause-there : goal.returns-clause-there
returns-clause-there c = class_there c.args.state.now c.graph-graph.result.now (fact_numbers c.declared_in.result.now) c.first_class.result c.graph-graph.ensures.is c.graph-graph.ensures.fitted c.in_range.ensures (c.first_class.ensures c.args.state.now.types)
