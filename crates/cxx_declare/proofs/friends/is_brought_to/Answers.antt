use Rattle.std.proofs.Common.{ap, ◌∙◌}
use Rattle.cxx_model.specs.Facts.Declarations.{spelled}
use Rattle.cxx_reading.specs.Seen.{declared_in}
use Rattle.cxx_declare.specs.Friends.{any_brings}
use Rattle.cxx_declare.proofs.Firsts.{in_graph}
use Rattle.cxx_declare.proofs.friends.is_brought_to.Goals as goal

pub returns : goal.returns
returns c =
    let types = c.args.state.now.types in
    c.any_brings.ensures types
    ∙ (ap (any_brings c.args.number.0) (c.declared_in.ensures.numbered types)
    ∙ in_graph (λ g. any_brings c.args.number.0 (declared_in g c.args.home.0 (spelled c.args.word.now))) c.args.state.now c.graph-graph.result.now c.graph-graph.ensures.is)
