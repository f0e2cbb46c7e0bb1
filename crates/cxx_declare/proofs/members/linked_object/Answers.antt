use Rattle.std.proofs.Common.{◌∙◌}
use Rattle.cxx_model.specs.Facts.Declarations.{spelled}
use Rattle.cxx_reading.specs.Declaring.{first_object}
use Rattle.cxx_reading.specs.Linked.{linked_in}
use Rattle.cxx_tree.specs.Held.{meaning}
use Rattle.cxx_declare.proofs.Firsts.{found_in, linked_object}
use Rattle.cxx_declare.proofs.members.linked_object.Goals as goal

pub returns-clause-earlier : goal.returns-clause-earlier
returns-clause-earlier c =
    linked_object c.args.state.now c.args.space.0 c.args.word.now c.first_object.result
    (c.first_object.ensures c.args.state.now.types ∙ found_in first_object c.args.state.now c.graph.result.now c.as_slice.result.now c.in_ok-numbers.numbers (linked_in (meaning c.args.state.now) c.args.space.0 (spelled c.args.word.now)) c.graph.ensures.is c.as_slice.ensures c.in_ok-numbers.ensures.numbered)
