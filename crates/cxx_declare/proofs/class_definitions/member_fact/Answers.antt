use Rattle.std.proofs.Common.{◌∙◌, ap}
use Rattle.cxx_declare.specs.ClassDefinitions.{member_here}
use Rattle.cxx_declare.specs.Made.{token}
use Rattle.cxx_tree.specs.Held.{meaning, type_of}
use Rattle.cxx_declare.proofs.class_definitions.member_fact.Goals as goal

pub returns-clause-is : goal.returns-clause-is
returns-clause-is c = λ kind. c.in_ok-member_with.ensures.is kind ∙ ap (member_here (meaning c.args.state.now) c.args.words (token kind c.args.place c.args.word.now) (type_of c.args.state.now c.args.of)) c.in_ok-defaults.ensures
