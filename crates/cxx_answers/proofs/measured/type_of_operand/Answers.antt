use Rattle.std.proofs.Common.{arith, refl}
use Rattle.cxx_model.specs.Facts.Here.{cut_of}
use Rattle.cxx_tree.specs.Held.{meaning}
use Rattle.cxx_answers.proofs.Opened.{first_grows, none_grows}
use Rattle.cxx_answers.proofs.measured.type_of_operand.Goals as goal

pub returns-in-empty : goal.returns-in-empty
returns-in-empty c = none_grows c.args.state.now c.plain_type.new.state c.args.operands.now c.plain_type.result (meaning c.args.state.now).graph.facts (cut_of (meaning c.args.state.now).graph.facts (meaning c.args.state.now).here) (omega arith) c.plain_type.ensures

pub returns-in-len1-up : goal.returns-in-len1-up
returns-in-len1-up c = first_grows c.args.state.now c.type_within.new.state c.args.operands.now _ _ c.bare-inside.result c.type_within.result (meaning c.args.state.now).graph.facts (cut_of (meaning c.args.state.now).graph.facts (meaning c.args.state.now).here) (omega arith) refl c.bare-inside.ensures.is c.type_within.ensures
