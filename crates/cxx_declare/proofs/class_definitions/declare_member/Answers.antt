use Rattle.cxx_declare.proofs.Begun.{member_declared}
use Rattle.cxx_tree.specs.Answered.{scope_of_option}
use Rattle.cxx_declare.proofs.class_definitions.declare_member.Goals as goal

pub returns-in-Ok : goal.returns-in-Ok
returns-in-Ok c = λ kind. member_declared c.args.state.now c.declare.new.state kind c.args.words (scope_of_option c.args.list) c.args.place c.args.word.now _ c.in-Ok.fact c.declare.result (c.in-Ok.ensures.is kind) c.in-Ok.ensures.named c.declare.ensures.answered
