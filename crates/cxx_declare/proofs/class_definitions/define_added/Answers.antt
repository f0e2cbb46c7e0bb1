use Rattle.cxx_model.specs.Facts.Declarations.{fact_at}
use Rattle.cxx_declare.specs.Made.{token}
use Rattle.cxx_declare.proofs.Begun.{added_class, class_after, not_added_class}
use Rattle.cxx_declare.proofs.class_definitions.define_added.Goals as goal

pub enter_class-requires : goal.enter_class-requires
enter_class-requires c = class_after c.args.state.now.graph c.add_defined.new.state.graph c.args.fact c.args.class.0 c.in-Ok.ensures.held c.requires.class

pub returns-in-Ok : goal.returns-in-Ok
returns-in-Ok c = λ kind. added_class c.args.state.now c.add_defined.new.state c.enter_class.new.state (token kind c.args.place c.args.word.now) c.args.class.0 (fact_at c.args.state.now.types c.args.fact) c.in-Ok.field-0 c.enter_class.result c.in-Ok.ensures.answered (c.enter_class.ensures kind)

pub returns-in-Err : goal.returns-in-Err
returns-in-Err c = λ kind. not_added_class c.args.state.now c.add_defined.new.state (token kind c.args.place c.args.word.now) c.args.class.0 (fact_at c.args.state.now.types c.args.fact) c.in-Err.stop c.in-Err.ensures.answered
