use Rattle.cxx_model.specs.Facts.Declarations.{fact_at}
use Rattle.cxx_declare.proofs.Begun.{added_unnamed, class_after, not_added_unnamed}
use Rattle.cxx_declare.proofs.class_definitions.add_unnamed.Goals as goal

pub enter_unnamed-requires : goal.enter_unnamed-requires
enter_unnamed-requires c = class_after c.args.state.now.graph c.add_defined.new.state.graph c.args.fact c.args.class.0 c.in-Ok.ensures.held c.requires.class

pub returns-in-Ok : goal.returns-in-Ok
returns-in-Ok c = added_unnamed c.args.state.now c.add_defined.new.state c.enter_unnamed.new.state c.args.place c.args.class.0 (fact_at c.args.state.now.types c.args.fact) c.in-Ok.field-0 c.enter_unnamed.result c.in-Ok.ensures.answered c.enter_unnamed.ensures

pub returns-in-Err : goal.returns-in-Err
returns-in-Err c = not_added_unnamed c.args.state.now c.add_defined.new.state c.args.place c.args.class.0 (fact_at c.args.state.now.types c.args.fact) c.in-Err.stop c.in-Err.ensures.answered
