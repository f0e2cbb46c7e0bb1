use Rattle.cxx_declare.proofs.Begun.{unnamed_entered, unnamed_not_entered}
use Rattle.cxx_declare.proofs.class_definitions.enter_unnamed.Goals as goal

pub returns-in-Ok : goal.returns-in-Ok
returns-in-Ok c = unnamed_entered c.args.state.now c.add_class_scope.new.self c.set_scope.new.self c.args.place c.args.class c.in-Ok.inner c.requires c.in-Ok.ensures.held c.in-Ok.ensures.answered c.set_scope.ensures.later c.set_scope.ensures.is c.set_scope.ensures.held

pub returns-in-Err : goal.returns-in-Err
returns-in-Err c = unnamed_not_entered c.args.state.now c.add_class_scope.new.self c.args.place c.args.class c.in-Err.stop c.in-Err.ensures.answered
