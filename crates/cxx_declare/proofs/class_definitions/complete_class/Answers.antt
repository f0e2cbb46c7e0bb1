use Rattle.cxx_declare.proofs.Begun.{completed, completed_ready, not_completed}
use Rattle.cxx_declare.proofs.class_definitions.complete_class.Goals as goal

pub add-requires-clause-follows : goal.add-requires-clause-follows
add-requires-clause-follows c = (completed_ready c.args.state.now c.args.place c.args.class c.scope.result c.fact_in-fact.result c.scope.ensures.there c.requires c.fact_in-fact.ensures).follows

pub add-requires-clause-below : goal.add-requires-clause-below
add-requires-clause-below c = (completed_ready c.args.state.now c.args.place c.args.class c.scope.result c.fact_in-fact.result c.scope.ensures.there c.requires c.fact_in-fact.ensures).below

pub add-requires-clause-plain : goal.add-requires-clause-plain
add-requires-clause-plain c = (completed_ready c.args.state.now c.args.place c.args.class c.scope.result c.fact_in-fact.result c.scope.ensures.there c.requires c.fact_in-fact.ensures).plain

pub returns-in-Ok : goal.returns-in-Ok
returns-in-Ok c = completed c.args.state.now c.add.new.self c.leave_class.new.self c.args.place c.args.class c.scope.result c.fact_in-fact.result c.in-Ok.field-0 c.scope.ensures.is c.fact_in-fact.ensures c.in-Ok.ensures.answered c.leave_class.ensures.later c.leave_class.ensures.is

pub returns-in-Err : goal.returns-in-Err
returns-in-Err c = not_completed c.args.state.now c.add.new.self c.args.place c.args.class c.scope.result c.fact_in-fact.result c.in-Err.stop c.scope.ensures.is c.fact_in-fact.ensures c.in-Err.ensures.answered
