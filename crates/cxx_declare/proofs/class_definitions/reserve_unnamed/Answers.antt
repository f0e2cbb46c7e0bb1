use Rattle.cxx_model.specs.Facts.Declarations.{fact_at}
use Rattle.cxx_declare.proofs.Begun.{next_known, next_own, next_ready, not_reserved_unnamed, reserved_unnamed}
use Rattle.cxx_declare.proofs.class_definitions.reserve_unnamed.Goals as goal

pub add_unnamed-requires-clause-ready : goal.add_unnamed-requires-clause-ready
add_unnamed-requires-clause-ready c = next_ready c.args.state.now c.reserve_class.new.self c.args.class c.args.fact c.requires c.in-Ok.ensures.held

pub add_unnamed-requires-clause-own : goal.add_unnamed-requires-clause-own
add_unnamed-requires-clause-own c = next_own c.args.state.now c.args.class c.args.fact c.requires

pub add_unnamed-requires-clause-class : goal.add_unnamed-requires-clause-class
add_unnamed-requires-clause-class c = next_known c.args.state.now c.reserve_class.new.self c.args.class c.args.fact c.requires c.in-Ok.ensures.held

pub returns-in-Ok : goal.returns-in-Ok
returns-in-Ok c = reserved_unnamed c.args.state.now c.reserve_class.new.self c.add_unnamed.new.state c.args.place c.args.class c.in-Ok.field-0 c.args.fact c.add_unnamed.result c.in-Ok.ensures.held c.in-Ok.ensures.answered c.add_unnamed.ensures

pub returns-in-Err : goal.returns-in-Err
returns-in-Err c = not_reserved_unnamed c.args.state.now c.reserve_class.new.self c.args.place c.args.class.0 (fact_at c.args.state.now.types c.args.fact) c.in-Err.stop c.in-Err.ensures.answered
