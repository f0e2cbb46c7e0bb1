use Rattle.cxx_model.specs.Facts.Declarations.{fact_at}
use Rattle.cxx_declare.specs.Made.{token}
use Rattle.cxx_declare.proofs.Begun.{class_newly, class_not_newly, next_known, next_own, next_ready}
use Rattle.cxx_declare.proofs.class_definitions.define_reserved.Goals as goal

pub define_added-requires-clause-ready : goal.define_added-requires-clause-ready
define_added-requires-clause-ready c = next_ready c.args.state.now c.reserve_class.new.self c.args.class c.args.fact c.requires c.in-Ok.ensures.held

pub define_added-requires-clause-own : goal.define_added-requires-clause-own
define_added-requires-clause-own c = next_own c.args.state.now c.args.class c.args.fact c.requires

pub define_added-requires-clause-class : goal.define_added-requires-clause-class
define_added-requires-clause-class c = next_known c.args.state.now c.reserve_class.new.self c.args.class c.args.fact c.requires c.in-Ok.ensures.held

pub returns-in-Ok : goal.returns-in-Ok
returns-in-Ok c = λ kind. class_newly c.args.state.now c.reserve_class.new.self c.define_added.new.state (token kind c.args.place c.args.word.now) c.args.class c.in-Ok.field-0 c.args.fact c.define_added.result c.in-Ok.ensures.held c.in-Ok.ensures.answered (c.define_added.ensures kind)

pub returns-in-Err : goal.returns-in-Err
returns-in-Err c = λ kind. class_not_newly c.args.state.now c.reserve_class.new.self (token kind c.args.place c.args.word.now) c.args.class.0 (fact_at c.args.state.now.types c.args.fact) c.in-Err.stop c.in-Err.ensures.answered
