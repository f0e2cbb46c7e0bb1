use Rattle.cxx_declare.proofs.Spacing.{first_added, first_not_added, first_ready, first_there}
use Rattle.cxx_model.specs.Facts.Declarations.{fact_at}
use Rattle.cxx_declare.proofs.spaces.add_first.Goals as goal

pub add_within-requires-clause-ready : goal.add_within-requires-clause-ready
add_within-requires-clause-ready c = first_ready c.args.state.now c.add_space.new.self c.args.place c.args.inner c.args.fact c.requires c.in-Ok.ensures.held

pub add_within-requires-clause-there : goal.add_within-requires-clause-there
add_within-requires-clause-there c = first_there c.args.state.now c.add_space.new.self c.args.place c.args.inner c.args.fact c.requires c.in-Ok.ensures.held

pub returns-in-Ok : goal.returns-in-Ok
returns-in-Ok c = first_added c.args.state.now c.add_space.new.self c.add_within.new.state c.args.place c.args.inner c.in-Ok.field-0 c.args.fact c.add_within.result c.in-Ok.ensures.held c.in-Ok.ensures.answered c.add_within.ensures

pub returns-in-Err : goal.returns-in-Err
returns-in-Err c = first_not_added c.args.state.now c.add_space.new.self c.args.place c.args.inner (fact_at c.args.state.now.types c.args.fact) c.in-Err.stop c.in-Err.ensures.answered
