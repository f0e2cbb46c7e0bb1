use Rattle.cxx_declare.proofs.Spacing.{unnamed_newly, unnamed_not_newly}
use Rattle.cxx_declare.proofs.spaces.new_unnamed.Goals as goal

pub returns-in-Ok : goal.returns-in-Ok
returns-in-Ok c = unnamed_newly c.args.state.now c.add_space.new.self c.declare_unnamed.new.state c.args.place c.in-Ok.inner c.declare_unnamed.result c.in-Ok.ensures.answered c.declare_unnamed.ensures

pub returns-in-Err : goal.returns-in-Err
returns-in-Err c = unnamed_not_newly c.args.state.now c.add_space.new.self c.args.place c.in-Err.stop c.in-Err.ensures.answered
