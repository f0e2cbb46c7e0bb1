use Rattle.std.proofs.Common.{Some, None}
use Rattle.cxx_declare.proofs.Spacing.{unnamed_answered}
use Rattle.cxx_declare.proofs.spaces.open_unnamed.Goals as goal

pub returns-in-Some : goal.returns-in-Some
returns-in-Some c = unnamed_answered c.args.state.now c.declare_unnamed.new.state c.args.place (Some c.in-Some.inner.0) c.declare_unnamed.result c.in-Some.ensures.is c.declare_unnamed.ensures

pub returns-in-None : goal.returns-in-None
returns-in-None c = unnamed_answered c.args.state.now c.new_unnamed.new.state c.args.place None c.new_unnamed.result c.in-None.ensures.is c.new_unnamed.ensures
