use Rattle.cxx_declare.proofs.Spacing.{alias_declared}
use Rattle.cxx_declare.proofs.spaces.declare_alias.Goals as goal

pub returns-in-Ok : goal.returns-in-Ok
returns-in-Ok c = λ kind. alias_declared c.args.state.now c.tell.new.state kind c.args.place c.args.word.now c.args.inner c.in-Ok.fact c.tell.result c.in-Ok.ensures.is c.tell.ensures.answered
