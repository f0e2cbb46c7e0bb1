use Rattle.cxx_declare.proofs.Spacing.{opened_again}
use Rattle.cxx_declare.proofs.spaces.open_again.Goals as goal

pub returns-in-Ok : goal.returns-in-Ok
returns-in-Ok c = λ kind. opened_again c.args.state.now c.declare_within.new.state kind c.args.place c.args.word.now c.args.inner c.in-Ok.fact c.declare_within.result c.in-Ok.ensures.is c.declare_within.ensures
