use Rattle.cxx_declare.proofs.Asking.{kind_answered}
use Rattle.cxx_declare.proofs.asks.kind.Goals as goal

pub returns-in-Ok : goal.returns-in-Ok
returns-in-Ok c = λ one place. kind_answered c.args.state.now one place c.args.word.now c.in-Ok.kind c.in-Ok.ensures
