use Rattle.cxx_standard.proofs.Turning.{order_turned}
use Rattle.cxx_standard.proofs.laws.order_turns.Goals as goal

pub returns : goal.returns
returns c = order_turned
