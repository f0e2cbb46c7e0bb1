use Rattle.cxx_builtin.proofs.UsualTurned.{usual_turned}
use Rattle.cxx_builtin.proofs.laws.usual_turns.Goals as goal

pub returns : goal.returns
returns c = usual_turned
