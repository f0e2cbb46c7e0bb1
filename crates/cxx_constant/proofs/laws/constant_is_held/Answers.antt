use Rattle.cxx_constant.proofs.Held.{constant_held}
use Rattle.cxx_constant.proofs.laws.constant_is_held.Goals as goal

pub returns : goal.returns
returns c = constant_held
