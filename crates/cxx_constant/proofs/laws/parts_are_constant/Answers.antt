use Rattle.cxx_constant.proofs.Sound.{constant_sound}
use Rattle.cxx_constant.proofs.laws.parts_are_constant.Goals as goal

pub returns : goal.returns
returns c = constant_sound
