use Rattle.cxx_overload.specs.Asymmetry.{beats_asymmetric}
use Rattle.cxx_overload.proofs.laws.better_is_asymmetric.Goals as goal

pub returns : goal.returns
returns c = beats_asymmetric
