use Rattle.cxx_overload.proofs.InWords.{chosen_best}
use Rattle.cxx_overload.proofs.laws.chosen_is_best.Goals as goal

pub returns : goal.returns
returns c = chosen_best
