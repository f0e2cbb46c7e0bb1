use Rattle.cxx_overload.proofs.InWords.{best_chosen}
use Rattle.cxx_overload.proofs.laws.best_is_chosen.Goals as goal

pub returns : goal.returns
returns c = best_chosen
