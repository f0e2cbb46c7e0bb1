use Rattle.cxx_overload.proofs.InWords.{tied_ambiguous}
use Rattle.cxx_overload.proofs.laws.tied_is_ambiguous.Goals as goal

pub returns : goal.returns
returns c = tied_ambiguous
