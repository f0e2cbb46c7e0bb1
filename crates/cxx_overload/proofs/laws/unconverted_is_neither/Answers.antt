use Rattle.cxx_overload.proofs.InWords.{unconverted}
use Rattle.cxx_overload.proofs.laws.unconverted_is_neither.Goals as goal

pub returns : goal.returns
returns c = unconverted
