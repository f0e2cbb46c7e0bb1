use Rattle.cxx_overload.proofs.InWords.{ambiguous_tied}
use Rattle.cxx_overload.proofs.laws.ambiguous_is_tied.Goals as goal

pub returns : goal.returns
returns c = ambiguous_tied
