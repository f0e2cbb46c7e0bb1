use Rattle.cxx_overload.proofs.InWords.{none_refused, refused_none}
use Rattle.cxx_overload.proofs.laws.none_viable_is_refused.Goals as goal

pub returns : goal.returns
returns c = λ graph all lines. (none_refused graph all lines, refused_none graph all lines)
