use Rattle.cxx_overload.proofs.Narrowed.{choice_same}
use Rattle.cxx_overload.proofs.laws.choice_is_kept.Goals as goal

pub returns : goal.returns
returns c = choice_same
