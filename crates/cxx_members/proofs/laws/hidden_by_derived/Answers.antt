use Rattle.cxx_meaning.proofs.Subobjects.{hidden_by_derived}
use Rattle.cxx_members.proofs.laws.hidden_by_derived.Goals as goal

pub returns : goal.returns
returns c = hidden_by_derived
