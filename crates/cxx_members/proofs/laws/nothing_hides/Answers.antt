use Rattle.cxx_meaning.proofs.Subobjects.{nothing_hides}
use Rattle.cxx_members.proofs.laws.nothing_hides.Goals as goal

pub returns : goal.returns
returns c = nothing_hides
