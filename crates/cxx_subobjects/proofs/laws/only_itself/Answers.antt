use Rattle.cxx_subobjects.proofs.Counting.{is_only_itself}
use Rattle.cxx_subobjects.proofs.laws.only_itself.Goals as goal

pub returns : goal.returns
returns c = is_only_itself
