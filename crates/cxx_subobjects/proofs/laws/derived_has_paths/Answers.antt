use Rattle.cxx_subobjects.proofs.Counting.{derived_has_paths}
use Rattle.cxx_subobjects.proofs.laws.derived_has_paths.Goals as goal

pub returns : goal.returns
returns c = derived_has_paths
