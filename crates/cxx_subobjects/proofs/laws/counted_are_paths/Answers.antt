use Rattle.cxx_subobjects.proofs.Counting.{each_is_path}
use Rattle.cxx_subobjects.proofs.laws.counted_are_paths.Goals as goal

pub returns : goal.returns
returns c = each_is_path
