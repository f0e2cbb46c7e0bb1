use Rattle.cxx_subobjects.proofs.Counting.{each_path_is_there}
use Rattle.cxx_subobjects.proofs.laws.every_path_is_counted.Goals as goal

pub returns : goal.returns
returns c = each_path_is_there
