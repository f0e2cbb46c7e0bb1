use Rattle.cxx_subobjects.proofs.Rising.{paths_are_in_order}
use Rattle.cxx_subobjects.proofs.laws.paths_in_order.Goals as goal

pub returns : goal.returns
returns c = paths_are_in_order
