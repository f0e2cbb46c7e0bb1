use Rattle.cxx_subobjects.proofs.Amount.{none_is_no_path, one_is_one_path, several_are_two}
use Rattle.cxx_subobjects.proofs.laws.as_many_as_paths.Goals as goal

pub returns : goal.returns
returns c = record { none = none_is_no_path; one = one_is_one_path; several = several_are_two }
