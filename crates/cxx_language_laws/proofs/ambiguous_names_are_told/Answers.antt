use Rattle.cxx_language_laws.proofs.Whole.{ambiguous_is_told}
use Rattle.cxx_language_laws.proofs.ambiguous_names_are_told.Goals as goal

pub returns : goal.returns
returns c = ambiguous_is_told
