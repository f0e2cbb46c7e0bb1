use Rattle.cxx_language_laws.proofs.Whole.{undeclared_is_told}
use Rattle.cxx_language_laws.proofs.undeclared_names_are_told.Goals as goal

pub returns : goal.returns
returns c = undeclared_is_told
