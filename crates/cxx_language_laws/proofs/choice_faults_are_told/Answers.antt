use Rattle.cxx_language_laws.proofs.Whole.{fault_is_told}
use Rattle.cxx_language_laws.proofs.choice_faults_are_told.Goals as goal

pub returns : goal.returns
returns c = fault_is_told
