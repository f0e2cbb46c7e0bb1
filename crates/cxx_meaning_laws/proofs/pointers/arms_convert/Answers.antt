use Rattle.cxx_meaning_laws.proofs.Arms.{arms_converted}
use Rattle.cxx_meaning_laws.proofs.pointers.arms_convert.Goals as goal

pub returns : goal.returns
returns c = arms_converted
