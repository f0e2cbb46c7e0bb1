use Rattle.cxx_meaning_laws.proofs.Operands.{common_converted}
use Rattle.cxx_meaning_laws.proofs.pointers.common_pointers_convert.Goals as goal

pub returns : goal.returns
returns c = common_converted
