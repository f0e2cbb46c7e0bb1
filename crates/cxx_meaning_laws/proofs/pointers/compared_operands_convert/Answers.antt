use Rattle.cxx_meaning_laws.proofs.Operands.{comparison_common}
use Rattle.cxx_meaning_laws.proofs.pointers.compared_operands_convert.Goals as goal

pub returns : goal.returns
returns c = comparison_common
