use Rattle.cxx_meaning_laws.proofs.Operands.{null_common}
use Rattle.cxx_meaning_laws.proofs.pointers.null_pointers_convert.Goals as goal

pub returns : goal.returns
returns c = null_common
