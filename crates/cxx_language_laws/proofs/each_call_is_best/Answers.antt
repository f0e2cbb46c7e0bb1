use Rattle.cxx_language_laws.proofs.Whole.{each_call_is_best}
use Rattle.cxx_language_laws.proofs.each_call_is_best.Goals as goal

pub returns : goal.returns
returns c = each_call_is_best
