use Rattle.cxx_computed.proofs.Converted.{converted_keeps}
use Rattle.cxx_computed.proofs.laws.conversion_keeps.Goals as goal

pub returns : goal.returns
returns c = converted_keeps
