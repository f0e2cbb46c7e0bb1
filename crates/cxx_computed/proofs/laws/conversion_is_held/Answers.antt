use Rattle.cxx_computed.proofs.Converted.{converted_held}
use Rattle.cxx_computed.proofs.laws.conversion_is_held.Goals as goal

pub returns : goal.returns
returns c = converted_held
