use Rattle.cxx_reading.proofs.Forbidden.{declared_forbids}
use Rattle.cxx_reading.proofs.laws.forbidden_types_are_refused.Goals as goal

pub returns : goal.returns
returns c = declared_forbids
