use Rattle.cxx_overload.proofs.Numbers.{declared_mean}
use Rattle.cxx_overload.proofs.laws.numbers_stand_for_declarations.Goals as goal

pub returns : goal.returns
returns c = declared_mean
