use Rattle.cxx_model.proofs.SameTypes.{type_told, type_tells}
use Rattle.cxx_types.proofs.laws.sameness.Goals as goal

pub returns : goal.returns
returns c t u = (type_told t u, type_tells t u)
