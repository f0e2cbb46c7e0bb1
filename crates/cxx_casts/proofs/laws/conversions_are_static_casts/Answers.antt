use Rattle.cxx_casts.proofs.Between.{conversion_is}
use Rattle.cxx_casts.proofs.laws.conversions_are_static_casts.Goals as goal

pub returns : goal.returns
returns c = conversion_is
