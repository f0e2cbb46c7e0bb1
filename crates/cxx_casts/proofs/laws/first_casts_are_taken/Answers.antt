use Rattle.cxx_casts.proofs.Between.{const_is, static_is}
use Rattle.cxx_casts.proofs.laws.first_casts_are_taken.Goals as goal

pub returns-clause-one : goal.returns-clause-one
returns-clause-one c = const_is

pub returns-clause-two : goal.returns-clause-two
returns-clause-two c = static_is
