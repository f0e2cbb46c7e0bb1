use Rattle.cxx_meaning.specs.Conversions.Order.{target}
use Rattle.cxx_meaning_laws.proofs.Ranking.{worst_of_steps}
use Rattle.cxx_meaning_laws.proofs.sequences.rank_is_that_of_the_worst_step.Goals as goal

pub returns : goal.returns
returns c one = worst_of_steps one.second one.third (target one.to)
