use Rattle.std.proofs.Common.{refl}
use Rattle.cxx_answers.proofs.Told.{last_step}
use Rattle.cxx_answers.proofs.givers.Telling.last_of.Goals as goal

pub loop-number-preserved : goal.loop-number-preserved
loop-number-preserved c = record {
  is = last_step c.args.self.now.types.now c.args.self.now.graph.now.facts c.args.function.0 c.loop-number.found c.later-found.result c.args.numbers.now c.loop-number.number-index _ _ _ c.loop-number-test.true refl c.later-found.ensures.is c.loop-number.invariant.is;
  there = c.later-found.ensures.there;
}
