use Rattle.std.proofs.Common.{refl}
use Rattle.cxx_model.specs.Facts.Declarations.{name_at}
use Rattle.cxx_answers.proofs.Told.{last_named_step}
use Rattle.cxx_answers.proofs.givers.Telling.last_named.Goals as goal

pub loop-number-preserved : goal.loop-number-preserved
loop-number-preserved c = record {
  is = last_named_step c.args.self.now.types.now c.args.self.now.graph.now.facts (name_at c.args.self.now.types.now c.args.name.now) c.args.function.0 c.loop-number.found c.later_named-found.result c.args.numbers.now c.loop-number.number-index _ _ _ c.loop-number-test.true refl c.later_named-found.ensures.is c.loop-number.invariant.is;
  there = c.later_named-found.ensures.there;
}
