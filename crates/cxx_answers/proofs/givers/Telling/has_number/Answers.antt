use Rattle.std.proofs.Common.{refl}
use Rattle.cxx_answers.proofs.Fresh.{has_this}
use Rattle.cxx_answers.proofs.givers.Telling.has_number.Goals as goal

pub returns-then-one-number : goal.returns-then-one-number
returns-then-one-number c = has_this c.args.self.now.types.now c.args.self.now.graph.now.facts c.args.number.0 c.args.functions.now c.loop-one.one-index _ _ _ c.requires c.loop-one-test.true refl c.if-one-number.true c.loop-one.invariant
