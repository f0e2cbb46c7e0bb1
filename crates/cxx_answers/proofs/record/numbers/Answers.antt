use Rattle.std.proofs.Common.{refl}
use Rattle.cxx_answers.proofs.Records.{numbers_step}
use Rattle.cxx_answers.proofs.record.numbers.Goals as goal

pub loop-one-preserved : goal.loop-one-preserved
loop-one-preserved c = numbers_step c.args.types.now c.args.object c.args.operands.now c.args.conversions.now c.loop-one.found c.push.new.self c.args.all.now c.loop-one.one-index _ _ _ c.loop-one-test.true refl c.in_ok-push.ensures.ok c.loop-one.invariant
