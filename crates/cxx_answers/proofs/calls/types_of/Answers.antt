use Rattle.std.proofs.Common.{length, refl}
use Rattle.cxx_answers.proofs.Asked.{types_below, types_step}
use Rattle.cxx_answers.proofs.calls.types_of.Goals as goal

pub loop-operand-preserved : goal.loop-operand-preserved
loop-operand-preserved c = record {
  is = types_step c.args.types.now c.loop-operand.of c.push.new.self c.args.operands.now c.loop-operand.operand-index _ _ _ c.loop-operand-test.true refl c.in_ok-push.ensures.ok c.loop-operand.invariant.is;
  below = types_below (length c.args.types.now) c.loop-operand.of c.push.new.self c.args.operands.now c.loop-operand.operand-index _ _ c.loop-operand.invariant.below c.requires c.loop-operand-test.true refl c.in_ok-push.ensures.ok;
}
