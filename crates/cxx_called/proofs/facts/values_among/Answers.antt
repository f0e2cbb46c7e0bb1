use Rattle.std.proofs.Common.{refl}
use Rattle.cxx_called.proofs.Declared.{values_step}
use Rattle.cxx_called.proofs.facts.values_among.Goals as goal

pub loop-number-preserved : goal.loop-number-preserved
loop-number-preserved c = record {
  known = c.in_ok-add_value.ensures.known;
  is = values_step c.args.state.now c.loop-number.values c.add_value.new.values c.args.all.now c.loop-number.number-index _ _ _ c.loop-number-test.true refl c.in_ok-add_value.ensures.is c.loop-number.invariant.is;
}
