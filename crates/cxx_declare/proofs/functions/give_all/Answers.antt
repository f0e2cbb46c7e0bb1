use Rattle.std.proofs.Common.{refl}
use Rattle.cxx_tree.proofs.Steps.{Later_trans}
use Rattle.cxx_declare.proofs.Giving.{give_step, tree_there}
use Rattle.cxx_declare.proofs.functions.give_all.Goals as goal

pub add_fallback-requires : goal.add_fallback-requires
add_fallback-requires c = tree_there c.args.state.now c.loop-one.state c.args.offers.now c.loop-one.one-index _ _ c.loop-one.invariant.later c.requires c.loop-one-test.true refl

pub loop-one-preserved : goal.loop-one-preserved
loop-one-preserved c = record {
  later = Later_trans c.args.state.now c.loop-one.state c.add_fallback.new.self c.loop-one.invariant.later c.add_fallback.ensures.later;
  is = give_step c.args.state.now c.loop-one.state c.add_fallback.new.self c.args.number.0 c.args.offers.now c.loop-one.one-index _ _ _ c.loop-one.invariant.later c.requires c.loop-one-test.true refl c.in_ok-add_fallback.ensures.added c.loop-one.invariant.is;
}
