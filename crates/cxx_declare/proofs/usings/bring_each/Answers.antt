use Rattle.std.proofs.Common.{refl}
use Rattle.cxx_reading.specs.Trees.{last_part}
use Rattle.cxx_tree.specs.Arena.{path_at}
use Rattle.cxx_tree.proofs.Steps.{Later_trans}
use Rattle.cxx_declare.proofs.Bringing.{brought_all, brought_step, brought_stops, longer_still, one_there}
use Rattle.cxx_declare.proofs.usings.bring_each.Goals as goal

pub bring_one-requires : goal.bring_one-requires
bring_one-requires c = one_there _ _ c.args.targets.now c.loop-target.target-index _ _ c.loop-target.invariant.longer c.requires c.loop-target-test.true refl

pub returns-in-Err : goal.returns-in-Err
returns-in-Err c = brought_stops c.args.state.now c.loop-target.state c.bring_one.new.state (last_part (path_at c.args.path.now).parts) c.args.targets.now c.loop-target.target-index _ _ _ c.loop-target-test.true refl c.loop-target.invariant.later c.in-Err.ensures.answered c.loop-target.invariant.rest

pub loop-target-preserved : goal.loop-target-preserved
loop-target-preserved c = record {
  rest = brought_step c.loop-target.state c.bring_one.new.state (last_part (path_at c.args.path.now).parts) c.args.targets.now c.loop-target.target-index _ _ _ c.loop-target-test.true refl c.in-Ok.ensures.answered c.loop-target.invariant.rest;
  later = Later_trans c.args.state.now c.loop-target.state c.bring_one.new.state c.loop-target.invariant.later c.in-Ok.ensures.answered.later;
  longer = longer_still _ _ _ c.loop-target.invariant.longer c.in-Ok.ensures.longer;
}

pub returns : goal.returns
returns c = brought_all c.args.state.now c.loop-target.state (last_part (path_at c.args.path.now).parts) c.args.targets.now c.loop-target.target-index c.loop-target-test.false c.loop-target.invariant.later c.loop-target.invariant.rest
