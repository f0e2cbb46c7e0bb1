use Rattle.std.proofs.Common.{refl}
use Rattle.cxx_reading.specs.Trees.{last_part}
use Rattle.cxx_tree.specs.Arena.{path_at}
use Rattle.cxx_tree.proofs.Steps.{Later_trans}
use Rattle.cxx_declare.proofs.Bringing.{longer_still}
use Rattle.cxx_declare.proofs.BringingMembers.{brought_all, brought_step, brought_stops}
use Rattle.cxx_declare.proofs.member_usings.bring_each.Goals as goal

pub returns-in-Err : goal.returns-in-Err
returns-in-Err c = brought_stops c.args.state.now c.loop-target.state c.bring_if.new.state c.args.label c.args.count (last_part (path_at c.args.path.now).parts) c.args.targets.now c.loop-target.target-index _ _ _ c.loop-target-test.true refl c.loop-target.invariant.later c.in-Err.ensures.answered c.loop-target.invariant.rest

pub loop-target-preserved : goal.loop-target-preserved
loop-target-preserved c = record {
  rest = brought_step c.loop-target.state c.bring_if.new.state c.args.label c.args.count (last_part (path_at c.args.path.now).parts) c.args.targets.now c.loop-target.target-index _ _ _ c.loop-target-test.true refl c.in-Ok.ensures.answered c.loop-target.invariant.rest;
  later = Later_trans c.args.state.now c.loop-target.state c.bring_if.new.state c.loop-target.invariant.later c.in-Ok.ensures.answered.later;
  longer = longer_still _ _ _ c.loop-target.invariant.longer c.in-Ok.ensures.longer;
}

pub returns : goal.returns
returns c = brought_all c.args.state.now c.loop-target.state c.args.label c.args.count (last_part (path_at c.args.path.now).parts) c.args.targets.now c.loop-target.target-index c.loop-target-test.false c.loop-target.invariant.later c.loop-target.invariant.rest
