use Rattle.cxx_candidates.proofs.Made.{all_more}
use Rattle.cxx_candidates.proofs.making.make_all.Goals as goal

pub loop-shape-preserved : goal.loop-shape-preserved
loop-shape-preserved c = all_more c.args.graph.now c.args.types.now c.loop-shape.types c.make_shape.new.types c.loop-shape.lists c.push.new.self c.in_ok-list.list c.args.shapes.now c.loop-shape.shape-index _ c.loop-shape-test.true c.requires.known c.loop-shape.invariant c.in_ok-list.ensures c.in_ok-push.ensures.ok
