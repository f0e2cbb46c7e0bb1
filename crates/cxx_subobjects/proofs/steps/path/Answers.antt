use Rattle.std.proofs.Common.{◌∙◌, ◌-◌, arith, get_or}
use Rattle.cxx_subobjects.specs.Steps.{path_at, paths_of}
use Rattle.cxx_subobjects.proofs.Sharing.{at_read, path_more, path_whole, rest_within}
use Rattle.cxx_subobjects.proofs.steps.path.Goals as goal

pub loop-at-preserved : goal.loop-at-preserved
loop-at-preserved c =
    let steps = c.args.steps.now in
    let step = get_or steps (c.loop-at.at - 1) (record { index = 0; rest = 0 }) in
    let is = at_read steps c.loop-at.at c.loop-at-test.true c.loop-at.invariant.within in
    record {
      within = (let low = rest_within steps c.loop-at.at step c.requires.earlier c.loop-at-test.true c.loop-at.invariant.within is in omega (arith, low, c.loop-at.invariant.within));
      so_far = path_more steps c.loop-at.path.items c.push.new.self.items c.loop-at.at step (path_at (paths_of steps) c.args.number) c.requires.earlier c.loop-at-test.true c.loop-at.invariant.within is c.in_ok-push.ensures.items c.loop-at.invariant.so_far;
    }

pub returns : goal.returns
returns c = c.from_vec.ensures ∙ path_whole c.args.steps.now c.loop-at.path.items c.loop-at.at (path_at (paths_of c.args.steps.now) c.args.number) c.loop-at-test.false c.loop-at.invariant.so_far
