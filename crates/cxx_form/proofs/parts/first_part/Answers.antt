use Rattle.std.proofs.Common.{length}
use Rattle.cxx_tree.specs.Held.{trees}
use Rattle.cxx_form.proofs.InTrees.{child_below}
use Rattle.cxx_form.proofs.parts.first_part.Goals as goal

pub node-requires : goal.node-requires
node-requires c = child_below (length (trees c.args.state.now)) c.args.parts.now c.loop-part.part-index (record { 0 = 0 }) c.requires c.loop-part-test.true

pub returns-then-node-production-clause-below : goal.returns-then-node-production-clause-below
returns-then-node-production-clause-below c = child_below (length (trees c.args.state.now)) c.args.parts.now c.loop-part.part-index (record { 0 = 0 }) c.requires c.loop-part-test.true
