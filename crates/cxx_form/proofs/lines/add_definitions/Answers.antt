use Rattle.std.proofs.Common.{map}
use Rattle.cxx_form.specs.Order.{definition_lines}
use Rattle.cxx_tree.specs.Arena.{trees_in}
use Rattle.cxx_tree.specs.Held.{trees}
use Rattle.cxx_form.proofs.Lined.{definition_on}
use Rattle.cxx_form.proofs.lines.add_definitions.Goals as goal

pub loop-tree-preserved : goal.loop-tree-preserved
loop-tree-preserved c =
    let all = trees c.args.state.now in
    definition_on all c.args.definitions.now c.loop-tree.tree-index (record { 0 = 0 }) c.args.lines.now.items c.loop-tree.lines.items c.push.new.self.items (map definition_lines (trees_in all c.args.definitions.now)) c.requires c.loop-tree-test.true c.loop-tree.invariant c.in_ok-push.ensures.items
