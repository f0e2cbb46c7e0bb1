use Rattle.std.proofs.Common.{[], length, option_map, slice_index_or}
use Rattle.cxx_model.specs.declared.types.TreeId.{TreeId}
use Rattle.cxx_meaning.specs.Lookups.Gathered.{before}
use Rattle.cxx_form.specs.Order.{object_by, object_lines}
use Rattle.cxx_tree.specs.Arena.{tree_in, trees_in}
use Rattle.cxx_tree.specs.Held.{trees}
use Rattle.cxx_form.specs.Lines.{line_at}
use Rattle.cxx_form.specs.Views.{facts_in}
use Rattle.cxx_form.proofs.InTrees.{child_below}
use Rattle.cxx_form.proofs.Lined.{adds_same, object_on}
use Rattle.cxx_form.proofs.lines.add_objects.Goals as goal

pub object_line-requires : goal.object_line-requires
object_line-requires c = child_below (length (trees c.args.state.now)) c.args.declarators.now c.loop-tree.tree-index (record { 0 = 0 }) c.requires c.loop-tree-test.true

pub loop-tree-preserved : goal.loop-tree-preserved
loop-tree-preserved c =
    let all = trees c.args.state.now in
    let none : TreeId = record { 0 = 0 } in
    let number : TreeId = slice_index_or c.args.declarators.now c.loop-tree.tree-index none in
    object_on all (facts_in c.args.state.now) c.args.declarators.now c.loop-tree.tree-index none c.args.lines.now.items c.loop-tree.lines.items c.add.new.lines.items (object_lines (facts_in c.args.state.now) (trees_in all c.args.declarators.now)) c.loop-tree-test.true c.loop-tree.invariant
    (adds_same all c.loop-tree.lines.items c.add.new.lines.items (before (option_map (line_at all) c.object_line.result) []) (object_by (facts_in c.args.state.now) (tree_in all number.0) (tree_in all number.0).label.target) c.object_line.ensures.is c.in_ok-add.ensures)
