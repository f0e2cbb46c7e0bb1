use Rattle.std.proofs.Common.{List}
use Rattle.cxx_reading.specs.Trees.{CxxTree}
use Rattle.cxx_tree.specs.Arena.{trees_in}
use Rattle.cxx_tree.specs.Held.{tree, trees}
use Rattle.cxx_form.specs.Found.{each_found}
use Rattle.cxx_form.proofs.InTrees.{all_added, within_parts}
use Rattle.cxx_form.proofs.found.declarators_within.Goals as goal

pub returns : goal.returns
returns c =
    let held = c.args.state.now in
    let wanted : List CxxTree = each_found 20 20 (trees_in (trees held) c.as_slice.result.now) in
    within_parts held.types (trees held) c.node-node.result.now (tree held c.args.number) c.node-node.ensures.tree 20 20 c.as_slice.result.now c.add_each.new.found.items c.as_slice.ensures
    (all_added (trees held) c.new-found.result.items c.add_each.new.found.items wanted c.new-found.ensures.items c.in_ok-add_each.ensures)
