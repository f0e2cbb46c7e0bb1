use Rattle.std.proofs.Common.{[], ◌∙◌, length, sym}
use Rattle.cxx_cursor.specs.Views.{trees_held}
use Rattle.cxx_later.specs.FoundDefaults.{each_default}
use Rattle.cxx_later.proofs.Adding.{child_below}
use Rattle.cxx_later.proofs.AddingDefaults.{all_added, in_each, part_more}
use Rattle.cxx_tree.specs.Held.{trees}
use Rattle.cxx_later.proofs.found.all_defaults.Goals as goal

pub add_in-requires : goal.add_in-requires
add_in-requires c = child_below (length (trees c.args.state.now)) c.args.trees.now c.loop-number.number-index (record { 0 = 0 }) c.requires c.loop-number-test.true

pub loop-number-preserved : goal.loop-number-preserved
loop-number-preserved c =
    let held = c.args.state.now in
    part_more held [] c.loop-number.found.items c.add_in.new.found.items c.args.trees.now c.loop-number.number-index (record { 0 = 0 }) (each_default (trees_held held c.args.trees.now)) c.loop-number-test.true c.loop-number.invariant c.in_ok-add_in.ensures

pub returns-clause-is : goal.returns-clause-is
returns-clause-is c =
    let held = c.args.state.now in
    all_added held c.loop-number.found.items c.args.trees.now c.loop-number.number-index c.loop-number-test.false c.loop-number.invariant ∙ sym (in_each (trees_held held c.args.trees.now))
