use Rattle.std.proofs.Common.{◌++◌, ◌∙◌, ap, length, List, ℕ}
use Rattle.std.specs.Prelude.{flat_map}
use Rattle.cxx_tree.specs.Held.{trees}
use Rattle.cxx_form.specs.Lines.{numbers_in}
use Rattle.cxx_form.proofs.Defining.{gives_all, gives_more, printed_are, printed_at}
use Rattle.cxx_form.proofs.InTrees.{child_below}
use Rattle.cxx_form.proofs.defined.add_each_printed.Goals as goal

pub add_printed-requires : goal.add_printed-requires
add_printed-requires c = child_below (length (trees c.args.state.now)) c.args.declarators.now c.loop-tree.tree-index (record { 0 = 0 }) c.requires c.loop-tree-test.true

pub loop-tree-preserved : goal.loop-tree-preserved
loop-tree-preserved c =
    gives_more (printed_at c.args.state.now) c.args.declarators.now c.loop-tree.tree-index (record { 0 = 0 }) (numbers_in c.loop-tree.found.items) (numbers_in c.add_printed.new.found.items) (numbers_in c.args.found.now.items ++ flat_map (printed_at c.args.state.now) c.args.declarators.now) c.loop-tree-test.true c.in_ok-add_printed.ensures c.loop-tree.invariant

pub returns : goal.returns
returns c =
    gives_all (printed_at c.args.state.now) c.args.declarators.now c.loop-tree.tree-index (numbers_in c.loop-tree.found.items) (numbers_in c.args.found.now.items ++ flat_map (printed_at c.args.state.now) c.args.declarators.now) c.loop-tree-test.false c.loop-tree.invariant
    ∙ ap (λ (ns : List ℕ). numbers_in c.args.found.now.items ++ ns) (printed_are c.args.state.now c.args.declarators.now)
