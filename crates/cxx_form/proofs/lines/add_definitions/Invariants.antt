use Rattle.std.proofs.Common.{drop, map}
use Rattle.cxx_form.specs.Order.{definition_lines}
use Rattle.cxx_tree.specs.Arena.{trees_in}
use Rattle.cxx_tree.specs.Held.{trees}
use Rattle.cxx_form.proofs.Lined.{SoFar}
use Rattle.cxx_form.proofs.lines.add_definitions.Given as goal

abbrev pub invariant-loop-tree : goal.invariant-loop-tree
invariant-loop-tree l = SoFar (trees l.state) l.fn.lines.items l.lines.items (map definition_lines (trees_in (trees l.state) (drop l.tree-index l.definitions))) (map definition_lines (trees_in (trees l.state) l.definitions))
