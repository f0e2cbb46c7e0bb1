use Rattle.std.proofs.Common.{drop}
use Rattle.cxx_form.specs.Order.{object_lines}
use Rattle.cxx_tree.specs.Arena.{trees_in}
use Rattle.cxx_tree.specs.Held.{trees}
use Rattle.cxx_form.specs.Views.{facts_in}
use Rattle.cxx_form.proofs.Lined.{SoFar}
use Rattle.cxx_form.proofs.lines.add_objects.Given as goal

abbrev pub invariant-loop-tree : goal.invariant-loop-tree
invariant-loop-tree l = SoFar (trees l.state) l.fn.lines.items l.lines.items (object_lines (facts_in l.state) (trees_in (trees l.state) (drop l.tree-index l.declarators))) (object_lines (facts_in l.state) (trees_in (trees l.state) l.declarators))
