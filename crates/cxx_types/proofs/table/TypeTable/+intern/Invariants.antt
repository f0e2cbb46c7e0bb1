use Rattle.std.proofs.Common.{take, ◌+◌, ◌*◌}
use Rattle.cxx_types.specs.Parameters.{normal_types}
use Rattle.cxx_types.specs.Sizes.{tree_size, trees_size}
use Rattle.cxx_types.specs.Trees.{trees_at}
use Rattle.cxx_types.proofs.Making.{AreMadeSoFar}
use Rattle.cxx_types.proofs.table.TypeTable.+intern.Given as goal

abbrev pub decreases-intern : goal.decreases-intern
decreases-intern l = 3 * tree_size l.tree.now + 2

abbrev pub decreases-intern_function : goal.decreases-intern_function
decreases-intern_function l = 3 * (tree_size l.signature.now.result + trees_size l.signature.now.parameters.items) + 3

abbrev pub decreases-intern_each : goal.decreases-intern_each
decreases-intern_each l = 3 * trees_size l.trees.now

abbrev pub invariant-intern_each-loop-tree : goal.invariant-intern_each-loop-tree
invariant-intern_each-loop-tree l = AreMadeSoFar l.fn.self l.self l.numbers (normal_types (trees_at l.fn.self (take l.tree-index l.trees))) (normal_types (trees_at l.fn.self l.trees))
