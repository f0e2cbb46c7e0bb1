use Rattle.std.proofs.Common.{take, length, ◌≡◌, ◌+◌, ◌*◌}
use Rattle.cxx_model.specs.Types.Numbers.{types_at}
use Rattle.cxx_types.specs.Trees.{trees_at, AreTreesBelow}
use Rattle.cxx_types.proofs.table.TypeTable.+tree_of.Given as goal

abbrev pub decreases-tree_of : goal.decreases-tree_of
decreases-tree_of l = 2 * l.number.0 + 1

abbrev pub decreases-trees_of : goal.decreases-trees_of
decreases-trees_of l = 2 * l.end.0

abbrev pub invariant-trees_of-loop-number : goal.invariant-trees_of-loop-number
invariant-trees_of-loop-number l = (trees_at l.self l.trees.items ≡ types_at l.self (take l.number-index l.numbers)) × AreTreesBelow (length l.self) l.trees.items
