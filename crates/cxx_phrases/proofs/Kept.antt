-- A tree that was read stays the same while the state grows.
use Rattle.std.specs.Prelude.{◌≡◌, ◌≤◌, length}
use Rattle.std.proofs.Common.{arith}
use Rattle.cxx_model.specs.declared.types.TreeId.{TreeId}
use Rattle.cxx_cursor.specs.Asking.{IsTreeKnown}
use Rattle.cxx_tree.specs.Held.{Held, tree, trees}
use Rattle.cxx_tree.specs.Later.{Later}

pub tree_kept : (old new : Held) (number : TreeId) → Later old new → IsTreeKnown old number → tree new number ≡ tree old number
tree_kept old new number later ok = later.trees.same number.0 ok

pub tree_later : (old new : Held) (number : TreeId) → Later old new → IsTreeKnown old number → IsTreeKnown new number
tree_later old new number later ok = let more : length (trees old) ≤ length (trees new) = later.trees.grows in omega arith
