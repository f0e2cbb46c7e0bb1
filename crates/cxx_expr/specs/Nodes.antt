-- Nodes that were read and are no part of the arena yet.
use Rattle.std.specs.Prelude.{◌<◌, length, Option, Some, None}
use Rattle.cxx_model.specs.declared.tree.Node.{Node}
use Rattle.cxx_model.specs.declared.types.TreeId.{TreeId}
use Rattle.cxx_reading.specs.Trees.{CxxTree}
use Rattle.cxx_tree.specs.Arena.{IsNodeBelow, tree_in, tree_over}
use Rattle.cxx_tree.specs.Held.{Held, trees}
use Rattle.cxx_expr.specs.Making.{AreTreesHeld}

-- the types and trees that it names are there
pub record IsNodeHeld (held : Held) (node : Node) : Type 0 where
  pub below : IsNodeBelow (length held.types) node
  pub children : AreTreesHeld held node.children

abbrev pub node_tree : Held → Node → CxxTree
node_tree held node = tree_over held.types (trees held) node

-- ---- its parts, where there are as many as its production has

abbrev pub one_tree : Held → Option TreeId → Option CxxTree
one_tree held None = None
one_tree held (Some n) = Some (tree_in (trees held) n.0)

abbrev pub IsOneKnown : Held → Option TreeId → Type 0
IsOneKnown held None = Unit {0}
IsOneKnown held (Some n) = n.0 < length (trees held)

abbrev pub two_trees : Held → Option (TreeId × TreeId) → Option (CxxTree × CxxTree)
two_trees held None = None
two_trees held (Some ns) = Some (tree_in (trees held) ns.0.0, tree_in (trees held) ns.1.0)

abbrev pub AreTwoKnown : Held → Option (TreeId × TreeId) → Type 0
AreTwoKnown held None = Unit {0}
AreTwoKnown held (Some ns) = (ns.0.0 < length (trees held)) × (ns.1.0 < length (trees held))

abbrev pub three_trees : Held → Option (TreeId × TreeId × TreeId) → Option (CxxTree × CxxTree × CxxTree)
three_trees held None = None
three_trees held (Some ns) = Some (tree_in (trees held) ns.0.0, tree_in (trees held) ns.1.0, tree_in (trees held) ns.2.0)

abbrev pub AreThreeKnown : Held → Option (TreeId × TreeId × TreeId) → Type 0
AreThreeKnown held None = Unit {0}
AreThreeKnown held (Some ns) = (ns.0.0 < length (trees held)) × (ns.1.0 < length (trees held)) × (ns.2.0 < length (trees held))
