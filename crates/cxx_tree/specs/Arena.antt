-- What the nodes of an arena stand for: the list of their trees, each made of earlier ones, given the types of a table.
use Rattle.std.specs.Prelude.{ℕ, zero, suc, ◌≡◌, ◌<◌, ◌≤◌, List, [], ◌∷◌, ◌++◌, length, slice_index_or, Option, Some, None}
use Rattle.cxx_model.specs.declared.sequence.Operand.{Operand}
use Rattle.cxx_model.specs.declared.tree.Node.{Node}
use Rattle.cxx_model.specs.declared.tree.Path.{Path}
use Rattle.cxx_model.specs.declared.tree.PathPart.{PathPart}
use Rattle.cxx_model.specs.declared.types.FactId.{FactId}
use Rattle.cxx_model.specs.declared.types.TreeId.{TreeId}
use Rattle.cxx_model.specs.Facts.Declarations.{type_of_option}
use Rattle.cxx_model.specs.Facts.Fitted.{IsTypeNumberBelow}
use Rattle.cxx_model.specs.Text.Lexemes.{nowhere}
use Rattle.cxx_model.specs.Types.Trees.{CxxType, CxxBound, unknown_bound, number_bound}
use Rattle.cxx_model.specs.Types.Numbers.{type_at}
use Rattle.cxx_meaning.specs.Conversions.Standard.{CxxOperand}
use Rattle.cxx_reading.specs.Trees.{CxxPath, CxxPathPart, CxxTree, Label, tree_of}

-- ---- the label of a node

-- 14.2: the trees of the arguments of a part are the first children of its tree
abbrev pub argument_count : Option (List TreeId) → Option ℕ
argument_count None = None
argument_count (Some arguments) = Some (length arguments)

abbrev pub path_part_at : PathPart → CxxPathPart
path_part_at part = record { word = part.word; place = part.place; arguments = argument_count part.arguments }

abbrev pub path_parts_at : List PathPart → List CxxPathPart
path_parts_at [] = []
path_parts_at (part ∷ parts) = path_part_at part ∷ path_parts_at parts

abbrev pub path_at : Path → CxxPath
path_at path = record { global = path.global; parts = path_parts_at path.parts }

abbrev pub path_of_option : Option Path → Option CxxPath
path_of_option None = None
path_of_option (Some path) = Some (path_at path)

abbrev pub operand_at : List CxxType → Operand → CxxOperand
operand_at types operand = record { of = type_at types operand.of.0; lvalue = operand.lvalue; constant = operand.constant }

abbrev pub operand_of_option : List CxxType → Option Operand → Option CxxOperand
operand_of_option types None = None
operand_of_option types (Some operand) = Some (operand_at types operand)

abbrev pub number_of_option : Option FactId → Option ℕ
number_of_option None = None
number_of_option (Some number) = Some number.0

-- The counts of a node are of the tokens that are left before its first one and behind its last one.
abbrev pub label_at : List CxxType → Node → Label
label_at types node = record {
  production = node.production;
  spelling = node.spelling;
  first = node.first;
  last = node.last;
  start = node.start;
  place = node.place;
  path = path_of_option node.path;
  operand = operand_of_option types node.operand;
  of = type_of_option types node.of;
  target = number_of_option node.target;
  call = node.call;
}

-- ---- trees by number

abbrev pub no_tree : CxxTree
no_tree = tree_of (record { production = zero; spelling = []; first = zero; last = zero; start = nowhere; place = nowhere; path = None; operand = None; of = None; target = None; call = None }) []

-- the tree with a number; past the end of the list, any
abbrev pub tree_in : List CxxTree → ℕ → CxxTree
tree_in trees n = slice_index_or trees n no_tree

abbrev pub trees_in : List CxxTree → List TreeId → List CxxTree
trees_in trees [] = []
trees_in trees (n ∷ others) = tree_in trees n.0 ∷ trees_in trees others

-- the tree of a node, given the trees of its children
abbrev pub tree_over : List CxxType → List CxxTree → Node → CxxTree
tree_over types trees node = tree_of (label_at types node) (trees_in trees node.children)

abbrev pub trees_after : List CxxType → List CxxTree → List Node → List CxxTree
trees_after types done [] = done
trees_after types done (node ∷ nodes) = trees_after types (done ++ tree_over types done node ∷ []) nodes

abbrev pub trees_of : List CxxType → List Node → List CxxTree
trees_of types nodes = trees_after types [] nodes

-- ---- numbers that are there

abbrev pub AreTreesBelow : ℕ → List TreeId → Type 0
AreTreesBelow count [] = Unit {0}
AreTreesBelow count (n ∷ others) = (n.0 < count) × AreTreesBelow count others

abbrev pub IsOperandBelow : ℕ → Option Operand → Type 0
IsOperandBelow count None = Unit {0}
IsOperandBelow count (Some operand) = operand.of.0 < count

-- the types that a node names are there
pub record IsNodeBelow (count : ℕ) (node : Node) : Type 0 where
  pub operand : IsOperandBelow count node.operand
  pub of : IsTypeNumberBelow count node.of

abbrev pub AreNodesBelow : ℕ → List Node → Type 0
AreNodesBelow count [] = Unit {0}
AreNodesBelow count (node ∷ nodes) = IsNodeBelow count node × AreNodesBelow count nodes

-- the children of each of some nodes, the first of which has a number, stand before it
abbrev pub HaveEarlierChildren : ℕ → List Node → Type 0
HaveEarlierChildren number [] = Unit {0}
HaveEarlierChildren number (node ∷ nodes) = AreTreesBelow number node.children × HaveEarlierChildren (suc number) nodes

-- A list of trees that grew: each number that was given before names the same tree.
pub record KeepsTrees (old new : List CxxTree) : Type 0 where
  pub grows : length old ≤ length new
  pub same : (i : ℕ) → i < length old → tree_in new i ≡ tree_in old i

-- 8.3.4: a bound, where one is written
abbrev pub bound_of : Option ℕ → CxxBound
bound_of None = unknown_bound
bound_of (Some n) = number_bound n
