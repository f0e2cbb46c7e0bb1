-- What the code knows of an expression, seen as the definitions have it.
use Rattle.std.specs.Prelude.{ℕ, ◌<◌, List, length, map, Option, Some, None, Result, Ok, Err, ℤ}
use Rattle.std.specs.Option.{option_map}
use Rattle.cxx_model.specs.declared.types.TreeId.{TreeId}
use Rattle.cxx_model.specs.Facts.Declarations.{CxxGraph, graph_at}
use Rattle.cxx_model.specs.Facts.Fitted.{Fitted}
use Rattle.cxx_model.specs.Types.Integral.{width}
use Rattle.cxx_reading.specs.Trees.{CxxTree, Label}
use Rattle.cxx_sizes.specs.Noted.{Notes}
use Rattle.cxx_tree.specs.Arena.{AreNodesBelow, HaveEarlierChildren, tree_in, trees_of}
use Rattle.cxx_constant.specs.declared.fault.ConstantFault.{ConstantFault}
use Rattle.cxx_constant.specs.declared.fault.ConstantFault.TheVariants as says
use Rattle.cxx_constant.specs.declared.form.Form.{Form}
use Rattle.cxx_constant.specs.declared.form.Form.TheVariants as form
use Rattle.cxx_constant.specs.declared.known.Known.{Known}
use Rattle.cxx_constant.specs.Constants.{CxxFault, CxxValue, Part, divide_by_zero, labels, not_constant, overflow, part_of}

abbrev pub graph_in : Known → CxxGraph
graph_in known = graph_at known.types.now known.graph.now

abbrev pub trees_in : Known → List CxxTree
trees_in known = trees_of known.types.now known.trees.now

-- the tree with a number
abbrev pub tree_at : Known → TreeId → CxxTree
tree_at known number = tree_in (trees_in known) number.0

-- the part that the tree with a number is
unfoldable pub part_at : Known → TreeId → Part
part_at known number = part_of (graph_in known) (tree_at known number)

-- the types and the rest that is known of the operands with some numbers
abbrev pub labels_in : Known → List TreeId → List Label
labels_in known operands = labels (map (part_at known) operands)

-- What fits together: the sizes are those of the graph, and each number is that of something which is there.
pub record IsKnown (known : Known) : Type 0 where
  pub fitted : Fitted known.graph.now known.types.now
  pub noted : Notes known.layouts.now (graph_at known.types.now known.graph.now).facts
  pub nodes : AreNodesBelow (length known.types.now) known.trees.now
  pub children : HaveEarlierChildren 0 known.trees.now

-- ---- what is answered, with trees in place of their numbers

abbrev pub fault_at : List CxxTree → ConstantFault → CxxFault
fault_at trees (says.NotConstant number) = not_constant (tree_in trees number.0)
fault_at trees (says.Overflow number) = overflow (tree_in trees number.0)
fault_at trees (says.DivideByZero number) = divide_by_zero (tree_in trees number.0)

abbrev pub value_at : List CxxTree → Result ℤ ConstantFault → CxxValue
value_at trees (Ok value) = Ok value
value_at trees (Err fault) = Err (fault_at trees fault)

abbrev pub missing_at : List CxxTree → Option TreeId → Option CxxTree
missing_at trees found = option_map (λ number. tree_in trees number.0) found

-- the tree that is named is there
abbrev pub IsFaultBelow : ℕ → ConstantFault → Type 0
IsFaultBelow count (says.NotConstant number) = number.0 < count
IsFaultBelow count (says.Overflow number) = number.0 < count
IsFaultBelow count (says.DivideByZero number) = number.0 < count

abbrev pub IsValueBelow : ℕ → Result ℤ ConstantFault → Type 0
IsValueBelow count (Ok value) = Unit {0}
IsValueBelow count (Err fault) = IsFaultBelow count fault

abbrev pub IsMissingBelow : ℕ → Option TreeId → Type 0
IsMissingBelow count None = Unit {0}
IsMissingBelow count (Some number) = number.0 < count

-- 3.9.1: an operator is of an integral type
abbrev pub IsFormWide : Form → Type 0
IsFormWide (form.Unary operator of) = 0 < width of
IsFormWide (form.Binary operator of) = 0 < width of
IsFormWide _ = Unit {0}
