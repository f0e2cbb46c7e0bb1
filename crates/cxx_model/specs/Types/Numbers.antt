-- The types that the trees and nodes of the code stand for. A number of a type is a place in a list of types.
use Rattle.std.specs.Prelude.{ℕ, ◌≡◌, ◌<◌, ◌≤◌, List, [], ◌∷◌, length, slice_index_or}
use Rattle.cxx_model.specs.declared.base.Base.TheVariants.{Void}
use Rattle.cxx_model.specs.declared.types.TypeId.{TypeId}
use Rattle.cxx_model.specs.declared.types.Formula.{Formula, Value, Parameter, Member, SizeOf, Cast', Unary', Binary', Conditional'}
use Rattle.cxx_model.specs.declared.types.Bound.{Bound}
use Rattle.cxx_model.specs.declared.types.Bound.TheVariants as bound
use Rattle.cxx_model.specs.declared.types.Argument.{Argument}
use Rattle.cxx_model.specs.declared.types.Argument.TheVariants as argument
use Rattle.cxx_model.specs.declared.types.TypeNode.{TypeNode}
use Rattle.cxx_model.specs.declared.types.TypeNode.TheVariants as node
use Rattle.cxx_model.specs.declared.types.TypeTree as tree
use Rattle.cxx_model.specs.declared.types.TypeTree.{TypeTree}
use Rattle.cxx_model.specs.Types.Trees.{CxxType, fundamental, class_type, enumeration, pointer_to, reference_to, array_of, function_of, qualified, type_parameter, specialisation, nested_in, CxxTypes, no_types, type_then, CxxBound, unknown_bound, number_bound, formula_bound, CxxArgument, type_argument, value_argument, formula_argument, CxxArguments, no_arguments, argument_then, CxxFormula, value_of, value_parameter, member_of, size_of, cast_to, unary, binary, conditional}

-- the type with a number; past the end of the list, any
abbrev pub type_at : List CxxType → ℕ → CxxType
type_at types n = slice_index_or types n (fundamental Void)

abbrev pub formula_at : List CxxType → Formula → CxxFormula
formula_at types (Value value of) = value_of value (type_at types of.0)
formula_at types (Parameter depth index) = value_parameter depth index
formula_at types (Member of word) = member_of (type_at types of.0) word
formula_at types (SizeOf of) = size_of (type_at types of.0)
formula_at types (Cast' of p f) = cast_to (type_at types of.0) (formula_at types f)
formula_at types (Unary' operator p f) = unary operator (formula_at types f)
formula_at types (Binary' operator p f q g) = binary operator (formula_at types f) (formula_at types g)
formula_at types (Conditional' p f q g r h) = conditional (formula_at types f) (formula_at types g) (formula_at types h)

abbrev pub bound_at : List CxxType → Bound → CxxBound
bound_at types bound.Unknown = unknown_bound
bound_at types (bound.Number n) = number_bound n
bound_at types (bound.Computed f) = formula_bound (formula_at types f.value)

abbrev pub argument_at : List CxxType → Argument → CxxArgument
argument_at types (argument.OfType of) = type_argument (type_at types of.0)
argument_at types (argument.Value value of) = value_argument value (type_at types of.0)
argument_at types (argument.Computed f) = formula_argument (formula_at types f.value)

abbrev pub arguments_at : List CxxType → List Argument → CxxArguments
arguments_at types [] = no_arguments
arguments_at types (a ∷ others) = argument_then (argument_at types a) (arguments_at types others)

abbrev pub types_at : List CxxType → List TypeId → CxxTypes
types_at types [] = no_types
types_at types (n ∷ others) = type_then (type_at types n.0) (types_at types others)

-- the type of a node, given the types of its parts
abbrev pub type_over : List CxxType → TypeNode → CxxType
type_over types (node.Plain base) = fundamental base
type_over types (node.Class n) = class_type n.0
type_over types (node.Enum n) = enumeration n.0
type_over types (node.Pointer of) = pointer_to (type_at types of.0)
type_over types (node.Reference of) = reference_to (type_at types of.0)
type_over types (node.Array of bound) = array_of (type_at types of.0) (bound_at types bound)
type_over types (node.Function r parameters ellipsis cv) = function_of (type_at types r.0) (types_at types parameters) ellipsis cv
type_over types (node.Qualified cv of) = qualified cv (type_at types of.0)
type_over types (node.Parameter depth index) = type_parameter depth index
type_over types (node.Special n arguments) = specialisation n.0 (arguments_at types arguments)
type_over types (node.Nested of word) = nested_in (type_at types of.0) word

-- the type of a tree; what stands in its arguments and formulas is named by number
abbrev mutual
  pub tree_at : List CxxType → TypeTree → CxxType
  tree_at types (tree.Plain base) = fundamental base
  tree_at types (tree.Class n) = class_type n.0
  tree_at types (tree.Enum n) = enumeration n.0
  tree_at types (tree.Pointer' p t) = pointer_to (tree_at types t)
  tree_at types (tree.Reference' p t) = reference_to (tree_at types t)
  tree_at types (tree.Array' p t bound) = array_of (tree_at types t) (bound_at types bound)
  tree_at types (tree.Function' p r shape parameters ellipsis cv) = function_of (tree_at types r) (row_at types parameters) ellipsis cv
  tree_at types (tree.Qualified' cv p t) = qualified cv (tree_at types t)
  tree_at types (tree.Parameter depth index) = type_parameter depth index
  tree_at types (tree.Special n arguments) = specialisation n.0 (arguments_at types arguments)
  tree_at types (tree.Nested' p t word) = nested_in (tree_at types t) word

  pub row_at : List CxxType → {m : _} → tree.Row_of-TypeTree m → CxxTypes
  row_at types tree.end_of-TypeTree = no_types
  row_at types (tree.more_of-TypeTree t rest) = type_then (tree_at types t) (row_at types rest)

-- Each number in it is below a count.
abbrev pub IsFormulaBelow : ℕ → Formula → Type 0
IsFormulaBelow count (Value value of) = of.0 < count
IsFormulaBelow count (Parameter depth index) = Unit {0}
IsFormulaBelow count (Member of word) = of.0 < count
IsFormulaBelow count (SizeOf of) = of.0 < count
IsFormulaBelow count (Cast' of p f) = (of.0 < count) × IsFormulaBelow count f
IsFormulaBelow count (Unary' operator p f) = IsFormulaBelow count f
IsFormulaBelow count (Binary' operator p f q g) = IsFormulaBelow count f × IsFormulaBelow count g
IsFormulaBelow count (Conditional' p f q g r h) = IsFormulaBelow count f × IsFormulaBelow count g × IsFormulaBelow count h

abbrev pub IsBoundBelow : ℕ → Bound → Type 0
IsBoundBelow count bound.Unknown = Unit {0}
IsBoundBelow count (bound.Number n) = Unit {0}
IsBoundBelow count (bound.Computed f) = IsFormulaBelow count f.value

abbrev pub IsArgumentBelow : ℕ → Argument → Type 0
IsArgumentBelow count (argument.OfType of) = of.0 < count
IsArgumentBelow count (argument.Value value of) = of.0 < count
IsArgumentBelow count (argument.Computed f) = IsFormulaBelow count f.value

abbrev pub AreArgumentsBelow : ℕ → List Argument → Type 0
AreArgumentsBelow count [] = Unit {0}
AreArgumentsBelow count (a ∷ others) = IsArgumentBelow count a × AreArgumentsBelow count others

abbrev pub AreTypesBelow : ℕ → List TypeId → Type 0
AreTypesBelow count [] = Unit {0}
AreTypesBelow count (n ∷ others) = (n.0 < count) × AreTypesBelow count others

abbrev pub IsNodeBelow : ℕ → TypeNode → Type 0
IsNodeBelow count (node.Plain base) = Unit {0}
IsNodeBelow count (node.Class n) = Unit {0}
IsNodeBelow count (node.Enum n) = Unit {0}
IsNodeBelow count (node.Pointer of) = of.0 < count
IsNodeBelow count (node.Reference of) = of.0 < count
IsNodeBelow count (node.Array of bound) = (of.0 < count) × IsBoundBelow count bound
IsNodeBelow count (node.Function r parameters ellipsis cv) = (r.0 < count) × AreTypesBelow count parameters
IsNodeBelow count (node.Qualified cv of) = of.0 < count
IsNodeBelow count (node.Parameter depth index) = Unit {0}
IsNodeBelow count (node.Special n arguments) = AreArgumentsBelow count arguments
IsNodeBelow count (node.Nested of word) = of.0 < count

abbrev mutual
  pub IsTreeBelow : ℕ → TypeTree → Type 0
  IsTreeBelow count (tree.Plain base) = Unit {0}
  IsTreeBelow count (tree.Class n) = Unit {0}
  IsTreeBelow count (tree.Enum n) = Unit {0}
  IsTreeBelow count (tree.Pointer' p t) = IsTreeBelow count t
  IsTreeBelow count (tree.Reference' p t) = IsTreeBelow count t
  IsTreeBelow count (tree.Array' p t bound) = IsTreeBelow count t × IsBoundBelow count bound
  IsTreeBelow count (tree.Function' p r shape parameters ellipsis cv) = IsTreeBelow count r × IsRowBelow count parameters
  IsTreeBelow count (tree.Qualified' cv p t) = IsTreeBelow count t
  IsTreeBelow count (tree.Parameter depth index) = Unit {0}
  IsTreeBelow count (tree.Special n arguments) = AreArgumentsBelow count arguments
  IsTreeBelow count (tree.Nested' p t word) = IsTreeBelow count t

  pub IsRowBelow : ℕ → {m : _} → tree.Row_of-TypeTree m → Type 0
  IsRowBelow count tree.end_of-TypeTree = Unit {0}
  IsRowBelow count (tree.more_of-TypeTree t rest) = IsTreeBelow count t × IsRowBelow count rest

-- A list of types that grew: each number that was given before names the same type.
pub record Keeps (old new : List CxxType) : Type 0 where
  pub grows : length old ≤ length new
  pub same : (i : ℕ) → i < length old → type_at new i ≡ type_at old i

-- no type has two numbers
abbrev pub AreApart : List CxxType → Type 0
AreApart types = (i j : ℕ) → i < length types → j < length types → type_at types i ≡ type_at types j → i ≡ j
