-- No type of a table holds a specialisation that is a class of its own.
use Rattle.std.specs.Prelude.{List, [], ◌∷◌, length}
use Rattle.cxx_model.specs.declared.types.Argument.{Argument}
use Rattle.cxx_model.specs.declared.types.Argument.TheVariants as argument
use Rattle.cxx_model.specs.declared.types.Bound.{Bound}
use Rattle.cxx_model.specs.declared.types.Bound.TheVariants as bound
use Rattle.cxx_model.specs.declared.types.Formula.{Formula, Value, Parameter, Member, SizeOf, Cast', Unary', Binary', Conditional'}
use Rattle.cxx_model.specs.declared.types.TypeId.{TypeId}
use Rattle.cxx_model.specs.declared.types.TypeNode.{TypeNode}
use Rattle.cxx_model.specs.declared.types.TypeNode.TheVariants as node
use Rattle.cxx_model.specs.Types.Numbers.{types_at, formula_at, bound_at, argument_at, arguments_at, type_over, IsFormulaBelow, IsBoundBelow, IsArgumentBelow, AreArgumentsBelow, AreTypesBelow, IsNodeBelow}
use Rattle.cxx_model.specs.Types.Proper.{IsProper, AreTypesProper, IsBoundProper, IsArgumentProper, AreArgumentsProper, IsFormulaProper}
use Rattle.cxx_model.specs.Types.Trees.{CxxType}
use Rattle.cxx_types.specs.Table.{AreProper, IsNodeProper}

formula-proper : (types : List CxxType) (x : Formula) → AreProper types → IsFormulaBelow (length types) x → IsFormulaProper (formula_at types x)
formula-proper types (Value value of) each ok = each of.0 ok
formula-proper types (Parameter depth index) each ok = tt
formula-proper types (Member of word) each ok = each of.0 ok
formula-proper types (SizeOf of) each ok = each of.0 ok
formula-proper types (Cast' of p f) each ok = (each of.0 ok.0, formula-proper types f each ok.1)
formula-proper types (Unary' operator p f) each ok = formula-proper types f each ok
formula-proper types (Binary' operator p f q g) each ok = (formula-proper types f each ok.0, formula-proper types g each ok.1)
formula-proper types (Conditional' p f q g r h) each ok = (formula-proper types f each ok.0, formula-proper types g each ok.1, formula-proper types h each ok.2)

pub bound-proper : (types : List CxxType) (x : Bound) → AreProper types → IsBoundBelow (length types) x → IsBoundProper (bound_at types x)
bound-proper types bound.Unknown each ok = tt
bound-proper types (bound.Number n) each ok = tt
bound-proper types (bound.Computed f) each ok = formula-proper types f.value each ok

argument-proper : (types : List CxxType) (x : Argument) → AreProper types → IsArgumentBelow (length types) x → IsArgumentProper (argument_at types x)
argument-proper types (argument.OfType of) each ok = each of.0 ok
argument-proper types (argument.Value value of) each ok = each of.0 ok
argument-proper types (argument.Computed f) each ok = formula-proper types f.value each ok

pub arguments-proper : (types : List CxxType) (x : List Argument) → AreProper types → AreArgumentsBelow (length types) x → AreArgumentsProper (arguments_at types x)
arguments-proper types [] each ok = tt
arguments-proper types (x ∷ others) each ok = (argument-proper types x each ok.0, arguments-proper types others each ok.1)

pub types-proper : (types : List CxxType) (x : List TypeId) → AreProper types → AreTypesBelow (length types) x → AreTypesProper (types_at types x)
types-proper types [] each ok = tt
types-proper types (x ∷ others) each ok = (each x.0 ok.0, types-proper types others each ok.1)

pub node-proper : (types : List CxxType) (x : TypeNode) → AreProper types → IsNodeBelow (length types) x → IsNodeProper types x → IsProper (type_over types x)
node-proper types (node.Plain base) each ok depends = tt
node-proper types (node.Class n) each ok depends = tt
node-proper types (node.Enum n) each ok depends = tt
node-proper types (node.Pointer of) each ok depends = each of.0 ok
node-proper types (node.Reference of) each ok depends = each of.0 ok
node-proper types (node.Array of bound) each ok depends = (each of.0 ok.0, bound-proper types bound each ok.1)
node-proper types (node.Function r ns ellipsis cv) each ok depends = (each r.0 ok.0, types-proper types ns each ok.1)
node-proper types (node.Qualified cv of) each ok depends = each of.0 ok
node-proper types (node.Parameter depth index) each ok depends = tt
node-proper types (node.Special n given) each ok depends = (depends, arguments-proper types given each ok)
node-proper types (node.Nested of word) each ok depends = each of.0 ok
