-- Types that depend on parameters of templates, and specialisations that are no classes of their own (14.2, 14.6.2.1).
use Rattle.std.specs.Prelude.{Bool, true, false, ◌||◌, IsTrue}
use Rattle.cxx_model.specs.Types.Trees.{CxxType, fundamental, class_type, enumeration, pointer_to, reference_to, array_of, function_of, qualified, type_parameter, specialisation, nested_in, CxxTypes, no_types, type_then, CxxBound, unknown_bound, number_bound, formula_bound, CxxArgument, type_argument, value_argument, formula_argument, CxxArguments, no_arguments, argument_then, CxxFormula, value_of, value_parameter, member_of, size_of, cast_to, unary, binary, conditional, IsNormal}

-- 14.6.2.1: a parameter of a template stands in it
abbrev mutual
  pub depends : CxxType → Bool
  depends (fundamental base) = false
  depends (class_type n) = false
  depends (enumeration n) = false
  depends (pointer_to t) = depends t
  depends (reference_to t) = depends t
  depends (array_of t bound) = depends t || bound_depends bound
  depends (function_of r ts ellipsis cv) = depends r || types_depend ts
  depends (qualified cv t) = depends t
  depends (type_parameter depth index) = true
  depends (specialisation n arguments) = arguments_depend arguments
  depends (nested_in t word) = depends t

  pub types_depend : CxxTypes → Bool
  types_depend no_types = false
  types_depend (type_then t ts) = depends t || types_depend ts

  pub bound_depends : CxxBound → Bool
  bound_depends unknown_bound = false
  bound_depends (number_bound n) = false
  bound_depends (formula_bound f) = formula_depends f

  pub argument_depends : CxxArgument → Bool
  argument_depends (type_argument t) = depends t
  argument_depends (value_argument value t) = depends t
  argument_depends (formula_argument f) = formula_depends f

  pub arguments_depend : CxxArguments → Bool
  arguments_depend no_arguments = false
  arguments_depend (argument_then a others) = argument_depends a || arguments_depend others

  pub formula_depends : CxxFormula → Bool
  formula_depends (value_of value t) = depends t
  formula_depends (value_parameter depth index) = true
  formula_depends (member_of t word) = depends t
  formula_depends (size_of t) = depends t
  formula_depends (cast_to t f) = depends t || formula_depends f
  formula_depends (unary operator f) = formula_depends f
  formula_depends (binary operator f g) = formula_depends f || formula_depends g
  formula_depends (conditional f g h) = formula_depends f || (formula_depends g || formula_depends h)

-- 14.7.1: Each specialisation in it names a parameter of a template. One that names none is the class that was reserved
-- for it, and stands as that class.
abbrev mutual
  pub IsProper : CxxType → Type 0
  IsProper (fundamental base) = Unit {0}
  IsProper (class_type n) = Unit {0}
  IsProper (enumeration n) = Unit {0}
  IsProper (pointer_to t) = IsProper t
  IsProper (reference_to t) = IsProper t
  IsProper (array_of t bound) = IsProper t × IsBoundProper bound
  IsProper (function_of r ts ellipsis cv) = IsProper r × AreTypesProper ts
  IsProper (qualified cv t) = IsProper t
  IsProper (type_parameter depth index) = Unit {0}
  IsProper (specialisation n arguments) = IsTrue (arguments_depend arguments) × AreArgumentsProper arguments
  IsProper (nested_in t word) = IsProper t

  pub AreTypesProper : CxxTypes → Type 0
  AreTypesProper no_types = Unit {0}
  AreTypesProper (type_then t ts) = IsProper t × AreTypesProper ts

  pub IsBoundProper : CxxBound → Type 0
  IsBoundProper unknown_bound = Unit {0}
  IsBoundProper (number_bound n) = Unit {0}
  IsBoundProper (formula_bound f) = IsFormulaProper f

  pub IsArgumentProper : CxxArgument → Type 0
  IsArgumentProper (type_argument t) = IsProper t
  IsArgumentProper (value_argument value t) = IsProper t
  IsArgumentProper (formula_argument f) = IsFormulaProper f

  pub AreArgumentsProper : CxxArguments → Type 0
  AreArgumentsProper no_arguments = Unit {0}
  AreArgumentsProper (argument_then a others) = IsArgumentProper a × AreArgumentsProper others

  pub IsFormulaProper : CxxFormula → Type 0
  IsFormulaProper (value_of value t) = IsProper t
  IsFormulaProper (value_parameter depth index) = Unit {0}
  IsFormulaProper (member_of t word) = IsProper t
  IsFormulaProper (size_of t) = IsProper t
  IsFormulaProper (cast_to t f) = IsProper t × IsFormulaProper f
  IsFormulaProper (unary operator f) = IsFormulaProper f
  IsFormulaProper (binary operator f g) = IsFormulaProper f × IsFormulaProper g
  IsFormulaProper (conditional f g h) = IsFormulaProper f × IsFormulaProper g × IsFormulaProper h

-- A type in its one form: layers of cv as that form has them, and no specialisation that is a class of its own.
pub record IsInOneForm (t : CxxType) : Type 0 where
  pub layers : IsNormal t
  pub proper : IsProper t
