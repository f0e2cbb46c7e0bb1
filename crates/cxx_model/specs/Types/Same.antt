-- Whether two types are the same, as a test.
use Rattle.std.specs.Prelude.{ℕ, Bool, true, false, ◌&&◌, List, nat_eq}
use Rattle.std.specs.Ordering.{int_eq}
use Rattle.std.specs.Cmp.Lexicographic.{pointwise}
use Rattle.cxx_model.specs.declared.types.Cv.{Cv}
use Rattle.cxx_model.specs.Choice.Standard.{same_base}
use Rattle.cxx_model.specs.Types.Trees.{CxxType, fundamental, class_type, enumeration, pointer_to, reference_to, array_of, function_of, qualified, type_parameter, specialisation, nested_in, CxxTypes, no_types, type_then, CxxBound, unknown_bound, number_bound, formula_bound, CxxArgument, type_argument, value_argument, formula_argument, CxxArguments, no_arguments, argument_then, CxxFormula, value_of, value_parameter, member_of, size_of, cast_to, unary, binary, conditional}

abbrev pub same_bool : Bool → Bool → Bool
same_bool true b = b
same_bool false true = false
same_bool false false = true

abbrev pub same_cv : Cv → Cv → Bool
same_cv one two = same_bool one.is_const two.is_const && same_bool one.is_volatile two.is_volatile

abbrev pub same_word : List ℕ → List ℕ → Bool
same_word one two = pointwise nat_eq one two

abbrev mutual
  pub same_type : CxxType → CxxType → Bool
  same_type (fundamental one) (fundamental two) = same_base one two
  same_type (class_type m) (class_type n) = nat_eq m n
  same_type (enumeration m) (enumeration n) = nat_eq m n
  same_type (pointer_to one) (pointer_to two) = same_type one two
  same_type (reference_to one) (reference_to two) = same_type one two
  same_type (array_of one bound) (array_of two other) = same_type one two && same_bound bound other
  same_type (function_of r ts ellipsis cv) (function_of r' ts' ellipsis' cv') = same_type r r' && (same_types ts ts' && (same_bool ellipsis ellipsis' && same_cv cv cv'))
  same_type (qualified cv one) (qualified cv' two) = same_cv cv cv' && same_type one two
  same_type (type_parameter depth index) (type_parameter depth' index') = nat_eq depth depth' && nat_eq index index'
  same_type (specialisation m one) (specialisation n two) = nat_eq m n && same_arguments one two
  same_type (nested_in one word) (nested_in two word') = same_type one two && same_word word word'
  same_type _ _ = false

  pub same_types : CxxTypes → CxxTypes → Bool
  same_types no_types no_types = true
  same_types (type_then one ones) (type_then two twos) = same_type one two && same_types ones twos
  same_types _ _ = false

  pub same_bound : CxxBound → CxxBound → Bool
  same_bound unknown_bound unknown_bound = true
  same_bound (number_bound m) (number_bound n) = nat_eq m n
  same_bound (formula_bound one) (formula_bound two) = same_formula one two
  same_bound _ _ = false

  pub same_argument : CxxArgument → CxxArgument → Bool
  same_argument (type_argument one) (type_argument two) = same_type one two
  same_argument (value_argument value one) (value_argument value' two) = int_eq value value' && same_type one two
  same_argument (formula_argument one) (formula_argument two) = same_formula one two
  same_argument _ _ = false

  pub same_arguments : CxxArguments → CxxArguments → Bool
  same_arguments no_arguments no_arguments = true
  same_arguments (argument_then one ones) (argument_then two twos) = same_argument one two && same_arguments ones twos
  same_arguments _ _ = false

  pub same_formula : CxxFormula → CxxFormula → Bool
  same_formula (value_of value one) (value_of value' two) = int_eq value value' && same_type one two
  same_formula (value_parameter depth index) (value_parameter depth' index') = nat_eq depth depth' && nat_eq index index'
  same_formula (member_of one word) (member_of two word') = same_type one two && same_word word word'
  same_formula (size_of one) (size_of two) = same_type one two
  same_formula (cast_to one f) (cast_to two g) = same_type one two && same_formula f g
  same_formula (unary operator f) (unary operator' g) = nat_eq operator operator' && same_formula f g
  same_formula (binary operator f g) (binary operator' f' g') = nat_eq operator operator' && (same_formula f f' && same_formula g g')
  same_formula (conditional f g h) (conditional f' g' h') = same_formula f f' && (same_formula g g' && same_formula h h')
  same_formula _ _ = false
