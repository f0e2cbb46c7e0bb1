-- What the laws do not say, worked.
use Rattle.std.specs.Prelude.{◌≡◌, Bool, true, false, [], Some, None, Ok, refl}
use Rattle.cxx_model.specs.declared.base.Base.TheVariants as base
use Rattle.cxx_model.specs.declared.sequence.ConstantKind.TheVariants as constant
use Rattle.cxx_model.specs.declared.sequence.Order.TheVariants.{Better, Same}
use Rattle.cxx_model.specs.declared.sequence.Second.TheVariants as second
use Rattle.cxx_model.specs.declared.types.Cv.{Cv}
use Rattle.cxx_model.specs.Facts.Declarations.{CxxGraph}
use Rattle.cxx_model.specs.Types.Trees.{CxxType, class_type, fundamental, pointer_to, function_of, qualified, no_types}
use Rattle.cxx_meaning.specs.Conversions.Order.{is_proper_part, told_by}
use Rattle.cxx_meaning.specs.Conversions.Pointers.{common_pointer}
use Rattle.cxx_meaning.specs.Conversions.Standard.{CxxOperand, CxxStandard, is_text, pointer_to_other, standard_sequence, steps_between, steps_by_kinds, steps_of_kinds, steps_of_pointer, steps_of_pointers, steps_of_value, steps_to_scalar, value_step}

abbrev nothing : CxxGraph
nothing = record { facts = []; classes = []; patterns = [] }

abbrev value : CxxType → CxxOperand
value t = record { of = t; lvalue = false; constant = constant.No }

abbrev only_const : Cv
only_const = record { is_const = true; is_volatile = false }

abbrev no_words : Cv
no_words = record { is_const = false; is_volatile = false }

-- ---- types that are not in the one form

-- `void ()`
abbrev function : CxxType
function = function_of (fundamental base.Void) no_types false no_words

-- 8.3.5: a function that is `const`, which is no type of the standard: the common type loses the word
const_function_has_a_common_pointer : common_pointer nothing (qualified only_const function) function ≡ Ok (Some (pointer_to function))
unfolding common_pointer
const_function_has_a_common_pointer = refl

const_function_pointer_is_not_converted : standard_sequence nothing (value (pointer_to (qualified only_const function))) (pointer_to function) ≡ Ok None
unfolding is_text pointer_to_other standard_sequence steps_between steps_by_kinds steps_of_kinds steps_of_pointer steps_of_pointers steps_of_value steps_to_scalar value_step
const_function_pointer_is_not_converted = refl

-- ---- steps that give types that are not similar

-- a conversion of a pointer to the first class, by a pointer conversion, and by a qualification behind it where the last
-- argument says so
abbrev of_pointer : CxxType → Bool → CxxStandard
of_pointer to qualifies = record { from = value (pointer_to (class_type 0)); to = pointer_to to; first = None; second = Some second.Pointer; third = qualifies; binding = false }

-- 13.3.3.2: To `void *` and to `const B *`: the kinds of the steps of the first are among those of the second, but they
-- are other steps. What decides is that `B` is a base.
steps_to_other_types_are_others : told_by is_proper_part (of_pointer (fundamental base.Void) false) (of_pointer (qualified only_const (class_type 1)) true) ≡ Same
unfolding is_proper_part
steps_to_other_types_are_others = refl

-- to `B *` and to `const B *`: the first is a proper subsequence
steps_to_similar_types_are_the_same : told_by is_proper_part (of_pointer (class_type 1) false) (of_pointer (qualified only_const (class_type 1)) true) ≡ Better
unfolding is_proper_part
steps_to_similar_types_are_the_same = refl
