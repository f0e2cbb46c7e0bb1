-- Conversions and their order, worked, each as the standard has it.
use Rattle.std.specs.Prelude.{◌≡◌, true, false, [], ◌∷◌, map, Option, Some, None, Result, Ok, pos, refl}
use Rattle.cxx_model.specs.declared.base.Base.TheVariants as base
use Rattle.cxx_model.specs.declared.facts.Access.TheVariants.{Public}
use Rattle.cxx_model.specs.declared.facts.ScopeKind.TheVariants as kind
use Rattle.cxx_model.specs.declared.sequence.ConstantKind.TheVariants as constant
use Rattle.cxx_model.specs.declared.sequence.First.TheVariants.{LvalueToRvalue, ArrayToPointer, FunctionToPointer}
use Rattle.cxx_model.specs.declared.sequence.Order.{Order}
use Rattle.cxx_model.specs.declared.sequence.Order.TheVariants.{Better, Worse, Same}
use Rattle.cxx_model.specs.declared.sequence.Second.TheVariants.{IntegralPromotion, FloatingPromotion, Integral, Floating, FloatingIntegral, Pointer, Boolean, DerivedToBase}
use Rattle.cxx_model.specs.declared.types.ClassId.{ClassId}
use Rattle.cxx_model.specs.Facts.Declarations as facts
use Rattle.cxx_model.specs.Facts.Declarations.{CxxFact, CxxGraph, Declares, unnamed}
use Rattle.cxx_model.specs.Types.Trees.{CxxType, fundamental, class_type, enumeration, pointer_to, reference_to, array_of, function_of, qualified, no_types, number_bound, unknown_bound}
use Rattle.cxx_meaning.specs.declared.steps.SequenceSteps.{SequenceSteps}
use Rattle.cxx_meaning.specs.Conversions.Derived.{is_derived}
use Rattle.cxx_meaning.specs.Conversions.Enumerations.{promoted}
use Rattle.cxx_model.specs.Facts.Pending.{is_pending}
use Rattle.cxx_meaning.specs.Conversions.Standard.{CxxOperand, CxxStandard, no_steps, sequence_by, pointer_to_class, pointer_to_other, steps_of_pointers, step_of_enumeration, is_text, steps_of_arithmetic, steps_of_enumeration, steps_of_pointer, steps_of_kinds, value_step, class_step, steps_to_scalar, steps_to_class, steps_by_kinds, steps_of_value, related_kinds, related, steps_of_related, steps_of_unrelated, steps_by_relation, steps_of_reference, steps_between, standard_sequence}
use Rattle.cxx_meaning.specs.Conversions.Order.{order_of, is_proper_part, is_no_pointer_to_bool, way_of, way_of_pointers, way_of_classes, is_shorter, is_nearer, has_nearer_class, is_less_qualified, refers_to_less, is_bound_to_less}

-- ---- how rows are written

abbrev const_of : CxxType → CxxType
const_of t = qualified (record { is_const = true; is_volatile = false }) t

abbrev volatile_of : CxxType → CxxType
volatile_of t = qualified (record { is_const = false; is_volatile = true }) t

abbrev bool : CxxType
bool = fundamental base.Bool

abbrev char : CxxType
char = fundamental base.Char

abbrev wide : CxxType
wide = fundamental base.WideChar

abbrev int : CxxType
int = fundamental base.Int

abbrev long : CxxType
long = fundamental base.Long

abbrev float : CxxType
float = fundamental base.Float

abbrev double : CxxType
double = fundamental base.Double

abbrev void : CxxType
void = fundamental base.Void

abbrev to : CxxType → CxxType
to t = pointer_to t

abbrev ref : CxxType → CxxType
ref t = reference_to t

abbrev three : CxxType → CxxType
three t = array_of t (number_bound 3)

abbrev function : CxxType
function = function_of int no_types false (record { is_const = false; is_volatile = false })

abbrev put : Declares → CxxFact
put what = record { place = record { line = 1; column = 1 }; scope = 0; name = unnamed; access = Public; what = what }

-- enum E { e }; enum L { l = 4294967296 }; struct A { }; struct B : A { }; struct C : B { }; struct X;
abbrev graph : CxxGraph
graph = record {
  classes = None ∷ None ∷ None ∷ None ∷ [];
  patterns = [];
  facts = map put (
      facts.scope None kind.Space ∷ facts.enumeration 0 ∷ facts.enumerator 0 (pos 0) ∷ facts.enumeration 1 ∷ facts.enumerator 1 (pos 4294967296) ∷
      facts.complete (record { 0 = 0 }) ∷
      facts.ancestor (record { 0 = 1 }) (record { 0 = 0 }) 1 Public ∷ facts.complete (record { 0 = 1 }) ∷
      facts.ancestor (record { 0 = 2 }) (record { 0 = 1 }) 1 Public ∷ facts.complete (record { 0 = 2 }) ∷ []);
}

abbrev an_e : CxxType
an_e = enumeration 0

abbrev an_l : CxxType
an_l = enumeration 1

abbrev a : CxxType
a = class_type 0

abbrev b : CxxType
b = class_type 1

abbrev c : CxxType
c = class_type 2

abbrev lvalue : CxxType → CxxOperand
lvalue t = record { of = t; lvalue = true; constant = constant.No }

abbrev rvalue : CxxType → CxxOperand
rvalue t = record { of = t; lvalue = false; constant = constant.No }

abbrev zero : CxxOperand
zero = record { of = int; lvalue = false; constant = constant.Zero }

abbrev text : CxxOperand
text = record { of = array_of (const_of char) (number_bound 4); lvalue = true; constant = constant.NarrowText }

abbrev Converts : CxxOperand → CxxType → SequenceSteps → Type 0
Converts from target steps = standard_sequence graph from target ≡ Ok (Some (sequence_by from target steps))

abbrev IsRefused : CxxOperand → CxxType → Type 0
IsRefused from target = standard_sequence graph from target ≡ Ok None

-- 4.1
row_1 : Converts (lvalue int) int (record { first = Some LvalueToRvalue; second = None; third = false; binding = false })
unfolding standard_sequence steps_between steps_of_reference steps_by_relation steps_of_unrelated steps_of_related related related_kinds steps_of_value steps_by_kinds steps_to_class steps_to_scalar class_step value_step steps_of_kinds steps_of_pointer steps_of_enumeration steps_of_arithmetic is_text step_of_enumeration steps_of_pointers pointer_to_other pointer_to_class is_derived is_pending promoted
row_1 = refl

-- identity
row_2 : Converts (rvalue int) int (record { first = None; second = None; third = false; binding = false })
unfolding standard_sequence steps_between steps_of_reference steps_by_relation steps_of_unrelated steps_of_related related related_kinds steps_of_value steps_by_kinds steps_to_class steps_to_scalar class_step value_step steps_of_kinds steps_of_pointer steps_of_enumeration steps_of_arithmetic is_text step_of_enumeration steps_of_pointers pointer_to_other pointer_to_class is_derived is_pending promoted
row_2 = refl

-- 4.1: the value has no cv words
row_3 : Converts (lvalue (const_of int)) int (record { first = Some LvalueToRvalue; second = None; third = false; binding = false })
unfolding standard_sequence steps_between steps_of_reference steps_by_relation steps_of_unrelated steps_of_related related related_kinds steps_of_value steps_by_kinds steps_to_class steps_to_scalar class_step value_step steps_of_kinds steps_of_pointer steps_of_enumeration steps_of_arithmetic is_text step_of_enumeration steps_of_pointers pointer_to_other pointer_to_class is_derived is_pending promoted
row_3 = refl

-- 4.5
row_4 : Converts (lvalue char) int (record { first = Some LvalueToRvalue; second = Some IntegralPromotion; third = false; binding = false })
unfolding standard_sequence steps_between steps_of_reference steps_by_relation steps_of_unrelated steps_of_related related related_kinds steps_of_value steps_by_kinds steps_to_class steps_to_scalar class_step value_step steps_of_kinds steps_of_pointer steps_of_enumeration steps_of_arithmetic is_text step_of_enumeration steps_of_pointers pointer_to_other pointer_to_class is_derived is_pending promoted
row_4 = refl

-- 4.5
row_5 : Converts (rvalue wide) int (record { first = None; second = Some IntegralPromotion; third = false; binding = false })
unfolding standard_sequence steps_between steps_of_reference steps_by_relation steps_of_unrelated steps_of_related related related_kinds steps_of_value steps_by_kinds steps_to_class steps_to_scalar class_step value_step steps_of_kinds steps_of_pointer steps_of_enumeration steps_of_arithmetic is_text step_of_enumeration steps_of_pointers pointer_to_other pointer_to_class is_derived is_pending promoted
row_5 = refl

-- 4.5
row_6 : Converts (rvalue bool) int (record { first = None; second = Some IntegralPromotion; third = false; binding = false })
unfolding standard_sequence steps_between steps_of_reference steps_by_relation steps_of_unrelated steps_of_related related related_kinds steps_of_value steps_by_kinds steps_to_class steps_to_scalar class_step value_step steps_of_kinds steps_of_pointer steps_of_enumeration steps_of_arithmetic is_text step_of_enumeration steps_of_pointers pointer_to_other pointer_to_class is_derived is_pending promoted
row_6 = refl

-- 4.6
row_7 : Converts (rvalue float) double (record { first = None; second = Some FloatingPromotion; third = false; binding = false })
unfolding standard_sequence steps_between steps_of_reference steps_by_relation steps_of_unrelated steps_of_related related related_kinds steps_of_value steps_by_kinds steps_to_class steps_to_scalar class_step value_step steps_of_kinds steps_of_pointer steps_of_enumeration steps_of_arithmetic is_text step_of_enumeration steps_of_pointers pointer_to_other pointer_to_class is_derived is_pending promoted
row_7 = refl

-- 4.7
row_8 : Converts (rvalue int) char (record { first = None; second = Some Integral; third = false; binding = false })
unfolding standard_sequence steps_between steps_of_reference steps_by_relation steps_of_unrelated steps_of_related related related_kinds steps_of_value steps_by_kinds steps_to_class steps_to_scalar class_step value_step steps_of_kinds steps_of_pointer steps_of_enumeration steps_of_arithmetic is_text step_of_enumeration steps_of_pointers pointer_to_other pointer_to_class is_derived is_pending promoted
row_8 = refl

-- 4.8
row_9 : Converts (rvalue double) float (record { first = None; second = Some Floating; third = false; binding = false })
unfolding standard_sequence steps_between steps_of_reference steps_by_relation steps_of_unrelated steps_of_related related related_kinds steps_of_value steps_by_kinds steps_to_class steps_to_scalar class_step value_step steps_of_kinds steps_of_pointer steps_of_enumeration steps_of_arithmetic is_text step_of_enumeration steps_of_pointers pointer_to_other pointer_to_class is_derived is_pending promoted
row_9 = refl

-- 4.9
row_10 : Converts (rvalue int) float (record { first = None; second = Some FloatingIntegral; third = false; binding = false })
unfolding standard_sequence steps_between steps_of_reference steps_by_relation steps_of_unrelated steps_of_related related related_kinds steps_of_value steps_by_kinds steps_to_class steps_to_scalar class_step value_step steps_of_kinds steps_of_pointer steps_of_enumeration steps_of_arithmetic is_text step_of_enumeration steps_of_pointers pointer_to_other pointer_to_class is_derived is_pending promoted
row_10 = refl

-- 4.12
row_11 : Converts (rvalue int) bool (record { first = None; second = Some Boolean; third = false; binding = false })
unfolding standard_sequence steps_between steps_of_reference steps_by_relation steps_of_unrelated steps_of_related related related_kinds steps_of_value steps_by_kinds steps_to_class steps_to_scalar class_step value_step steps_of_kinds steps_of_pointer steps_of_enumeration steps_of_arithmetic is_text step_of_enumeration steps_of_pointers pointer_to_other pointer_to_class is_derived is_pending promoted
row_11 = refl

-- 4.5: an enumeration whose values `int` holds
row_12 : Converts (rvalue an_e) int (record { first = None; second = Some IntegralPromotion; third = false; binding = false })
unfolding standard_sequence steps_between steps_of_reference steps_by_relation steps_of_unrelated steps_of_related related related_kinds steps_of_value steps_by_kinds steps_to_class steps_to_scalar class_step value_step steps_of_kinds steps_of_pointer steps_of_enumeration steps_of_arithmetic is_text step_of_enumeration steps_of_pointers pointer_to_other pointer_to_class is_derived is_pending promoted
row_12 = refl

-- 4.7
row_13 : Converts (rvalue an_e) long (record { first = None; second = Some Integral; third = false; binding = false })
unfolding standard_sequence steps_between steps_of_reference steps_by_relation steps_of_unrelated steps_of_related related related_kinds steps_of_value steps_by_kinds steps_to_class steps_to_scalar class_step value_step steps_of_kinds steps_of_pointer steps_of_enumeration steps_of_arithmetic is_text step_of_enumeration steps_of_pointers pointer_to_other pointer_to_class is_derived is_pending promoted
row_13 = refl

-- 4.5: an enumeration whose values `int` does not hold
row_14 : Converts (rvalue an_l) long (record { first = None; second = Some IntegralPromotion; third = false; binding = false })
unfolding standard_sequence steps_between steps_of_reference steps_by_relation steps_of_unrelated steps_of_related related related_kinds steps_of_value steps_by_kinds steps_to_class steps_to_scalar class_step value_step steps_of_kinds steps_of_pointer steps_of_enumeration steps_of_arithmetic is_text step_of_enumeration steps_of_pointers pointer_to_other pointer_to_class is_derived is_pending promoted
row_14 = refl

-- 4.7
row_15 : Converts (rvalue an_l) int (record { first = None; second = Some Integral; third = false; binding = false })
unfolding standard_sequence steps_between steps_of_reference steps_by_relation steps_of_unrelated steps_of_related related related_kinds steps_of_value steps_by_kinds steps_to_class steps_to_scalar class_step value_step steps_of_kinds steps_of_pointer steps_of_enumeration steps_of_arithmetic is_text step_of_enumeration steps_of_pointers pointer_to_other pointer_to_class is_derived is_pending promoted
row_15 = refl

-- 4.9
row_16 : Converts (rvalue an_e) double (record { first = None; second = Some FloatingIntegral; third = false; binding = false })
unfolding standard_sequence steps_between steps_of_reference steps_by_relation steps_of_unrelated steps_of_related related related_kinds steps_of_value steps_by_kinds steps_to_class steps_to_scalar class_step value_step steps_of_kinds steps_of_pointer steps_of_enumeration steps_of_arithmetic is_text step_of_enumeration steps_of_pointers pointer_to_other pointer_to_class is_derived is_pending promoted
row_16 = refl

-- 4.12
row_17 : Converts (rvalue an_e) bool (record { first = None; second = Some Boolean; third = false; binding = false })
unfolding standard_sequence steps_between steps_of_reference steps_by_relation steps_of_unrelated steps_of_related related related_kinds steps_of_value steps_by_kinds steps_to_class steps_to_scalar class_step value_step steps_of_kinds steps_of_pointer steps_of_enumeration steps_of_arithmetic is_text step_of_enumeration steps_of_pointers pointer_to_other pointer_to_class is_derived is_pending promoted
row_17 = refl

-- identity
row_18 : Converts (rvalue an_e) an_e (record { first = None; second = None; third = false; binding = false })
unfolding standard_sequence steps_between steps_of_reference steps_by_relation steps_of_unrelated steps_of_related related related_kinds steps_of_value steps_by_kinds steps_to_class steps_to_scalar class_step value_step steps_of_kinds steps_of_pointer steps_of_enumeration steps_of_arithmetic is_text step_of_enumeration steps_of_pointers pointer_to_other pointer_to_class is_derived is_pending promoted
row_18 = refl

-- nothing is converted to an enumeration
row_19 : IsRefused (rvalue int) an_e
unfolding standard_sequence steps_between steps_of_reference steps_by_relation steps_of_unrelated steps_of_related related related_kinds steps_of_value steps_by_kinds steps_to_class steps_to_scalar class_step value_step steps_of_kinds steps_of_pointer steps_of_enumeration steps_of_arithmetic is_text step_of_enumeration steps_of_pointers pointer_to_other pointer_to_class is_derived is_pending promoted
row_19 = refl

-- nothing is converted to an enumeration
row_20 : IsRefused (rvalue an_e) an_l
unfolding standard_sequence steps_between steps_of_reference steps_by_relation steps_of_unrelated steps_of_related related related_kinds steps_of_value steps_by_kinds steps_to_class steps_to_scalar class_step value_step steps_of_kinds steps_of_pointer steps_of_enumeration steps_of_arithmetic is_text step_of_enumeration steps_of_pointers pointer_to_other pointer_to_class is_derived is_pending promoted
row_20 = refl

-- 4.2
row_21 : Converts (lvalue (three int)) (to int) (record { first = Some ArrayToPointer; second = None; third = false; binding = false })
unfolding standard_sequence steps_between steps_of_reference steps_by_relation steps_of_unrelated steps_of_related related related_kinds steps_of_value steps_by_kinds steps_to_class steps_to_scalar class_step value_step steps_of_kinds steps_of_pointer steps_of_enumeration steps_of_arithmetic is_text step_of_enumeration steps_of_pointers pointer_to_other pointer_to_class is_derived is_pending promoted
row_21 = refl

-- 4.2, 4.4
row_22 : Converts (lvalue (three int)) (to (const_of int)) (record { first = Some ArrayToPointer; second = None; third = true; binding = false })
unfolding standard_sequence steps_between steps_of_reference steps_by_relation steps_of_unrelated steps_of_related related related_kinds steps_of_value steps_by_kinds steps_to_class steps_to_scalar class_step value_step steps_of_kinds steps_of_pointer steps_of_enumeration steps_of_arithmetic is_text step_of_enumeration steps_of_pointers pointer_to_other pointer_to_class is_derived is_pending promoted
row_22 = refl

-- 4.3
row_23 : Converts (lvalue function) (to function) (record { first = Some FunctionToPointer; second = None; third = false; binding = false })
unfolding standard_sequence steps_between steps_of_reference steps_by_relation steps_of_unrelated steps_of_related related related_kinds steps_of_value steps_by_kinds steps_to_class steps_to_scalar class_step value_step steps_of_kinds steps_of_pointer steps_of_enumeration steps_of_arithmetic is_text step_of_enumeration steps_of_pointers pointer_to_other pointer_to_class is_derived is_pending promoted
row_23 = refl

-- 4.2: a string literal
row_24 : Converts text (to char) (record { first = Some ArrayToPointer; second = None; third = true; binding = false })
unfolding standard_sequence steps_between steps_of_reference steps_by_relation steps_of_unrelated steps_of_related related related_kinds steps_of_value steps_by_kinds steps_to_class steps_to_scalar class_step value_step steps_of_kinds steps_of_pointer steps_of_enumeration steps_of_arithmetic is_text step_of_enumeration steps_of_pointers pointer_to_other pointer_to_class is_derived is_pending promoted
row_24 = refl

-- 4.2: a string literal keeps its words where they are wanted
row_25 : Converts text (to (const_of char)) (record { first = Some ArrayToPointer; second = None; third = false; binding = false })
unfolding standard_sequence steps_between steps_of_reference steps_by_relation steps_of_unrelated steps_of_related related related_kinds steps_of_value steps_by_kinds steps_to_class steps_to_scalar class_step value_step steps_of_kinds steps_of_pointer steps_of_enumeration steps_of_arithmetic is_text step_of_enumeration steps_of_pointers pointer_to_other pointer_to_class is_derived is_pending promoted
row_25 = refl

-- 4.2: an array of const letters that is no literal
row_26 : IsRefused (lvalue (three (const_of char))) (to char)
unfolding standard_sequence steps_between steps_of_reference steps_by_relation steps_of_unrelated steps_of_related related related_kinds steps_of_value steps_by_kinds steps_to_class steps_to_scalar class_step value_step steps_of_kinds steps_of_pointer steps_of_enumeration steps_of_arithmetic is_text step_of_enumeration steps_of_pointers pointer_to_other pointer_to_class is_derived is_pending promoted
row_26 = refl

-- 4.2: a narrow literal gives no wide letters
row_27 : IsRefused text (to wide)
unfolding standard_sequence steps_between steps_of_reference steps_by_relation steps_of_unrelated steps_of_related related related_kinds steps_of_value steps_by_kinds steps_to_class steps_to_scalar class_step value_step steps_of_kinds steps_of_pointer steps_of_enumeration steps_of_arithmetic is_text step_of_enumeration steps_of_pointers pointer_to_other pointer_to_class is_derived is_pending promoted
row_27 = refl

-- 4.4
row_28 : Converts (rvalue (to int)) (to (const_of int)) (record { first = None; second = None; third = true; binding = false })
unfolding standard_sequence steps_between steps_of_reference steps_by_relation steps_of_unrelated steps_of_related related related_kinds steps_of_value steps_by_kinds steps_to_class steps_to_scalar class_step value_step steps_of_kinds steps_of_pointer steps_of_enumeration steps_of_arithmetic is_text step_of_enumeration steps_of_pointers pointer_to_other pointer_to_class is_derived is_pending promoted
row_28 = refl

-- 4.4: a word is never lost
row_29 : IsRefused (rvalue (to (const_of int))) (to int)
unfolding standard_sequence steps_between steps_of_reference steps_by_relation steps_of_unrelated steps_of_related related related_kinds steps_of_value steps_by_kinds steps_to_class steps_to_scalar class_step value_step steps_of_kinds steps_of_pointer steps_of_enumeration steps_of_arithmetic is_text step_of_enumeration steps_of_pointers pointer_to_other pointer_to_class is_derived is_pending promoted
row_29 = refl

-- 4.4: no const in between
row_30 : IsRefused (rvalue (to (to int))) (to (to (const_of int)))
unfolding standard_sequence steps_between steps_of_reference steps_by_relation steps_of_unrelated steps_of_related related related_kinds steps_of_value steps_by_kinds steps_to_class steps_to_scalar class_step value_step steps_of_kinds steps_of_pointer steps_of_enumeration steps_of_arithmetic is_text step_of_enumeration steps_of_pointers pointer_to_other pointer_to_class is_derived is_pending promoted
row_30 = refl

-- 4.4: const in between
row_31 : Converts (rvalue (to (to int))) (to (const_of (to (const_of int)))) (record { first = None; second = None; third = true; binding = false })
unfolding standard_sequence steps_between steps_of_reference steps_by_relation steps_of_unrelated steps_of_related related related_kinds steps_of_value steps_by_kinds steps_to_class steps_to_scalar class_step value_step steps_of_kinds steps_of_pointer steps_of_enumeration steps_of_arithmetic is_text step_of_enumeration steps_of_pointers pointer_to_other pointer_to_class is_derived is_pending promoted
row_31 = refl

-- 4.4: an inner word is not lost either
row_32 : IsRefused (rvalue (to (to (const_of int)))) (to (const_of (to int)))
unfolding standard_sequence steps_between steps_of_reference steps_by_relation steps_of_unrelated steps_of_related related related_kinds steps_of_value steps_by_kinds steps_to_class steps_to_scalar class_step value_step steps_of_kinds steps_of_pointer steps_of_enumeration steps_of_arithmetic is_text step_of_enumeration steps_of_pointers pointer_to_other pointer_to_class is_derived is_pending promoted
row_32 = refl

-- 4.4: the words of an array are those of its innermost element
row_33 : Converts (rvalue (to (three int))) (to (three (const_of int))) (record { first = None; second = None; third = true; binding = false })
unfolding standard_sequence steps_between steps_of_reference steps_by_relation steps_of_unrelated steps_of_related related related_kinds steps_of_value steps_by_kinds steps_to_class steps_to_scalar class_step value_step steps_of_kinds steps_of_pointer steps_of_enumeration steps_of_arithmetic is_text step_of_enumeration steps_of_pointers pointer_to_other pointer_to_class is_derived is_pending promoted
row_33 = refl

-- 4.10
row_34 : Converts zero (to int) (record { first = None; second = Some Pointer; third = false; binding = false })
unfolding standard_sequence steps_between steps_of_reference steps_by_relation steps_of_unrelated steps_of_related related related_kinds steps_of_value steps_by_kinds steps_to_class steps_to_scalar class_step value_step steps_of_kinds steps_of_pointer steps_of_enumeration steps_of_arithmetic is_text step_of_enumeration steps_of_pointers pointer_to_other pointer_to_class is_derived is_pending promoted
row_34 = refl

-- 4.10: to a pointer to a const type in one step
row_35 : Converts zero (to (const_of int)) (record { first = None; second = Some Pointer; third = false; binding = false })
unfolding standard_sequence steps_between steps_of_reference steps_by_relation steps_of_unrelated steps_of_related related related_kinds steps_of_value steps_by_kinds steps_to_class steps_to_scalar class_step value_step steps_of_kinds steps_of_pointer steps_of_enumeration steps_of_arithmetic is_text step_of_enumeration steps_of_pointers pointer_to_other pointer_to_class is_derived is_pending promoted
row_35 = refl

-- 4.10: no other integer
row_36 : IsRefused (rvalue int) (to int)
unfolding standard_sequence steps_between steps_of_reference steps_by_relation steps_of_unrelated steps_of_related related related_kinds steps_of_value steps_by_kinds steps_to_class steps_to_scalar class_step value_step steps_of_kinds steps_of_pointer steps_of_enumeration steps_of_arithmetic is_text step_of_enumeration steps_of_pointers pointer_to_other pointer_to_class is_derived is_pending promoted
row_36 = refl

-- 4.10
row_37 : Converts (rvalue (to int)) (to void) (record { first = None; second = Some Pointer; third = false; binding = false })
unfolding standard_sequence steps_between steps_of_reference steps_by_relation steps_of_unrelated steps_of_related related related_kinds steps_of_value steps_by_kinds steps_to_class steps_to_scalar class_step value_step steps_of_kinds steps_of_pointer steps_of_enumeration steps_of_arithmetic is_text step_of_enumeration steps_of_pointers pointer_to_other pointer_to_class is_derived is_pending promoted
row_37 = refl

-- 4.10, 4.4
row_38 : Converts (rvalue (to int)) (to (const_of void)) (record { first = None; second = Some Pointer; third = true; binding = false })
unfolding standard_sequence steps_between steps_of_reference steps_by_relation steps_of_unrelated steps_of_related related related_kinds steps_of_value steps_by_kinds steps_to_class steps_to_scalar class_step value_step steps_of_kinds steps_of_pointer steps_of_enumeration steps_of_arithmetic is_text step_of_enumeration steps_of_pointers pointer_to_other pointer_to_class is_derived is_pending promoted
row_38 = refl

-- 4.10: no word is lost
row_39 : IsRefused (rvalue (to (const_of int))) (to void)
unfolding standard_sequence steps_between steps_of_reference steps_by_relation steps_of_unrelated steps_of_related related related_kinds steps_of_value steps_by_kinds steps_to_class steps_to_scalar class_step value_step steps_of_kinds steps_of_pointer steps_of_enumeration steps_of_arithmetic is_text step_of_enumeration steps_of_pointers pointer_to_other pointer_to_class is_derived is_pending promoted
row_39 = refl

-- 4.10: a pointer to a function is none to void
row_40 : IsRefused (rvalue (to function)) (to void)
unfolding standard_sequence steps_between steps_of_reference steps_by_relation steps_of_unrelated steps_of_related related related_kinds steps_of_value steps_by_kinds steps_to_class steps_to_scalar class_step value_step steps_of_kinds steps_of_pointer steps_of_enumeration steps_of_arithmetic is_text step_of_enumeration steps_of_pointers pointer_to_other pointer_to_class is_derived is_pending promoted
row_40 = refl

-- 4.10: nothing comes back from void
row_41 : IsRefused (rvalue (to void)) (to int)
unfolding standard_sequence steps_between steps_of_reference steps_by_relation steps_of_unrelated steps_of_related related related_kinds steps_of_value steps_by_kinds steps_to_class steps_to_scalar class_step value_step steps_of_kinds steps_of_pointer steps_of_enumeration steps_of_arithmetic is_text step_of_enumeration steps_of_pointers pointer_to_other pointer_to_class is_derived is_pending promoted
row_41 = refl

-- 4.12
row_42 : Converts (rvalue (to int)) bool (record { first = None; second = Some Boolean; third = false; binding = false })
unfolding standard_sequence steps_between steps_of_reference steps_by_relation steps_of_unrelated steps_of_related related related_kinds steps_of_value steps_by_kinds steps_to_class steps_to_scalar class_step value_step steps_of_kinds steps_of_pointer steps_of_enumeration steps_of_arithmetic is_text step_of_enumeration steps_of_pointers pointer_to_other pointer_to_class is_derived is_pending promoted
row_42 = refl

-- 4.12: a pointer is converted to no other arithmetic type
row_43 : IsRefused (rvalue (to int)) int
unfolding standard_sequence steps_between steps_of_reference steps_by_relation steps_of_unrelated steps_of_related related related_kinds steps_of_value steps_by_kinds steps_to_class steps_to_scalar class_step value_step steps_of_kinds steps_of_pointer steps_of_enumeration steps_of_arithmetic is_text step_of_enumeration steps_of_pointers pointer_to_other pointer_to_class is_derived is_pending promoted
row_43 = refl

-- 4.10: derived to base
row_44 : Converts (rvalue (to c)) (to a) (record { first = None; second = Some Pointer; third = false; binding = false })
unfolding standard_sequence steps_between steps_of_reference steps_by_relation steps_of_unrelated steps_of_related related related_kinds steps_of_value steps_by_kinds steps_to_class steps_to_scalar class_step value_step steps_of_kinds steps_of_pointer steps_of_enumeration steps_of_arithmetic is_text step_of_enumeration steps_of_pointers pointer_to_other pointer_to_class is_derived is_pending promoted
row_44 = refl

-- 4.10, 4.4
row_45 : Converts (rvalue (to b)) (to (const_of a)) (record { first = None; second = Some Pointer; third = true; binding = false })
unfolding standard_sequence steps_between steps_of_reference steps_by_relation steps_of_unrelated steps_of_related related related_kinds steps_of_value steps_by_kinds steps_to_class steps_to_scalar class_step value_step steps_of_kinds steps_of_pointer steps_of_enumeration steps_of_arithmetic is_text step_of_enumeration steps_of_pointers pointer_to_other pointer_to_class is_derived is_pending promoted
row_45 = refl

-- 4.10: not base to derived
row_46 : IsRefused (rvalue (to a)) (to b)
unfolding standard_sequence steps_between steps_of_reference steps_by_relation steps_of_unrelated steps_of_related related related_kinds steps_of_value steps_by_kinds steps_to_class steps_to_scalar class_step value_step steps_of_kinds steps_of_pointer steps_of_enumeration steps_of_arithmetic is_text step_of_enumeration steps_of_pointers pointer_to_other pointer_to_class is_derived is_pending promoted
row_46 = refl

-- 4.10: not in between
row_47 : IsRefused (rvalue (to (to b))) (to (to a))
unfolding standard_sequence steps_between steps_of_reference steps_by_relation steps_of_unrelated steps_of_related related related_kinds steps_of_value steps_by_kinds steps_to_class steps_to_scalar class_step value_step steps_of_kinds steps_of_pointer steps_of_enumeration steps_of_arithmetic is_text step_of_enumeration steps_of_pointers pointer_to_other pointer_to_class is_derived is_pending promoted
row_47 = refl

-- 13.3.3.1: a class from itself
row_48 : Converts (lvalue (const_of a)) a (record { first = None; second = None; third = false; binding = false })
unfolding standard_sequence steps_between steps_of_reference steps_by_relation steps_of_unrelated steps_of_related related related_kinds steps_of_value steps_by_kinds steps_to_class steps_to_scalar class_step value_step steps_of_kinds steps_of_pointer steps_of_enumeration steps_of_arithmetic is_text step_of_enumeration steps_of_pointers pointer_to_other pointer_to_class is_derived is_pending promoted
row_48 = refl

-- 13.3.3.1: a class from one derived from it
row_49 : Converts (lvalue c) a (record { first = None; second = Some DerivedToBase; third = false; binding = false })
unfolding standard_sequence steps_between steps_of_reference steps_by_relation steps_of_unrelated steps_of_related related related_kinds steps_of_value steps_by_kinds steps_to_class steps_to_scalar class_step value_step steps_of_kinds steps_of_pointer steps_of_enumeration steps_of_arithmetic is_text step_of_enumeration steps_of_pointers pointer_to_other pointer_to_class is_derived is_pending promoted
row_49 = refl

-- a class from its base
row_50 : IsRefused (rvalue a) b
unfolding standard_sequence steps_between steps_of_reference steps_by_relation steps_of_unrelated steps_of_related related related_kinds steps_of_value steps_by_kinds steps_to_class steps_to_scalar class_step value_step steps_of_kinds steps_of_pointer steps_of_enumeration steps_of_arithmetic is_text step_of_enumeration steps_of_pointers pointer_to_other pointer_to_class is_derived is_pending promoted
row_50 = refl

-- from void
row_51 : IsRefused (rvalue void) int
unfolding standard_sequence steps_between steps_of_reference steps_by_relation steps_of_unrelated steps_of_related related related_kinds steps_of_value steps_by_kinds steps_to_class steps_to_scalar class_step value_step steps_of_kinds steps_of_pointer steps_of_enumeration steps_of_arithmetic is_text step_of_enumeration steps_of_pointers pointer_to_other pointer_to_class is_derived is_pending promoted
row_51 = refl

-- to void
row_52 : IsRefused (rvalue int) void
unfolding standard_sequence steps_between steps_of_reference steps_by_relation steps_of_unrelated steps_of_related related related_kinds steps_of_value steps_by_kinds steps_to_class steps_to_scalar class_step value_step steps_of_kinds steps_of_pointer steps_of_enumeration steps_of_arithmetic is_text step_of_enumeration steps_of_pointers pointer_to_other pointer_to_class is_derived is_pending promoted
row_52 = refl

-- 8.5.3: bound to the object
row_53 : Converts (lvalue int) (ref int) (record { first = None; second = None; third = false; binding = true })
unfolding standard_sequence steps_between steps_of_reference steps_by_relation steps_of_unrelated steps_of_related related related_kinds steps_of_value steps_by_kinds steps_to_class steps_to_scalar class_step value_step steps_of_kinds steps_of_pointer steps_of_enumeration steps_of_arithmetic is_text step_of_enumeration steps_of_pointers pointer_to_other pointer_to_class is_derived is_pending promoted
row_53 = refl

-- 8.5.3: bound to the object with more words
row_54 : Converts (lvalue int) (ref (const_of int)) (record { first = None; second = None; third = false; binding = true })
unfolding standard_sequence steps_between steps_of_reference steps_by_relation steps_of_unrelated steps_of_related related related_kinds steps_of_value steps_by_kinds steps_to_class steps_to_scalar class_step value_step steps_of_kinds steps_of_pointer steps_of_enumeration steps_of_arithmetic is_text step_of_enumeration steps_of_pointers pointer_to_other pointer_to_class is_derived is_pending promoted
row_54 = refl

-- 8.5.3: a word is lost
row_55 : IsRefused (lvalue (const_of int)) (ref int)
unfolding standard_sequence steps_between steps_of_reference steps_by_relation steps_of_unrelated steps_of_related related related_kinds steps_of_value steps_by_kinds steps_to_class steps_to_scalar class_step value_step steps_of_kinds steps_of_pointer steps_of_enumeration steps_of_arithmetic is_text step_of_enumeration steps_of_pointers pointer_to_other pointer_to_class is_derived is_pending promoted
row_55 = refl

-- 8.5.3: a word is lost, and no value is made
row_56 : IsRefused (lvalue (volatile_of int)) (ref (const_of int))
unfolding standard_sequence steps_between steps_of_reference steps_by_relation steps_of_unrelated steps_of_related related related_kinds steps_of_value steps_by_kinds steps_to_class steps_to_scalar class_step value_step steps_of_kinds steps_of_pointer steps_of_enumeration steps_of_arithmetic is_text step_of_enumeration steps_of_pointers pointer_to_other pointer_to_class is_derived is_pending promoted
row_56 = refl

-- 8.5.3: to an rvalue only const
row_57 : IsRefused (rvalue int) (ref int)
unfolding standard_sequence steps_between steps_of_reference steps_by_relation steps_of_unrelated steps_of_related related related_kinds steps_of_value steps_by_kinds steps_to_class steps_to_scalar class_step value_step steps_of_kinds steps_of_pointer steps_of_enumeration steps_of_arithmetic is_text step_of_enumeration steps_of_pointers pointer_to_other pointer_to_class is_derived is_pending promoted
row_57 = refl

-- 8.5.3
row_58 : Converts (rvalue int) (ref (const_of int)) (record { first = None; second = None; third = false; binding = false })
unfolding standard_sequence steps_between steps_of_reference steps_by_relation steps_of_unrelated steps_of_related related related_kinds steps_of_value steps_by_kinds steps_to_class steps_to_scalar class_step value_step steps_of_kinds steps_of_pointer steps_of_enumeration steps_of_arithmetic is_text step_of_enumeration steps_of_pointers pointer_to_other pointer_to_class is_derived is_pending promoted
row_58 = refl

-- 8.5.3: volatile takes no rvalue
row_59 : IsRefused (rvalue int) (ref (qualified (record { is_const = true; is_volatile = true }) int))
unfolding standard_sequence steps_between steps_of_reference steps_by_relation steps_of_unrelated steps_of_related related related_kinds steps_of_value steps_by_kinds steps_to_class steps_to_scalar class_step value_step steps_of_kinds steps_of_pointer steps_of_enumeration steps_of_arithmetic is_text step_of_enumeration steps_of_pointers pointer_to_other pointer_to_class is_derived is_pending promoted
row_59 = refl

-- 8.5.3: to a value of the type
row_60 : Converts (lvalue char) (ref (const_of int)) (record { first = Some LvalueToRvalue; second = Some IntegralPromotion; third = false; binding = false })
unfolding standard_sequence steps_between steps_of_reference steps_by_relation steps_of_unrelated steps_of_related related related_kinds steps_of_value steps_by_kinds steps_to_class steps_to_scalar class_step value_step steps_of_kinds steps_of_pointer steps_of_enumeration steps_of_arithmetic is_text step_of_enumeration steps_of_pointers pointer_to_other pointer_to_class is_derived is_pending promoted
row_60 = refl

-- 8.5.3: no value of another type
row_61 : IsRefused (lvalue char) (ref int)
unfolding standard_sequence steps_between steps_of_reference steps_by_relation steps_of_unrelated steps_of_related related related_kinds steps_of_value steps_by_kinds steps_to_class steps_to_scalar class_step value_step steps_of_kinds steps_of_pointer steps_of_enumeration steps_of_arithmetic is_text step_of_enumeration steps_of_pointers pointer_to_other pointer_to_class is_derived is_pending promoted
row_61 = refl

-- 8.5.3: to a base
row_62 : Converts (lvalue c) (ref a) (record { first = None; second = Some DerivedToBase; third = false; binding = true })
unfolding standard_sequence steps_between steps_of_reference steps_by_relation steps_of_unrelated steps_of_related related related_kinds steps_of_value steps_by_kinds steps_to_class steps_to_scalar class_step value_step steps_of_kinds steps_of_pointer steps_of_enumeration steps_of_arithmetic is_text step_of_enumeration steps_of_pointers pointer_to_other pointer_to_class is_derived is_pending promoted
row_62 = refl

-- 8.5.3: to the base of an rvalue
row_63 : Converts (rvalue c) (ref (const_of a)) (record { first = None; second = Some DerivedToBase; third = false; binding = true })
unfolding standard_sequence steps_between steps_of_reference steps_by_relation steps_of_unrelated steps_of_related related related_kinds steps_of_value steps_by_kinds steps_to_class steps_to_scalar class_step value_step steps_of_kinds steps_of_pointer steps_of_enumeration steps_of_arithmetic is_text step_of_enumeration steps_of_pointers pointer_to_other pointer_to_class is_derived is_pending promoted
row_63 = refl

-- 8.5.3: an rvalue of a class
row_64 : IsRefused (rvalue c) (ref a)
unfolding standard_sequence steps_between steps_of_reference steps_by_relation steps_of_unrelated steps_of_related related related_kinds steps_of_value steps_by_kinds steps_to_class steps_to_scalar class_step value_step steps_of_kinds steps_of_pointer steps_of_enumeration steps_of_arithmetic is_text step_of_enumeration steps_of_pointers pointer_to_other pointer_to_class is_derived is_pending promoted
row_64 = refl

-- 8.5.3: a class that lost a word
row_65 : IsRefused (lvalue (const_of c)) (ref a)
unfolding standard_sequence steps_between steps_of_reference steps_by_relation steps_of_unrelated steps_of_related related related_kinds steps_of_value steps_by_kinds steps_to_class steps_to_scalar class_step value_step steps_of_kinds steps_of_pointer steps_of_enumeration steps_of_arithmetic is_text step_of_enumeration steps_of_pointers pointer_to_other pointer_to_class is_derived is_pending promoted
row_65 = refl

-- 8.5.3: an array itself
row_66 : Converts (lvalue (three int)) (ref (three int)) (record { first = None; second = None; third = false; binding = true })
unfolding standard_sequence steps_between steps_of_reference steps_by_relation steps_of_unrelated steps_of_related related related_kinds steps_of_value steps_by_kinds steps_to_class steps_to_scalar class_step value_step steps_of_kinds steps_of_pointer steps_of_enumeration steps_of_arithmetic is_text step_of_enumeration steps_of_pointers pointer_to_other pointer_to_class is_derived is_pending promoted
row_66 = refl

-- 8.5.3: not of unknown bound
row_67 : IsRefused (lvalue (array_of int unknown_bound)) (ref (three int))
unfolding standard_sequence steps_between steps_of_reference steps_by_relation steps_of_unrelated steps_of_related related related_kinds steps_of_value steps_by_kinds steps_to_class steps_to_scalar class_step value_step steps_of_kinds steps_of_pointer steps_of_enumeration steps_of_arithmetic is_text step_of_enumeration steps_of_pointers pointer_to_other pointer_to_class is_derived is_pending promoted
row_67 = refl

-- 8.5.3: a function itself
row_68 : Converts (lvalue function) (ref function) (record { first = None; second = None; third = false; binding = true })
unfolding standard_sequence steps_between steps_of_reference steps_by_relation steps_of_unrelated steps_of_related related related_kinds steps_of_value steps_by_kinds steps_to_class steps_to_scalar class_step value_step steps_of_kinds steps_of_pointer steps_of_enumeration steps_of_arithmetic is_text step_of_enumeration steps_of_pointers pointer_to_other pointer_to_class is_derived is_pending promoted
row_68 = refl

-- 8.5.3: the pointer of an array
row_69 : Converts (lvalue (three int)) (ref (const_of (to int))) (record { first = Some ArrayToPointer; second = None; third = false; binding = false })
unfolding standard_sequence steps_between steps_of_reference steps_by_relation steps_of_unrelated steps_of_related related related_kinds steps_of_value steps_by_kinds steps_to_class steps_to_scalar class_step value_step steps_of_kinds steps_of_pointer steps_of_enumeration steps_of_arithmetic is_text step_of_enumeration steps_of_pointers pointer_to_other pointer_to_class is_derived is_pending promoted
row_69 = refl

-- ---- the order of two sequences from one expression

abbrev sequence : CxxOperand → CxxType → CxxStandard
sequence from target = by (standard_sequence graph from target)
  where
    by : Result (Option CxxStandard) ClassId → CxxStandard
    by (Ok (Some found)) = found
    by _ = sequence_by from target no_steps

abbrev Compares : CxxOperand → CxxType → CxxType → Order → Type 0
Compares from one two order = order_of graph (sequence from one) (sequence from two) ≡ order

-- 13.3.3.2: a promotion is better than a conversion
order_1 : Compares (lvalue char) int long Better
unfolding standard_sequence steps_between steps_of_reference steps_by_relation steps_of_unrelated steps_of_related related related_kinds steps_of_value steps_by_kinds steps_to_class steps_to_scalar class_step value_step steps_of_kinds steps_of_pointer steps_of_enumeration steps_of_arithmetic is_text step_of_enumeration steps_of_pointers pointer_to_other pointer_to_class is_derived is_pending promoted order_of is_proper_part is_no_pointer_to_bool has_nearer_class is_less_qualified is_bound_to_less refers_to_less is_nearer is_shorter way_of way_of_pointers way_of_classes
order_1 = refl

-- 13.3.3.2: the identity is better than a promotion
order_2 : Compares (lvalue char) char int Better
unfolding standard_sequence steps_between steps_of_reference steps_by_relation steps_of_unrelated steps_of_related related related_kinds steps_of_value steps_by_kinds steps_to_class steps_to_scalar class_step value_step steps_of_kinds steps_of_pointer steps_of_enumeration steps_of_arithmetic is_text step_of_enumeration steps_of_pointers pointer_to_other pointer_to_class is_derived is_pending promoted order_of is_proper_part is_no_pointer_to_bool has_nearer_class is_less_qualified is_bound_to_less refers_to_less is_nearer is_shorter way_of way_of_pointers way_of_classes
order_2 = refl

-- 13.3.3.2: an lvalue transformation tells nothing
order_3 : Compares (lvalue int) int (ref (const_of int)) Same
unfolding standard_sequence steps_between steps_of_reference steps_by_relation steps_of_unrelated steps_of_related related related_kinds steps_of_value steps_by_kinds steps_to_class steps_to_scalar class_step value_step steps_of_kinds steps_of_pointer steps_of_enumeration steps_of_arithmetic is_text step_of_enumeration steps_of_pointers pointer_to_other pointer_to_class is_derived is_pending promoted order_of is_proper_part is_no_pointer_to_bool has_nearer_class is_less_qualified is_bound_to_less refers_to_less is_nearer is_shorter way_of way_of_pointers way_of_classes
order_3 = refl

-- 13.3.3.2: two conversions
order_4 : Compares (rvalue int) char long Same
unfolding standard_sequence steps_between steps_of_reference steps_by_relation steps_of_unrelated steps_of_related related related_kinds steps_of_value steps_by_kinds steps_to_class steps_to_scalar class_step value_step steps_of_kinds steps_of_pointer steps_of_enumeration steps_of_arithmetic is_text step_of_enumeration steps_of_pointers pointer_to_other pointer_to_class is_derived is_pending promoted order_of is_proper_part is_no_pointer_to_bool has_nearer_class is_less_qualified is_bound_to_less refers_to_less is_nearer is_shorter way_of way_of_pointers way_of_classes
order_4 = refl

-- 13.3.3.2: no qualification is better
order_5 : Compares (lvalue (three int)) (to int) (to (const_of int)) Better
unfolding standard_sequence steps_between steps_of_reference steps_by_relation steps_of_unrelated steps_of_related related related_kinds steps_of_value steps_by_kinds steps_to_class steps_to_scalar class_step value_step steps_of_kinds steps_of_pointer steps_of_enumeration steps_of_arithmetic is_text step_of_enumeration steps_of_pointers pointer_to_other pointer_to_class is_derived is_pending promoted order_of is_proper_part is_no_pointer_to_bool has_nearer_class is_less_qualified is_bound_to_less refers_to_less is_nearer is_shorter way_of way_of_pointers way_of_classes
order_5 = refl

-- 13.3.3.2: a qualification is better than a conversion
order_6 : Compares (rvalue (to int)) (to (const_of int)) (to void) Better
unfolding standard_sequence steps_between steps_of_reference steps_by_relation steps_of_unrelated steps_of_related related related_kinds steps_of_value steps_by_kinds steps_to_class steps_to_scalar class_step value_step steps_of_kinds steps_of_pointer steps_of_enumeration steps_of_arithmetic is_text step_of_enumeration steps_of_pointers pointer_to_other pointer_to_class is_derived is_pending promoted order_of is_proper_part is_no_pointer_to_bool has_nearer_class is_less_qualified is_bound_to_less refers_to_less is_nearer is_shorter way_of way_of_pointers way_of_classes
order_6 = refl

-- 13.3.3.2: a pointer to bool is the worst conversion
order_7 : Compares (rvalue (to int)) bool (to void) Worse
unfolding standard_sequence steps_between steps_of_reference steps_by_relation steps_of_unrelated steps_of_related related related_kinds steps_of_value steps_by_kinds steps_to_class steps_to_scalar class_step value_step steps_of_kinds steps_of_pointer steps_of_enumeration steps_of_arithmetic is_text step_of_enumeration steps_of_pointers pointer_to_other pointer_to_class is_derived is_pending promoted order_of is_proper_part is_no_pointer_to_bool has_nearer_class is_less_qualified is_bound_to_less refers_to_less is_nearer is_shorter way_of way_of_pointers way_of_classes
order_7 = refl

-- 13.3.3.2: to the nearer base
order_8 : Compares (rvalue (to c)) (to b) (to a) Better
unfolding standard_sequence steps_between steps_of_reference steps_by_relation steps_of_unrelated steps_of_related related related_kinds steps_of_value steps_by_kinds steps_to_class steps_to_scalar class_step value_step steps_of_kinds steps_of_pointer steps_of_enumeration steps_of_arithmetic is_text step_of_enumeration steps_of_pointers pointer_to_other pointer_to_class is_derived is_pending promoted order_of is_proper_part is_no_pointer_to_bool has_nearer_class is_less_qualified is_bound_to_less refers_to_less is_nearer is_shorter way_of way_of_pointers way_of_classes
order_8 = refl

-- 13.3.3.2: to a base and not to void
order_9 : Compares (rvalue (to b)) (to a) (to void) Better
unfolding standard_sequence steps_between steps_of_reference steps_by_relation steps_of_unrelated steps_of_related related related_kinds steps_of_value steps_by_kinds steps_to_class steps_to_scalar class_step value_step steps_of_kinds steps_of_pointer steps_of_enumeration steps_of_arithmetic is_text step_of_enumeration steps_of_pointers pointer_to_other pointer_to_class is_derived is_pending promoted order_of is_proper_part is_no_pointer_to_bool has_nearer_class is_less_qualified is_bound_to_less refers_to_less is_nearer is_shorter way_of way_of_pointers way_of_classes
order_9 = refl

-- 13.3.3.2: by a reference to the nearer base
order_10 : Compares (lvalue c) (ref a) (ref b) Worse
unfolding standard_sequence steps_between steps_of_reference steps_by_relation steps_of_unrelated steps_of_related related related_kinds steps_of_value steps_by_kinds steps_to_class steps_to_scalar class_step value_step steps_of_kinds steps_of_pointer steps_of_enumeration steps_of_arithmetic is_text step_of_enumeration steps_of_pointers pointer_to_other pointer_to_class is_derived is_pending promoted order_of is_proper_part is_no_pointer_to_bool has_nearer_class is_less_qualified is_bound_to_less refers_to_less is_nearer is_shorter way_of way_of_pointers way_of_classes
order_10 = refl

-- 13.3.3.2: to the nearer base by value
order_11 : Compares (lvalue c) b a Better
unfolding standard_sequence steps_between steps_of_reference steps_by_relation steps_of_unrelated steps_of_related related related_kinds steps_of_value steps_by_kinds steps_to_class steps_to_scalar class_step value_step steps_of_kinds steps_of_pointer steps_of_enumeration steps_of_arithmetic is_text step_of_enumeration steps_of_pointers pointer_to_other pointer_to_class is_derived is_pending promoted order_of is_proper_part is_no_pointer_to_bool has_nearer_class is_less_qualified is_bound_to_less refers_to_less is_nearer is_shorter way_of way_of_pointers way_of_classes
order_11 = refl

-- 13.3.3.2: fewer words behind the star
order_12 : Compares (rvalue (to int)) (to (const_of int)) (to (qualified (record { is_const = true; is_volatile = true }) int)) Better
unfolding standard_sequence steps_between steps_of_reference steps_by_relation steps_of_unrelated steps_of_related related related_kinds steps_of_value steps_by_kinds steps_to_class steps_to_scalar class_step value_step steps_of_kinds steps_of_pointer steps_of_enumeration steps_of_arithmetic is_text step_of_enumeration steps_of_pointers pointer_to_other pointer_to_class is_derived is_pending promoted order_of is_proper_part is_no_pointer_to_bool has_nearer_class is_less_qualified is_bound_to_less refers_to_less is_nearer is_shorter way_of way_of_pointers way_of_classes
order_12 = refl

-- 13.3.3.2: different words behind the star
order_13 : Compares (rvalue (to int)) (to (const_of int)) (to (volatile_of int)) Same
unfolding standard_sequence steps_between steps_of_reference steps_by_relation steps_of_unrelated steps_of_related related related_kinds steps_of_value steps_by_kinds steps_to_class steps_to_scalar class_step value_step steps_of_kinds steps_of_pointer steps_of_enumeration steps_of_arithmetic is_text step_of_enumeration steps_of_pointers pointer_to_other pointer_to_class is_derived is_pending promoted order_of is_proper_part is_no_pointer_to_bool has_nearer_class is_less_qualified is_bound_to_less refers_to_less is_nearer is_shorter way_of way_of_pointers way_of_classes
order_13 = refl

-- 13.3.3.2: the less qualified reference
order_14 : Compares (lvalue int) (ref int) (ref (const_of int)) Better
unfolding standard_sequence steps_between steps_of_reference steps_by_relation steps_of_unrelated steps_of_related related related_kinds steps_of_value steps_by_kinds steps_to_class steps_to_scalar class_step value_step steps_of_kinds steps_of_pointer steps_of_enumeration steps_of_arithmetic is_text step_of_enumeration steps_of_pointers pointer_to_other pointer_to_class is_derived is_pending promoted order_of is_proper_part is_no_pointer_to_bool has_nearer_class is_less_qualified is_bound_to_less refers_to_less is_nearer is_shorter way_of way_of_pointers way_of_classes
order_14 = refl

-- 13.3.3.2: differently qualified references
order_15 : Compares (lvalue int) (ref (const_of int)) (ref (volatile_of int)) Same
unfolding standard_sequence steps_between steps_of_reference steps_by_relation steps_of_unrelated steps_of_related related related_kinds steps_of_value steps_by_kinds steps_to_class steps_to_scalar class_step value_step steps_of_kinds steps_of_pointer steps_of_enumeration steps_of_arithmetic is_text step_of_enumeration steps_of_pointers pointer_to_other pointer_to_class is_derived is_pending promoted order_of is_proper_part is_no_pointer_to_bool has_nearer_class is_less_qualified is_bound_to_less refers_to_less is_nearer is_shorter way_of way_of_pointers way_of_classes
order_15 = refl

-- 13.3.3.2: the null pointer tells no two classes apart
order_16 : Compares zero (to a) (to b) Same
unfolding standard_sequence steps_between steps_of_reference steps_by_relation steps_of_unrelated steps_of_related related related_kinds steps_of_value steps_by_kinds steps_to_class steps_to_scalar class_step value_step steps_of_kinds steps_of_pointer steps_of_enumeration steps_of_arithmetic is_text step_of_enumeration steps_of_pointers pointer_to_other pointer_to_class is_derived is_pending promoted order_of is_proper_part is_no_pointer_to_bool has_nearer_class is_less_qualified is_bound_to_less refers_to_less is_nearer is_shorter way_of way_of_pointers way_of_classes
order_16 = refl

-- 13.3.3.2: the null pointer tells no words apart
order_17 : Compares zero (to int) (to (const_of int)) Same
unfolding standard_sequence steps_between steps_of_reference steps_by_relation steps_of_unrelated steps_of_related related related_kinds steps_of_value steps_by_kinds steps_to_class steps_to_scalar class_step value_step steps_of_kinds steps_of_pointer steps_of_enumeration steps_of_arithmetic is_text step_of_enumeration steps_of_pointers pointer_to_other pointer_to_class is_derived is_pending promoted order_of is_proper_part is_no_pointer_to_bool has_nearer_class is_less_qualified is_bound_to_less refers_to_less is_nearer is_shorter way_of way_of_pointers way_of_classes
order_17 = refl

-- 13.3.3.2: a string literal: no qualification is better
order_18 : Compares text (to char) (to (const_of char)) Worse
unfolding standard_sequence steps_between steps_of_reference steps_by_relation steps_of_unrelated steps_of_related related related_kinds steps_of_value steps_by_kinds steps_to_class steps_to_scalar class_step value_step steps_of_kinds steps_of_pointer steps_of_enumeration steps_of_arithmetic is_text step_of_enumeration steps_of_pointers pointer_to_other pointer_to_class is_derived is_pending promoted order_of is_proper_part is_no_pointer_to_bool has_nearer_class is_less_qualified is_bound_to_less refers_to_less is_nearer is_shorter way_of way_of_pointers way_of_classes
order_18 = refl

-- 13.3.3.2: one qualification beneath another reference
order_19 : Compares (rvalue (to int)) (to (const_of int)) (ref (const_of (to int))) Worse
unfolding standard_sequence steps_between steps_of_reference steps_by_relation steps_of_unrelated steps_of_related related related_kinds steps_of_value steps_by_kinds steps_to_class steps_to_scalar class_step value_step steps_of_kinds steps_of_pointer steps_of_enumeration steps_of_arithmetic is_text step_of_enumeration steps_of_pointers pointer_to_other pointer_to_class is_derived is_pending promoted order_of is_proper_part is_no_pointer_to_bool has_nearer_class is_less_qualified is_bound_to_less refers_to_less is_nearer is_shorter way_of way_of_pointers way_of_classes
order_19 = refl

-- 13.3.3.2: an enumeration to what it is promoted to
order_20 : Compares (rvalue an_l) long int Better
unfolding standard_sequence steps_between steps_of_reference steps_by_relation steps_of_unrelated steps_of_related related related_kinds steps_of_value steps_by_kinds steps_to_class steps_to_scalar class_step value_step steps_of_kinds steps_of_pointer steps_of_enumeration steps_of_arithmetic is_text step_of_enumeration steps_of_pointers pointer_to_other pointer_to_class is_derived is_pending promoted order_of is_proper_part is_no_pointer_to_bool has_nearer_class is_less_qualified is_bound_to_less refers_to_less is_nearer is_shorter way_of way_of_pointers way_of_classes
order_20 = refl

-- 13.3.3.2: a conversion to void with fewer words
order_21 : Compares (rvalue (to int)) (to void) (to (const_of void)) Better
unfolding standard_sequence steps_between steps_of_reference steps_by_relation steps_of_unrelated steps_of_related related related_kinds steps_of_value steps_by_kinds steps_to_class steps_to_scalar class_step value_step steps_of_kinds steps_of_pointer steps_of_enumeration steps_of_arithmetic is_text step_of_enumeration steps_of_pointers pointer_to_other pointer_to_class is_derived is_pending promoted order_of is_proper_part is_no_pointer_to_bool has_nearer_class is_less_qualified is_bound_to_less refers_to_less is_nearer is_shorter way_of way_of_pointers way_of_classes
order_21 = refl
