-- Conversions and their order, as clang++ and g++ have them: made by bench/meanings/conversions.py.
use Rattle.std.specs.Prelude.{◌≡◌, Bool, true, false, List, [], ◌∷◌, map, Option, Some, None, Result, Ok, pos, refl}
use Rattle.cxx_model.specs.declared.base.Base.TheVariants as base
use Rattle.cxx_model.specs.declared.facts.Access.TheVariants.{Public}
use Rattle.cxx_model.specs.declared.facts.ScopeKind.TheVariants as kind
use Rattle.cxx_model.specs.declared.sequence.ConstantKind.TheVariants as constant
use Rattle.cxx_model.specs.declared.sequence.Order.{Order}
use Rattle.cxx_model.specs.declared.sequence.Order.TheVariants.{Better, Worse, Same}
use Rattle.cxx_model.specs.declared.types.ClassId.{ClassId}
use Rattle.cxx_model.specs.Facts.Declarations as facts
use Rattle.cxx_model.specs.Facts.Declarations.{CxxFact, CxxGraph, Declares, unnamed}
use Rattle.cxx_model.specs.Types.Trees.{CxxType, fundamental, class_type, enumeration, pointer_to, reference_to, array_of, function_of, qualified, no_types, number_bound}
use Rattle.cxx_meaning.specs.Conversions.Derived.{is_derived}
use Rattle.cxx_meaning.specs.Conversions.Enumerations.{promoted}
use Rattle.cxx_model.specs.Facts.Pending.{is_pending}
use Rattle.cxx_meaning.specs.Conversions.Standard.{CxxOperand, CxxStandard, no_steps, sequence_by, pointer_to_class, pointer_to_other, steps_of_pointers, step_of_enumeration, is_text, steps_of_arithmetic, steps_of_enumeration, steps_of_pointer, steps_of_kinds, value_step, class_step, steps_to_scalar, steps_to_class, steps_by_kinds, steps_of_value, related_kinds, related, steps_of_related, steps_of_unrelated, steps_by_relation, steps_of_reference, steps_between, standard_sequence}
use Rattle.cxx_meaning.specs.Conversions.Order.{order_of, is_proper_part, is_no_pointer_to_bool, way_of, way_of_pointers, way_of_classes, is_shorter, is_nearer, has_nearer_class, is_less_qualified, refers_to_less, is_bound_to_less}

-- ---- how rows are written

abbrev const_of : CxxType → CxxType
const_of t = qualified (record { is_const = true; is_volatile = false }) t

abbrev volatile_of : CxxType → CxxType
volatile_of t = qualified (record { is_const = false; is_volatile = true }) t

abbrev bool : CxxType
bool = fundamental base.Bool

abbrev int : CxxType
int = fundamental base.Int

abbrev long : CxxType
long = fundamental base.Long

abbrev double : CxxType
double = fundamental base.Double

abbrev void : CxxType
void = fundamental base.Void

abbrev to : CxxType → CxxType
to t = pointer_to t

abbrev ref : CxxType → CxxType
ref t = reference_to t

abbrev three : CxxType → CxxType
three t = array_of t (number_bound 3)

abbrev function : CxxType
function = function_of int no_types false (record { is_const = false; is_volatile = false })

abbrev put : Declares → CxxFact
put what = record { place = record { line = 1; column = 1 }; scope = 0; name = unnamed; access = Public; what = what }

-- enum E { e }; enum L { l = 4294967296 }; struct A { }; struct B : A { }; struct C : B { }; struct X;
abbrev graph : CxxGraph
graph = record {
  classes = None ∷ None ∷ None ∷ None ∷ [];
  patterns = [];
  facts = map put (
      facts.scope None kind.Space ∷ facts.enumeration 0 ∷ facts.enumerator 0 (pos 0) ∷ facts.enumeration 1 ∷ facts.enumerator 1 (pos 4294967296) ∷
      facts.complete (record { 0 = 0 }) ∷
      facts.ancestor (record { 0 = 1 }) (record { 0 = 0 }) 1 Public ∷ facts.complete (record { 0 = 1 }) ∷
      facts.ancestor (record { 0 = 2 }) (record { 0 = 1 }) 1 Public ∷ facts.complete (record { 0 = 2 }) ∷ []);
}

abbrev an_e : CxxType
an_e = enumeration 0

abbrev a : CxxType
a = class_type 0

abbrev b : CxxType
b = class_type 1

abbrev c : CxxType
c = class_type 2

abbrev x : CxxType
x = class_type 3

abbrev lvalue : CxxType → CxxOperand
lvalue t = record { of = t; lvalue = true; constant = constant.No }

abbrev found : CxxOperand → List CxxType → List Bool
found from targets = map (λ target. is_found (standard_sequence graph from target)) targets
  where
    is_found : Result (Option CxxStandard) ClassId → Bool
    is_found (Ok (Some sequence)) = true
    is_found _ = false

-- int
taken_1 : found (lvalue int) (int ∷ (const_of int) ∷ (to int) ∷ (to (const_of int)) ∷ (const_of (to int)) ∷ (to (to int)) ∷ (to (to (const_of int))) ∷ (to (const_of (to int))) ∷ (to (const_of (to (const_of int)))) ∷ (to (three int)) ∷ (to (three (const_of int))) ∷ (to void) ∷ (to (const_of void)) ∷ (to function) ∷ an_e ∷ bool ∷ double ∷ a ∷ b ∷ (to a) ∷ (to c) ∷ (to (const_of b)) ∷ (to x) ∷ (to (volatile_of int)) ∷ (to (const_of (to (const_of (to (const_of int)))))) ∷ (ref int) ∷ (ref (const_of int)) ∷ (ref (volatile_of int)) ∷ (ref (const_of long)) ∷ (ref a) ∷ (ref (const_of a)) ∷ (ref (const_of c)) ∷ (ref (const_of (to int))) ∷ (ref (const_of (to (const_of int)))) ∷ (ref (three int)) ∷ (ref (three (const_of int))) ∷ (ref (const_of (to void))) ∷ (ref (const_of (to a))) ∷ (ref function) ∷ (ref an_e) ∷ (ref (const_of bool)) ∷ (to (const_of (to void))) ∷ []) ≡ (true ∷ true ∷ false ∷ false ∷ false ∷ false ∷ false ∷ false ∷ false ∷ false ∷ false ∷ false ∷ false ∷ false ∷ false ∷ true ∷ true ∷ false ∷ false ∷ false ∷ false ∷ false ∷ false ∷ false ∷ false ∷ true ∷ true ∷ true ∷ true ∷ false ∷ false ∷ false ∷ false ∷ false ∷ false ∷ false ∷ false ∷ false ∷ false ∷ false ∷ true ∷ false ∷ [])
unfolding standard_sequence steps_between steps_of_reference steps_by_relation steps_of_unrelated steps_of_related related related_kinds steps_of_value steps_by_kinds steps_to_class steps_to_scalar class_step value_step steps_of_kinds steps_of_pointer steps_of_enumeration steps_of_arithmetic is_text step_of_enumeration steps_of_pointers pointer_to_other pointer_to_class is_derived is_pending promoted
taken_1 = refl

-- const int
taken_2 : found (lvalue (const_of int)) (int ∷ (const_of int) ∷ (to int) ∷ (to (const_of int)) ∷ (const_of (to int)) ∷ (to (to int)) ∷ (to (to (const_of int))) ∷ (to (const_of (to int))) ∷ (to (const_of (to (const_of int)))) ∷ (to (three int)) ∷ (to (three (const_of int))) ∷ (to void) ∷ (to (const_of void)) ∷ (to function) ∷ an_e ∷ bool ∷ double ∷ a ∷ b ∷ (to a) ∷ (to c) ∷ (to (const_of b)) ∷ (to x) ∷ (to (volatile_of int)) ∷ (to (const_of (to (const_of (to (const_of int)))))) ∷ (ref int) ∷ (ref (const_of int)) ∷ (ref (volatile_of int)) ∷ (ref (const_of long)) ∷ (ref a) ∷ (ref (const_of a)) ∷ (ref (const_of c)) ∷ (ref (const_of (to int))) ∷ (ref (const_of (to (const_of int)))) ∷ (ref (three int)) ∷ (ref (three (const_of int))) ∷ (ref (const_of (to void))) ∷ (ref (const_of (to a))) ∷ (ref function) ∷ (ref an_e) ∷ (ref (const_of bool)) ∷ (to (const_of (to void))) ∷ []) ≡ (true ∷ true ∷ false ∷ false ∷ false ∷ false ∷ false ∷ false ∷ false ∷ false ∷ false ∷ false ∷ false ∷ false ∷ false ∷ true ∷ true ∷ false ∷ false ∷ false ∷ false ∷ false ∷ false ∷ false ∷ false ∷ false ∷ true ∷ false ∷ true ∷ false ∷ false ∷ false ∷ false ∷ false ∷ false ∷ false ∷ false ∷ false ∷ false ∷ false ∷ true ∷ false ∷ [])
unfolding standard_sequence steps_between steps_of_reference steps_by_relation steps_of_unrelated steps_of_related related related_kinds steps_of_value steps_by_kinds steps_to_class steps_to_scalar class_step value_step steps_of_kinds steps_of_pointer steps_of_enumeration steps_of_arithmetic is_text step_of_enumeration steps_of_pointers pointer_to_other pointer_to_class is_derived is_pending promoted
taken_2 = refl

-- int *
taken_3 : found (lvalue (to int)) (int ∷ (const_of int) ∷ (to int) ∷ (to (const_of int)) ∷ (const_of (to int)) ∷ (to (to int)) ∷ (to (to (const_of int))) ∷ (to (const_of (to int))) ∷ (to (const_of (to (const_of int)))) ∷ (to (three int)) ∷ (to (three (const_of int))) ∷ (to void) ∷ (to (const_of void)) ∷ (to function) ∷ an_e ∷ bool ∷ double ∷ a ∷ b ∷ (to a) ∷ (to c) ∷ (to (const_of b)) ∷ (to x) ∷ (to (volatile_of int)) ∷ (to (const_of (to (const_of (to (const_of int)))))) ∷ (ref int) ∷ (ref (const_of int)) ∷ (ref (volatile_of int)) ∷ (ref (const_of long)) ∷ (ref a) ∷ (ref (const_of a)) ∷ (ref (const_of c)) ∷ (ref (const_of (to int))) ∷ (ref (const_of (to (const_of int)))) ∷ (ref (three int)) ∷ (ref (three (const_of int))) ∷ (ref (const_of (to void))) ∷ (ref (const_of (to a))) ∷ (ref function) ∷ (ref an_e) ∷ (ref (const_of bool)) ∷ (to (const_of (to void))) ∷ []) ≡ (false ∷ false ∷ true ∷ true ∷ true ∷ false ∷ false ∷ false ∷ false ∷ false ∷ false ∷ true ∷ true ∷ false ∷ false ∷ true ∷ false ∷ false ∷ false ∷ false ∷ false ∷ false ∷ false ∷ true ∷ false ∷ false ∷ false ∷ false ∷ false ∷ false ∷ false ∷ false ∷ true ∷ true ∷ false ∷ false ∷ true ∷ false ∷ false ∷ false ∷ true ∷ false ∷ [])
unfolding standard_sequence steps_between steps_of_reference steps_by_relation steps_of_unrelated steps_of_related related related_kinds steps_of_value steps_by_kinds steps_to_class steps_to_scalar class_step value_step steps_of_kinds steps_of_pointer steps_of_enumeration steps_of_arithmetic is_text step_of_enumeration steps_of_pointers pointer_to_other pointer_to_class is_derived is_pending promoted
taken_3 = refl

-- const int *
taken_4 : found (lvalue (to (const_of int))) (int ∷ (const_of int) ∷ (to int) ∷ (to (const_of int)) ∷ (const_of (to int)) ∷ (to (to int)) ∷ (to (to (const_of int))) ∷ (to (const_of (to int))) ∷ (to (const_of (to (const_of int)))) ∷ (to (three int)) ∷ (to (three (const_of int))) ∷ (to void) ∷ (to (const_of void)) ∷ (to function) ∷ an_e ∷ bool ∷ double ∷ a ∷ b ∷ (to a) ∷ (to c) ∷ (to (const_of b)) ∷ (to x) ∷ (to (volatile_of int)) ∷ (to (const_of (to (const_of (to (const_of int)))))) ∷ (ref int) ∷ (ref (const_of int)) ∷ (ref (volatile_of int)) ∷ (ref (const_of long)) ∷ (ref a) ∷ (ref (const_of a)) ∷ (ref (const_of c)) ∷ (ref (const_of (to int))) ∷ (ref (const_of (to (const_of int)))) ∷ (ref (three int)) ∷ (ref (three (const_of int))) ∷ (ref (const_of (to void))) ∷ (ref (const_of (to a))) ∷ (ref function) ∷ (ref an_e) ∷ (ref (const_of bool)) ∷ (to (const_of (to void))) ∷ []) ≡ (false ∷ false ∷ false ∷ true ∷ false ∷ false ∷ false ∷ false ∷ false ∷ false ∷ false ∷ false ∷ true ∷ false ∷ false ∷ true ∷ false ∷ false ∷ false ∷ false ∷ false ∷ false ∷ false ∷ false ∷ false ∷ false ∷ false ∷ false ∷ false ∷ false ∷ false ∷ false ∷ false ∷ true ∷ false ∷ false ∷ false ∷ false ∷ false ∷ false ∷ true ∷ false ∷ [])
unfolding standard_sequence steps_between steps_of_reference steps_by_relation steps_of_unrelated steps_of_related related related_kinds steps_of_value steps_by_kinds steps_to_class steps_to_scalar class_step value_step steps_of_kinds steps_of_pointer steps_of_enumeration steps_of_arithmetic is_text step_of_enumeration steps_of_pointers pointer_to_other pointer_to_class is_derived is_pending promoted
taken_4 = refl

-- int * const
taken_5 : found (lvalue (const_of (to int))) (int ∷ (const_of int) ∷ (to int) ∷ (to (const_of int)) ∷ (const_of (to int)) ∷ (to (to int)) ∷ (to (to (const_of int))) ∷ (to (const_of (to int))) ∷ (to (const_of (to (const_of int)))) ∷ (to (three int)) ∷ (to (three (const_of int))) ∷ (to void) ∷ (to (const_of void)) ∷ (to function) ∷ an_e ∷ bool ∷ double ∷ a ∷ b ∷ (to a) ∷ (to c) ∷ (to (const_of b)) ∷ (to x) ∷ (to (volatile_of int)) ∷ (to (const_of (to (const_of (to (const_of int)))))) ∷ (ref int) ∷ (ref (const_of int)) ∷ (ref (volatile_of int)) ∷ (ref (const_of long)) ∷ (ref a) ∷ (ref (const_of a)) ∷ (ref (const_of c)) ∷ (ref (const_of (to int))) ∷ (ref (const_of (to (const_of int)))) ∷ (ref (three int)) ∷ (ref (three (const_of int))) ∷ (ref (const_of (to void))) ∷ (ref (const_of (to a))) ∷ (ref function) ∷ (ref an_e) ∷ (ref (const_of bool)) ∷ (to (const_of (to void))) ∷ []) ≡ (false ∷ false ∷ true ∷ true ∷ true ∷ false ∷ false ∷ false ∷ false ∷ false ∷ false ∷ true ∷ true ∷ false ∷ false ∷ true ∷ false ∷ false ∷ false ∷ false ∷ false ∷ false ∷ false ∷ true ∷ false ∷ false ∷ false ∷ false ∷ false ∷ false ∷ false ∷ false ∷ true ∷ true ∷ false ∷ false ∷ true ∷ false ∷ false ∷ false ∷ true ∷ false ∷ [])
unfolding standard_sequence steps_between steps_of_reference steps_by_relation steps_of_unrelated steps_of_related related related_kinds steps_of_value steps_by_kinds steps_to_class steps_to_scalar class_step value_step steps_of_kinds steps_of_pointer steps_of_enumeration steps_of_arithmetic is_text step_of_enumeration steps_of_pointers pointer_to_other pointer_to_class is_derived is_pending promoted
taken_5 = refl

-- int **
taken_6 : found (lvalue (to (to int))) (int ∷ (const_of int) ∷ (to int) ∷ (to (const_of int)) ∷ (const_of (to int)) ∷ (to (to int)) ∷ (to (to (const_of int))) ∷ (to (const_of (to int))) ∷ (to (const_of (to (const_of int)))) ∷ (to (three int)) ∷ (to (three (const_of int))) ∷ (to void) ∷ (to (const_of void)) ∷ (to function) ∷ an_e ∷ bool ∷ double ∷ a ∷ b ∷ (to a) ∷ (to c) ∷ (to (const_of b)) ∷ (to x) ∷ (to (volatile_of int)) ∷ (to (const_of (to (const_of (to (const_of int)))))) ∷ (ref int) ∷ (ref (const_of int)) ∷ (ref (volatile_of int)) ∷ (ref (const_of long)) ∷ (ref a) ∷ (ref (const_of a)) ∷ (ref (const_of c)) ∷ (ref (const_of (to int))) ∷ (ref (const_of (to (const_of int)))) ∷ (ref (three int)) ∷ (ref (three (const_of int))) ∷ (ref (const_of (to void))) ∷ (ref (const_of (to a))) ∷ (ref function) ∷ (ref an_e) ∷ (ref (const_of bool)) ∷ (to (const_of (to void))) ∷ []) ≡ (false ∷ false ∷ false ∷ false ∷ false ∷ true ∷ false ∷ true ∷ true ∷ false ∷ false ∷ true ∷ true ∷ false ∷ false ∷ true ∷ false ∷ false ∷ false ∷ false ∷ false ∷ false ∷ false ∷ false ∷ false ∷ false ∷ false ∷ false ∷ false ∷ false ∷ false ∷ false ∷ false ∷ false ∷ false ∷ false ∷ true ∷ false ∷ false ∷ false ∷ true ∷ false ∷ [])
unfolding standard_sequence steps_between steps_of_reference steps_by_relation steps_of_unrelated steps_of_related related related_kinds steps_of_value steps_by_kinds steps_to_class steps_to_scalar class_step value_step steps_of_kinds steps_of_pointer steps_of_enumeration steps_of_arithmetic is_text step_of_enumeration steps_of_pointers pointer_to_other pointer_to_class is_derived is_pending promoted
taken_6 = refl

-- const int **
taken_7 : found (lvalue (to (to (const_of int)))) (int ∷ (const_of int) ∷ (to int) ∷ (to (const_of int)) ∷ (const_of (to int)) ∷ (to (to int)) ∷ (to (to (const_of int))) ∷ (to (const_of (to int))) ∷ (to (const_of (to (const_of int)))) ∷ (to (three int)) ∷ (to (three (const_of int))) ∷ (to void) ∷ (to (const_of void)) ∷ (to function) ∷ an_e ∷ bool ∷ double ∷ a ∷ b ∷ (to a) ∷ (to c) ∷ (to (const_of b)) ∷ (to x) ∷ (to (volatile_of int)) ∷ (to (const_of (to (const_of (to (const_of int)))))) ∷ (ref int) ∷ (ref (const_of int)) ∷ (ref (volatile_of int)) ∷ (ref (const_of long)) ∷ (ref a) ∷ (ref (const_of a)) ∷ (ref (const_of c)) ∷ (ref (const_of (to int))) ∷ (ref (const_of (to (const_of int)))) ∷ (ref (three int)) ∷ (ref (three (const_of int))) ∷ (ref (const_of (to void))) ∷ (ref (const_of (to a))) ∷ (ref function) ∷ (ref an_e) ∷ (ref (const_of bool)) ∷ (to (const_of (to void))) ∷ []) ≡ (false ∷ false ∷ false ∷ false ∷ false ∷ false ∷ true ∷ false ∷ true ∷ false ∷ false ∷ true ∷ true ∷ false ∷ false ∷ true ∷ false ∷ false ∷ false ∷ false ∷ false ∷ false ∷ false ∷ false ∷ false ∷ false ∷ false ∷ false ∷ false ∷ false ∷ false ∷ false ∷ false ∷ false ∷ false ∷ false ∷ true ∷ false ∷ false ∷ false ∷ true ∷ false ∷ [])
unfolding standard_sequence steps_between steps_of_reference steps_by_relation steps_of_unrelated steps_of_related related related_kinds steps_of_value steps_by_kinds steps_to_class steps_to_scalar class_step value_step steps_of_kinds steps_of_pointer steps_of_enumeration steps_of_arithmetic is_text step_of_enumeration steps_of_pointers pointer_to_other pointer_to_class is_derived is_pending promoted
taken_7 = refl

-- int * const *
taken_8 : found (lvalue (to (const_of (to int)))) (int ∷ (const_of int) ∷ (to int) ∷ (to (const_of int)) ∷ (const_of (to int)) ∷ (to (to int)) ∷ (to (to (const_of int))) ∷ (to (const_of (to int))) ∷ (to (const_of (to (const_of int)))) ∷ (to (three int)) ∷ (to (three (const_of int))) ∷ (to void) ∷ (to (const_of void)) ∷ (to function) ∷ an_e ∷ bool ∷ double ∷ a ∷ b ∷ (to a) ∷ (to c) ∷ (to (const_of b)) ∷ (to x) ∷ (to (volatile_of int)) ∷ (to (const_of (to (const_of (to (const_of int)))))) ∷ (ref int) ∷ (ref (const_of int)) ∷ (ref (volatile_of int)) ∷ (ref (const_of long)) ∷ (ref a) ∷ (ref (const_of a)) ∷ (ref (const_of c)) ∷ (ref (const_of (to int))) ∷ (ref (const_of (to (const_of int)))) ∷ (ref (three int)) ∷ (ref (three (const_of int))) ∷ (ref (const_of (to void))) ∷ (ref (const_of (to a))) ∷ (ref function) ∷ (ref an_e) ∷ (ref (const_of bool)) ∷ (to (const_of (to void))) ∷ []) ≡ (false ∷ false ∷ false ∷ false ∷ false ∷ false ∷ false ∷ true ∷ true ∷ false ∷ false ∷ false ∷ true ∷ false ∷ false ∷ true ∷ false ∷ false ∷ false ∷ false ∷ false ∷ false ∷ false ∷ false ∷ false ∷ false ∷ false ∷ false ∷ false ∷ false ∷ false ∷ false ∷ false ∷ false ∷ false ∷ false ∷ false ∷ false ∷ false ∷ false ∷ true ∷ false ∷ [])
unfolding standard_sequence steps_between steps_of_reference steps_by_relation steps_of_unrelated steps_of_related related related_kinds steps_of_value steps_by_kinds steps_to_class steps_to_scalar class_step value_step steps_of_kinds steps_of_pointer steps_of_enumeration steps_of_arithmetic is_text step_of_enumeration steps_of_pointers pointer_to_other pointer_to_class is_derived is_pending promoted
taken_8 = refl

-- const int * const *
taken_9 : found (lvalue (to (const_of (to (const_of int))))) (int ∷ (const_of int) ∷ (to int) ∷ (to (const_of int)) ∷ (const_of (to int)) ∷ (to (to int)) ∷ (to (to (const_of int))) ∷ (to (const_of (to int))) ∷ (to (const_of (to (const_of int)))) ∷ (to (three int)) ∷ (to (three (const_of int))) ∷ (to void) ∷ (to (const_of void)) ∷ (to function) ∷ an_e ∷ bool ∷ double ∷ a ∷ b ∷ (to a) ∷ (to c) ∷ (to (const_of b)) ∷ (to x) ∷ (to (volatile_of int)) ∷ (to (const_of (to (const_of (to (const_of int)))))) ∷ (ref int) ∷ (ref (const_of int)) ∷ (ref (volatile_of int)) ∷ (ref (const_of long)) ∷ (ref a) ∷ (ref (const_of a)) ∷ (ref (const_of c)) ∷ (ref (const_of (to int))) ∷ (ref (const_of (to (const_of int)))) ∷ (ref (three int)) ∷ (ref (three (const_of int))) ∷ (ref (const_of (to void))) ∷ (ref (const_of (to a))) ∷ (ref function) ∷ (ref an_e) ∷ (ref (const_of bool)) ∷ (to (const_of (to void))) ∷ []) ≡ (false ∷ false ∷ false ∷ false ∷ false ∷ false ∷ false ∷ false ∷ true ∷ false ∷ false ∷ false ∷ true ∷ false ∷ false ∷ true ∷ false ∷ false ∷ false ∷ false ∷ false ∷ false ∷ false ∷ false ∷ false ∷ false ∷ false ∷ false ∷ false ∷ false ∷ false ∷ false ∷ false ∷ false ∷ false ∷ false ∷ false ∷ false ∷ false ∷ false ∷ true ∷ false ∷ [])
unfolding standard_sequence steps_between steps_of_reference steps_by_relation steps_of_unrelated steps_of_related related related_kinds steps_of_value steps_by_kinds steps_to_class steps_to_scalar class_step value_step steps_of_kinds steps_of_pointer steps_of_enumeration steps_of_arithmetic is_text step_of_enumeration steps_of_pointers pointer_to_other pointer_to_class is_derived is_pending promoted
taken_9 = refl

-- int ()[3]
taken_10 : found (lvalue (three int)) (int ∷ (const_of int) ∷ (to int) ∷ (to (const_of int)) ∷ (const_of (to int)) ∷ (to (to int)) ∷ (to (to (const_of int))) ∷ (to (const_of (to int))) ∷ (to (const_of (to (const_of int)))) ∷ (to (three int)) ∷ (to (three (const_of int))) ∷ (to void) ∷ (to (const_of void)) ∷ (to function) ∷ an_e ∷ bool ∷ double ∷ a ∷ b ∷ (to a) ∷ (to c) ∷ (to (const_of b)) ∷ (to x) ∷ (to (volatile_of int)) ∷ (to (const_of (to (const_of (to (const_of int)))))) ∷ (ref int) ∷ (ref (const_of int)) ∷ (ref (volatile_of int)) ∷ (ref (const_of long)) ∷ (ref a) ∷ (ref (const_of a)) ∷ (ref (const_of c)) ∷ (ref (const_of (to int))) ∷ (ref (const_of (to (const_of int)))) ∷ (ref (three int)) ∷ (ref (three (const_of int))) ∷ (ref (const_of (to void))) ∷ (ref (const_of (to a))) ∷ (ref function) ∷ (ref an_e) ∷ (ref (const_of bool)) ∷ (to (const_of (to void))) ∷ []) ≡ (false ∷ false ∷ true ∷ true ∷ true ∷ false ∷ false ∷ false ∷ false ∷ false ∷ false ∷ true ∷ true ∷ false ∷ false ∷ true ∷ false ∷ false ∷ false ∷ false ∷ false ∷ false ∷ false ∷ true ∷ false ∷ false ∷ false ∷ false ∷ false ∷ false ∷ false ∷ false ∷ true ∷ true ∷ true ∷ true ∷ true ∷ false ∷ false ∷ false ∷ true ∷ false ∷ [])
unfolding standard_sequence steps_between steps_of_reference steps_by_relation steps_of_unrelated steps_of_related related related_kinds steps_of_value steps_by_kinds steps_to_class steps_to_scalar class_step value_step steps_of_kinds steps_of_pointer steps_of_enumeration steps_of_arithmetic is_text step_of_enumeration steps_of_pointers pointer_to_other pointer_to_class is_derived is_pending promoted
taken_10 = refl

-- const int ()[3]
taken_11 : found (lvalue (three (const_of int))) (int ∷ (const_of int) ∷ (to int) ∷ (to (const_of int)) ∷ (const_of (to int)) ∷ (to (to int)) ∷ (to (to (const_of int))) ∷ (to (const_of (to int))) ∷ (to (const_of (to (const_of int)))) ∷ (to (three int)) ∷ (to (three (const_of int))) ∷ (to void) ∷ (to (const_of void)) ∷ (to function) ∷ an_e ∷ bool ∷ double ∷ a ∷ b ∷ (to a) ∷ (to c) ∷ (to (const_of b)) ∷ (to x) ∷ (to (volatile_of int)) ∷ (to (const_of (to (const_of (to (const_of int)))))) ∷ (ref int) ∷ (ref (const_of int)) ∷ (ref (volatile_of int)) ∷ (ref (const_of long)) ∷ (ref a) ∷ (ref (const_of a)) ∷ (ref (const_of c)) ∷ (ref (const_of (to int))) ∷ (ref (const_of (to (const_of int)))) ∷ (ref (three int)) ∷ (ref (three (const_of int))) ∷ (ref (const_of (to void))) ∷ (ref (const_of (to a))) ∷ (ref function) ∷ (ref an_e) ∷ (ref (const_of bool)) ∷ (to (const_of (to void))) ∷ []) ≡ (false ∷ false ∷ false ∷ true ∷ false ∷ false ∷ false ∷ false ∷ false ∷ false ∷ false ∷ false ∷ true ∷ false ∷ false ∷ true ∷ false ∷ false ∷ false ∷ false ∷ false ∷ false ∷ false ∷ false ∷ false ∷ false ∷ false ∷ false ∷ false ∷ false ∷ false ∷ false ∷ false ∷ true ∷ false ∷ true ∷ false ∷ false ∷ false ∷ false ∷ true ∷ false ∷ [])
unfolding standard_sequence steps_between steps_of_reference steps_by_relation steps_of_unrelated steps_of_related related related_kinds steps_of_value steps_by_kinds steps_to_class steps_to_scalar class_step value_step steps_of_kinds steps_of_pointer steps_of_enumeration steps_of_arithmetic is_text step_of_enumeration steps_of_pointers pointer_to_other pointer_to_class is_derived is_pending promoted
taken_11 = refl

-- int (*)[3]
taken_12 : found (lvalue (to (three int))) (int ∷ (const_of int) ∷ (to int) ∷ (to (const_of int)) ∷ (const_of (to int)) ∷ (to (to int)) ∷ (to (to (const_of int))) ∷ (to (const_of (to int))) ∷ (to (const_of (to (const_of int)))) ∷ (to (three int)) ∷ (to (three (const_of int))) ∷ (to void) ∷ (to (const_of void)) ∷ (to function) ∷ an_e ∷ bool ∷ double ∷ a ∷ b ∷ (to a) ∷ (to c) ∷ (to (const_of b)) ∷ (to x) ∷ (to (volatile_of int)) ∷ (to (const_of (to (const_of (to (const_of int)))))) ∷ (ref int) ∷ (ref (const_of int)) ∷ (ref (volatile_of int)) ∷ (ref (const_of long)) ∷ (ref a) ∷ (ref (const_of a)) ∷ (ref (const_of c)) ∷ (ref (const_of (to int))) ∷ (ref (const_of (to (const_of int)))) ∷ (ref (three int)) ∷ (ref (three (const_of int))) ∷ (ref (const_of (to void))) ∷ (ref (const_of (to a))) ∷ (ref function) ∷ (ref an_e) ∷ (ref (const_of bool)) ∷ (to (const_of (to void))) ∷ []) ≡ (false ∷ false ∷ false ∷ false ∷ false ∷ false ∷ false ∷ false ∷ false ∷ true ∷ true ∷ true ∷ true ∷ false ∷ false ∷ true ∷ false ∷ false ∷ false ∷ false ∷ false ∷ false ∷ false ∷ false ∷ false ∷ false ∷ false ∷ false ∷ false ∷ false ∷ false ∷ false ∷ false ∷ false ∷ false ∷ false ∷ true ∷ false ∷ false ∷ false ∷ true ∷ false ∷ [])
unfolding standard_sequence steps_between steps_of_reference steps_by_relation steps_of_unrelated steps_of_related related related_kinds steps_of_value steps_by_kinds steps_to_class steps_to_scalar class_step value_step steps_of_kinds steps_of_pointer steps_of_enumeration steps_of_arithmetic is_text step_of_enumeration steps_of_pointers pointer_to_other pointer_to_class is_derived is_pending promoted
taken_12 = refl

-- const int (*)[3]
taken_13 : found (lvalue (to (three (const_of int)))) (int ∷ (const_of int) ∷ (to int) ∷ (to (const_of int)) ∷ (const_of (to int)) ∷ (to (to int)) ∷ (to (to (const_of int))) ∷ (to (const_of (to int))) ∷ (to (const_of (to (const_of int)))) ∷ (to (three int)) ∷ (to (three (const_of int))) ∷ (to void) ∷ (to (const_of void)) ∷ (to function) ∷ an_e ∷ bool ∷ double ∷ a ∷ b ∷ (to a) ∷ (to c) ∷ (to (const_of b)) ∷ (to x) ∷ (to (volatile_of int)) ∷ (to (const_of (to (const_of (to (const_of int)))))) ∷ (ref int) ∷ (ref (const_of int)) ∷ (ref (volatile_of int)) ∷ (ref (const_of long)) ∷ (ref a) ∷ (ref (const_of a)) ∷ (ref (const_of c)) ∷ (ref (const_of (to int))) ∷ (ref (const_of (to (const_of int)))) ∷ (ref (three int)) ∷ (ref (three (const_of int))) ∷ (ref (const_of (to void))) ∷ (ref (const_of (to a))) ∷ (ref function) ∷ (ref an_e) ∷ (ref (const_of bool)) ∷ (to (const_of (to void))) ∷ []) ≡ (false ∷ false ∷ false ∷ false ∷ false ∷ false ∷ false ∷ false ∷ false ∷ false ∷ true ∷ false ∷ true ∷ false ∷ false ∷ true ∷ false ∷ false ∷ false ∷ false ∷ false ∷ false ∷ false ∷ false ∷ false ∷ false ∷ false ∷ false ∷ false ∷ false ∷ false ∷ false ∷ false ∷ false ∷ false ∷ false ∷ false ∷ false ∷ false ∷ false ∷ true ∷ false ∷ [])
unfolding standard_sequence steps_between steps_of_reference steps_by_relation steps_of_unrelated steps_of_related related related_kinds steps_of_value steps_by_kinds steps_to_class steps_to_scalar class_step value_step steps_of_kinds steps_of_pointer steps_of_enumeration steps_of_arithmetic is_text step_of_enumeration steps_of_pointers pointer_to_other pointer_to_class is_derived is_pending promoted
taken_13 = refl

-- int *()[3]
taken_14 : found (lvalue (three (to int))) (int ∷ (const_of int) ∷ (to int) ∷ (to (const_of int)) ∷ (const_of (to int)) ∷ (to (to int)) ∷ (to (to (const_of int))) ∷ (to (const_of (to int))) ∷ (to (const_of (to (const_of int)))) ∷ (to (three int)) ∷ (to (three (const_of int))) ∷ (to void) ∷ (to (const_of void)) ∷ (to function) ∷ an_e ∷ bool ∷ double ∷ a ∷ b ∷ (to a) ∷ (to c) ∷ (to (const_of b)) ∷ (to x) ∷ (to (volatile_of int)) ∷ (to (const_of (to (const_of (to (const_of int)))))) ∷ (ref int) ∷ (ref (const_of int)) ∷ (ref (volatile_of int)) ∷ (ref (const_of long)) ∷ (ref a) ∷ (ref (const_of a)) ∷ (ref (const_of c)) ∷ (ref (const_of (to int))) ∷ (ref (const_of (to (const_of int)))) ∷ (ref (three int)) ∷ (ref (three (const_of int))) ∷ (ref (const_of (to void))) ∷ (ref (const_of (to a))) ∷ (ref function) ∷ (ref an_e) ∷ (ref (const_of bool)) ∷ (to (const_of (to void))) ∷ []) ≡ (false ∷ false ∷ false ∷ false ∷ false ∷ true ∷ false ∷ true ∷ true ∷ false ∷ false ∷ true ∷ true ∷ false ∷ false ∷ true ∷ false ∷ false ∷ false ∷ false ∷ false ∷ false ∷ false ∷ false ∷ false ∷ false ∷ false ∷ false ∷ false ∷ false ∷ false ∷ false ∷ false ∷ false ∷ false ∷ false ∷ true ∷ false ∷ false ∷ false ∷ true ∷ false ∷ [])
unfolding standard_sequence steps_between steps_of_reference steps_by_relation steps_of_unrelated steps_of_related related related_kinds steps_of_value steps_by_kinds steps_to_class steps_to_scalar class_step value_step steps_of_kinds steps_of_pointer steps_of_enumeration steps_of_arithmetic is_text step_of_enumeration steps_of_pointers pointer_to_other pointer_to_class is_derived is_pending promoted
taken_14 = refl

-- void *
taken_15 : found (lvalue (to void)) (int ∷ (const_of int) ∷ (to int) ∷ (to (const_of int)) ∷ (const_of (to int)) ∷ (to (to int)) ∷ (to (to (const_of int))) ∷ (to (const_of (to int))) ∷ (to (const_of (to (const_of int)))) ∷ (to (three int)) ∷ (to (three (const_of int))) ∷ (to void) ∷ (to (const_of void)) ∷ (to function) ∷ an_e ∷ bool ∷ double ∷ a ∷ b ∷ (to a) ∷ (to c) ∷ (to (const_of b)) ∷ (to x) ∷ (to (volatile_of int)) ∷ (to (const_of (to (const_of (to (const_of int)))))) ∷ (ref int) ∷ (ref (const_of int)) ∷ (ref (volatile_of int)) ∷ (ref (const_of long)) ∷ (ref a) ∷ (ref (const_of a)) ∷ (ref (const_of c)) ∷ (ref (const_of (to int))) ∷ (ref (const_of (to (const_of int)))) ∷ (ref (three int)) ∷ (ref (three (const_of int))) ∷ (ref (const_of (to void))) ∷ (ref (const_of (to a))) ∷ (ref function) ∷ (ref an_e) ∷ (ref (const_of bool)) ∷ (to (const_of (to void))) ∷ []) ≡ (false ∷ false ∷ false ∷ false ∷ false ∷ false ∷ false ∷ false ∷ false ∷ false ∷ false ∷ true ∷ true ∷ false ∷ false ∷ true ∷ false ∷ false ∷ false ∷ false ∷ false ∷ false ∷ false ∷ false ∷ false ∷ false ∷ false ∷ false ∷ false ∷ false ∷ false ∷ false ∷ false ∷ false ∷ false ∷ false ∷ true ∷ false ∷ false ∷ false ∷ true ∷ false ∷ [])
unfolding standard_sequence steps_between steps_of_reference steps_by_relation steps_of_unrelated steps_of_related related related_kinds steps_of_value steps_by_kinds steps_to_class steps_to_scalar class_step value_step steps_of_kinds steps_of_pointer steps_of_enumeration steps_of_arithmetic is_text step_of_enumeration steps_of_pointers pointer_to_other pointer_to_class is_derived is_pending promoted
taken_15 = refl

-- const void *
taken_16 : found (lvalue (to (const_of void))) (int ∷ (const_of int) ∷ (to int) ∷ (to (const_of int)) ∷ (const_of (to int)) ∷ (to (to int)) ∷ (to (to (const_of int))) ∷ (to (const_of (to int))) ∷ (to (const_of (to (const_of int)))) ∷ (to (three int)) ∷ (to (three (const_of int))) ∷ (to void) ∷ (to (const_of void)) ∷ (to function) ∷ an_e ∷ bool ∷ double ∷ a ∷ b ∷ (to a) ∷ (to c) ∷ (to (const_of b)) ∷ (to x) ∷ (to (volatile_of int)) ∷ (to (const_of (to (const_of (to (const_of int)))))) ∷ (ref int) ∷ (ref (const_of int)) ∷ (ref (volatile_of int)) ∷ (ref (const_of long)) ∷ (ref a) ∷ (ref (const_of a)) ∷ (ref (const_of c)) ∷ (ref (const_of (to int))) ∷ (ref (const_of (to (const_of int)))) ∷ (ref (three int)) ∷ (ref (three (const_of int))) ∷ (ref (const_of (to void))) ∷ (ref (const_of (to a))) ∷ (ref function) ∷ (ref an_e) ∷ (ref (const_of bool)) ∷ (to (const_of (to void))) ∷ []) ≡ (false ∷ false ∷ false ∷ false ∷ false ∷ false ∷ false ∷ false ∷ false ∷ false ∷ false ∷ false ∷ true ∷ false ∷ false ∷ true ∷ false ∷ false ∷ false ∷ false ∷ false ∷ false ∷ false ∷ false ∷ false ∷ false ∷ false ∷ false ∷ false ∷ false ∷ false ∷ false ∷ false ∷ false ∷ false ∷ false ∷ false ∷ false ∷ false ∷ false ∷ true ∷ false ∷ [])
unfolding standard_sequence steps_between steps_of_reference steps_by_relation steps_of_unrelated steps_of_related related related_kinds steps_of_value steps_by_kinds steps_to_class steps_to_scalar class_step value_step steps_of_kinds steps_of_pointer steps_of_enumeration steps_of_arithmetic is_text step_of_enumeration steps_of_pointers pointer_to_other pointer_to_class is_derived is_pending promoted
taken_16 = refl

-- F *
taken_17 : found (lvalue (to function)) (int ∷ (const_of int) ∷ (to int) ∷ (to (const_of int)) ∷ (const_of (to int)) ∷ (to (to int)) ∷ (to (to (const_of int))) ∷ (to (const_of (to int))) ∷ (to (const_of (to (const_of int)))) ∷ (to (three int)) ∷ (to (three (const_of int))) ∷ (to void) ∷ (to (const_of void)) ∷ (to function) ∷ an_e ∷ bool ∷ double ∷ a ∷ b ∷ (to a) ∷ (to c) ∷ (to (const_of b)) ∷ (to x) ∷ (to (volatile_of int)) ∷ (to (const_of (to (const_of (to (const_of int)))))) ∷ (ref int) ∷ (ref (const_of int)) ∷ (ref (volatile_of int)) ∷ (ref (const_of long)) ∷ (ref a) ∷ (ref (const_of a)) ∷ (ref (const_of c)) ∷ (ref (const_of (to int))) ∷ (ref (const_of (to (const_of int)))) ∷ (ref (three int)) ∷ (ref (three (const_of int))) ∷ (ref (const_of (to void))) ∷ (ref (const_of (to a))) ∷ (ref function) ∷ (ref an_e) ∷ (ref (const_of bool)) ∷ (to (const_of (to void))) ∷ []) ≡ (false ∷ false ∷ false ∷ false ∷ false ∷ false ∷ false ∷ false ∷ false ∷ false ∷ false ∷ false ∷ false ∷ true ∷ false ∷ true ∷ false ∷ false ∷ false ∷ false ∷ false ∷ false ∷ false ∷ false ∷ false ∷ false ∷ false ∷ false ∷ false ∷ false ∷ false ∷ false ∷ false ∷ false ∷ false ∷ false ∷ false ∷ false ∷ false ∷ false ∷ true ∷ false ∷ [])
unfolding standard_sequence steps_between steps_of_reference steps_by_relation steps_of_unrelated steps_of_related related related_kinds steps_of_value steps_by_kinds steps_to_class steps_to_scalar class_step value_step steps_of_kinds steps_of_pointer steps_of_enumeration steps_of_arithmetic is_text step_of_enumeration steps_of_pointers pointer_to_other pointer_to_class is_derived is_pending promoted
taken_17 = refl

-- E
taken_18 : found (lvalue an_e) (int ∷ (const_of int) ∷ (to int) ∷ (to (const_of int)) ∷ (const_of (to int)) ∷ (to (to int)) ∷ (to (to (const_of int))) ∷ (to (const_of (to int))) ∷ (to (const_of (to (const_of int)))) ∷ (to (three int)) ∷ (to (three (const_of int))) ∷ (to void) ∷ (to (const_of void)) ∷ (to function) ∷ an_e ∷ bool ∷ double ∷ a ∷ b ∷ (to a) ∷ (to c) ∷ (to (const_of b)) ∷ (to x) ∷ (to (volatile_of int)) ∷ (to (const_of (to (const_of (to (const_of int)))))) ∷ (ref int) ∷ (ref (const_of int)) ∷ (ref (volatile_of int)) ∷ (ref (const_of long)) ∷ (ref a) ∷ (ref (const_of a)) ∷ (ref (const_of c)) ∷ (ref (const_of (to int))) ∷ (ref (const_of (to (const_of int)))) ∷ (ref (three int)) ∷ (ref (three (const_of int))) ∷ (ref (const_of (to void))) ∷ (ref (const_of (to a))) ∷ (ref function) ∷ (ref an_e) ∷ (ref (const_of bool)) ∷ (to (const_of (to void))) ∷ []) ≡ (true ∷ true ∷ false ∷ false ∷ false ∷ false ∷ false ∷ false ∷ false ∷ false ∷ false ∷ false ∷ false ∷ false ∷ true ∷ true ∷ true ∷ false ∷ false ∷ false ∷ false ∷ false ∷ false ∷ false ∷ false ∷ false ∷ true ∷ false ∷ true ∷ false ∷ false ∷ false ∷ false ∷ false ∷ false ∷ false ∷ false ∷ false ∷ false ∷ true ∷ true ∷ false ∷ [])
unfolding standard_sequence steps_between steps_of_reference steps_by_relation steps_of_unrelated steps_of_related related related_kinds steps_of_value steps_by_kinds steps_to_class steps_to_scalar class_step value_step steps_of_kinds steps_of_pointer steps_of_enumeration steps_of_arithmetic is_text step_of_enumeration steps_of_pointers pointer_to_other pointer_to_class is_derived is_pending promoted
taken_18 = refl

-- bool
taken_19 : found (lvalue bool) (int ∷ (const_of int) ∷ (to int) ∷ (to (const_of int)) ∷ (const_of (to int)) ∷ (to (to int)) ∷ (to (to (const_of int))) ∷ (to (const_of (to int))) ∷ (to (const_of (to (const_of int)))) ∷ (to (three int)) ∷ (to (three (const_of int))) ∷ (to void) ∷ (to (const_of void)) ∷ (to function) ∷ an_e ∷ bool ∷ double ∷ a ∷ b ∷ (to a) ∷ (to c) ∷ (to (const_of b)) ∷ (to x) ∷ (to (volatile_of int)) ∷ (to (const_of (to (const_of (to (const_of int)))))) ∷ (ref int) ∷ (ref (const_of int)) ∷ (ref (volatile_of int)) ∷ (ref (const_of long)) ∷ (ref a) ∷ (ref (const_of a)) ∷ (ref (const_of c)) ∷ (ref (const_of (to int))) ∷ (ref (const_of (to (const_of int)))) ∷ (ref (three int)) ∷ (ref (three (const_of int))) ∷ (ref (const_of (to void))) ∷ (ref (const_of (to a))) ∷ (ref function) ∷ (ref an_e) ∷ (ref (const_of bool)) ∷ (to (const_of (to void))) ∷ []) ≡ (true ∷ true ∷ false ∷ false ∷ false ∷ false ∷ false ∷ false ∷ false ∷ false ∷ false ∷ false ∷ false ∷ false ∷ false ∷ true ∷ true ∷ false ∷ false ∷ false ∷ false ∷ false ∷ false ∷ false ∷ false ∷ false ∷ true ∷ false ∷ true ∷ false ∷ false ∷ false ∷ false ∷ false ∷ false ∷ false ∷ false ∷ false ∷ false ∷ false ∷ true ∷ false ∷ [])
unfolding standard_sequence steps_between steps_of_reference steps_by_relation steps_of_unrelated steps_of_related related related_kinds steps_of_value steps_by_kinds steps_to_class steps_to_scalar class_step value_step steps_of_kinds steps_of_pointer steps_of_enumeration steps_of_arithmetic is_text step_of_enumeration steps_of_pointers pointer_to_other pointer_to_class is_derived is_pending promoted
taken_19 = refl

-- double
taken_20 : found (lvalue double) (int ∷ (const_of int) ∷ (to int) ∷ (to (const_of int)) ∷ (const_of (to int)) ∷ (to (to int)) ∷ (to (to (const_of int))) ∷ (to (const_of (to int))) ∷ (to (const_of (to (const_of int)))) ∷ (to (three int)) ∷ (to (three (const_of int))) ∷ (to void) ∷ (to (const_of void)) ∷ (to function) ∷ an_e ∷ bool ∷ double ∷ a ∷ b ∷ (to a) ∷ (to c) ∷ (to (const_of b)) ∷ (to x) ∷ (to (volatile_of int)) ∷ (to (const_of (to (const_of (to (const_of int)))))) ∷ (ref int) ∷ (ref (const_of int)) ∷ (ref (volatile_of int)) ∷ (ref (const_of long)) ∷ (ref a) ∷ (ref (const_of a)) ∷ (ref (const_of c)) ∷ (ref (const_of (to int))) ∷ (ref (const_of (to (const_of int)))) ∷ (ref (three int)) ∷ (ref (three (const_of int))) ∷ (ref (const_of (to void))) ∷ (ref (const_of (to a))) ∷ (ref function) ∷ (ref an_e) ∷ (ref (const_of bool)) ∷ (to (const_of (to void))) ∷ []) ≡ (true ∷ true ∷ false ∷ false ∷ false ∷ false ∷ false ∷ false ∷ false ∷ false ∷ false ∷ false ∷ false ∷ false ∷ false ∷ true ∷ true ∷ false ∷ false ∷ false ∷ false ∷ false ∷ false ∷ false ∷ false ∷ false ∷ true ∷ false ∷ true ∷ false ∷ false ∷ false ∷ false ∷ false ∷ false ∷ false ∷ false ∷ false ∷ false ∷ false ∷ true ∷ false ∷ [])
unfolding standard_sequence steps_between steps_of_reference steps_by_relation steps_of_unrelated steps_of_related related related_kinds steps_of_value steps_by_kinds steps_to_class steps_to_scalar class_step value_step steps_of_kinds steps_of_pointer steps_of_enumeration steps_of_arithmetic is_text step_of_enumeration steps_of_pointers pointer_to_other pointer_to_class is_derived is_pending promoted
taken_20 = refl

-- A
taken_21 : found (lvalue a) (int ∷ (const_of int) ∷ (to int) ∷ (to (const_of int)) ∷ (const_of (to int)) ∷ (to (to int)) ∷ (to (to (const_of int))) ∷ (to (const_of (to int))) ∷ (to (const_of (to (const_of int)))) ∷ (to (three int)) ∷ (to (three (const_of int))) ∷ (to void) ∷ (to (const_of void)) ∷ (to function) ∷ an_e ∷ bool ∷ double ∷ a ∷ b ∷ (to a) ∷ (to c) ∷ (to (const_of b)) ∷ (to x) ∷ (to (volatile_of int)) ∷ (to (const_of (to (const_of (to (const_of int)))))) ∷ (ref int) ∷ (ref (const_of int)) ∷ (ref (volatile_of int)) ∷ (ref (const_of long)) ∷ (ref a) ∷ (ref (const_of a)) ∷ (ref (const_of c)) ∷ (ref (const_of (to int))) ∷ (ref (const_of (to (const_of int)))) ∷ (ref (three int)) ∷ (ref (three (const_of int))) ∷ (ref (const_of (to void))) ∷ (ref (const_of (to a))) ∷ (ref function) ∷ (ref an_e) ∷ (ref (const_of bool)) ∷ (to (const_of (to void))) ∷ []) ≡ (false ∷ false ∷ false ∷ false ∷ false ∷ false ∷ false ∷ false ∷ false ∷ false ∷ false ∷ false ∷ false ∷ false ∷ false ∷ false ∷ false ∷ true ∷ false ∷ false ∷ false ∷ false ∷ false ∷ false ∷ false ∷ false ∷ false ∷ false ∷ false ∷ true ∷ true ∷ false ∷ false ∷ false ∷ false ∷ false ∷ false ∷ false ∷ false ∷ false ∷ false ∷ false ∷ [])
unfolding standard_sequence steps_between steps_of_reference steps_by_relation steps_of_unrelated steps_of_related related related_kinds steps_of_value steps_by_kinds steps_to_class steps_to_scalar class_step value_step steps_of_kinds steps_of_pointer steps_of_enumeration steps_of_arithmetic is_text step_of_enumeration steps_of_pointers pointer_to_other pointer_to_class is_derived is_pending promoted
taken_21 = refl

-- B
taken_22 : found (lvalue b) (int ∷ (const_of int) ∷ (to int) ∷ (to (const_of int)) ∷ (const_of (to int)) ∷ (to (to int)) ∷ (to (to (const_of int))) ∷ (to (const_of (to int))) ∷ (to (const_of (to (const_of int)))) ∷ (to (three int)) ∷ (to (three (const_of int))) ∷ (to void) ∷ (to (const_of void)) ∷ (to function) ∷ an_e ∷ bool ∷ double ∷ a ∷ b ∷ (to a) ∷ (to c) ∷ (to (const_of b)) ∷ (to x) ∷ (to (volatile_of int)) ∷ (to (const_of (to (const_of (to (const_of int)))))) ∷ (ref int) ∷ (ref (const_of int)) ∷ (ref (volatile_of int)) ∷ (ref (const_of long)) ∷ (ref a) ∷ (ref (const_of a)) ∷ (ref (const_of c)) ∷ (ref (const_of (to int))) ∷ (ref (const_of (to (const_of int)))) ∷ (ref (three int)) ∷ (ref (three (const_of int))) ∷ (ref (const_of (to void))) ∷ (ref (const_of (to a))) ∷ (ref function) ∷ (ref an_e) ∷ (ref (const_of bool)) ∷ (to (const_of (to void))) ∷ []) ≡ (false ∷ false ∷ false ∷ false ∷ false ∷ false ∷ false ∷ false ∷ false ∷ false ∷ false ∷ false ∷ false ∷ false ∷ false ∷ false ∷ false ∷ true ∷ true ∷ false ∷ false ∷ false ∷ false ∷ false ∷ false ∷ false ∷ false ∷ false ∷ false ∷ true ∷ true ∷ false ∷ false ∷ false ∷ false ∷ false ∷ false ∷ false ∷ false ∷ false ∷ false ∷ false ∷ [])
unfolding standard_sequence steps_between steps_of_reference steps_by_relation steps_of_unrelated steps_of_related related related_kinds steps_of_value steps_by_kinds steps_to_class steps_to_scalar class_step value_step steps_of_kinds steps_of_pointer steps_of_enumeration steps_of_arithmetic is_text step_of_enumeration steps_of_pointers pointer_to_other pointer_to_class is_derived is_pending promoted
taken_22 = refl

-- const C
taken_23 : found (lvalue (const_of c)) (int ∷ (const_of int) ∷ (to int) ∷ (to (const_of int)) ∷ (const_of (to int)) ∷ (to (to int)) ∷ (to (to (const_of int))) ∷ (to (const_of (to int))) ∷ (to (const_of (to (const_of int)))) ∷ (to (three int)) ∷ (to (three (const_of int))) ∷ (to void) ∷ (to (const_of void)) ∷ (to function) ∷ an_e ∷ bool ∷ double ∷ a ∷ b ∷ (to a) ∷ (to c) ∷ (to (const_of b)) ∷ (to x) ∷ (to (volatile_of int)) ∷ (to (const_of (to (const_of (to (const_of int)))))) ∷ (ref int) ∷ (ref (const_of int)) ∷ (ref (volatile_of int)) ∷ (ref (const_of long)) ∷ (ref a) ∷ (ref (const_of a)) ∷ (ref (const_of c)) ∷ (ref (const_of (to int))) ∷ (ref (const_of (to (const_of int)))) ∷ (ref (three int)) ∷ (ref (three (const_of int))) ∷ (ref (const_of (to void))) ∷ (ref (const_of (to a))) ∷ (ref function) ∷ (ref an_e) ∷ (ref (const_of bool)) ∷ (to (const_of (to void))) ∷ []) ≡ (false ∷ false ∷ false ∷ false ∷ false ∷ false ∷ false ∷ false ∷ false ∷ false ∷ false ∷ false ∷ false ∷ false ∷ false ∷ false ∷ false ∷ true ∷ true ∷ false ∷ false ∷ false ∷ false ∷ false ∷ false ∷ false ∷ false ∷ false ∷ false ∷ false ∷ true ∷ true ∷ false ∷ false ∷ false ∷ false ∷ false ∷ false ∷ false ∷ false ∷ false ∷ false ∷ [])
unfolding standard_sequence steps_between steps_of_reference steps_by_relation steps_of_unrelated steps_of_related related related_kinds steps_of_value steps_by_kinds steps_to_class steps_to_scalar class_step value_step steps_of_kinds steps_of_pointer steps_of_enumeration steps_of_arithmetic is_text step_of_enumeration steps_of_pointers pointer_to_other pointer_to_class is_derived is_pending promoted
taken_23 = refl

-- A *
taken_24 : found (lvalue (to a)) (int ∷ (const_of int) ∷ (to int) ∷ (to (const_of int)) ∷ (const_of (to int)) ∷ (to (to int)) ∷ (to (to (const_of int))) ∷ (to (const_of (to int))) ∷ (to (const_of (to (const_of int)))) ∷ (to (three int)) ∷ (to (three (const_of int))) ∷ (to void) ∷ (to (const_of void)) ∷ (to function) ∷ an_e ∷ bool ∷ double ∷ a ∷ b ∷ (to a) ∷ (to c) ∷ (to (const_of b)) ∷ (to x) ∷ (to (volatile_of int)) ∷ (to (const_of (to (const_of (to (const_of int)))))) ∷ (ref int) ∷ (ref (const_of int)) ∷ (ref (volatile_of int)) ∷ (ref (const_of long)) ∷ (ref a) ∷ (ref (const_of a)) ∷ (ref (const_of c)) ∷ (ref (const_of (to int))) ∷ (ref (const_of (to (const_of int)))) ∷ (ref (three int)) ∷ (ref (three (const_of int))) ∷ (ref (const_of (to void))) ∷ (ref (const_of (to a))) ∷ (ref function) ∷ (ref an_e) ∷ (ref (const_of bool)) ∷ (to (const_of (to void))) ∷ []) ≡ (false ∷ false ∷ false ∷ false ∷ false ∷ false ∷ false ∷ false ∷ false ∷ false ∷ false ∷ true ∷ true ∷ false ∷ false ∷ true ∷ false ∷ false ∷ false ∷ true ∷ false ∷ false ∷ false ∷ false ∷ false ∷ false ∷ false ∷ false ∷ false ∷ false ∷ false ∷ false ∷ false ∷ false ∷ false ∷ false ∷ true ∷ true ∷ false ∷ false ∷ true ∷ false ∷ [])
unfolding standard_sequence steps_between steps_of_reference steps_by_relation steps_of_unrelated steps_of_related related related_kinds steps_of_value steps_by_kinds steps_to_class steps_to_scalar class_step value_step steps_of_kinds steps_of_pointer steps_of_enumeration steps_of_arithmetic is_text step_of_enumeration steps_of_pointers pointer_to_other pointer_to_class is_derived is_pending promoted
taken_24 = refl

-- C *
taken_25 : found (lvalue (to c)) (int ∷ (const_of int) ∷ (to int) ∷ (to (const_of int)) ∷ (const_of (to int)) ∷ (to (to int)) ∷ (to (to (const_of int))) ∷ (to (const_of (to int))) ∷ (to (const_of (to (const_of int)))) ∷ (to (three int)) ∷ (to (three (const_of int))) ∷ (to void) ∷ (to (const_of void)) ∷ (to function) ∷ an_e ∷ bool ∷ double ∷ a ∷ b ∷ (to a) ∷ (to c) ∷ (to (const_of b)) ∷ (to x) ∷ (to (volatile_of int)) ∷ (to (const_of (to (const_of (to (const_of int)))))) ∷ (ref int) ∷ (ref (const_of int)) ∷ (ref (volatile_of int)) ∷ (ref (const_of long)) ∷ (ref a) ∷ (ref (const_of a)) ∷ (ref (const_of c)) ∷ (ref (const_of (to int))) ∷ (ref (const_of (to (const_of int)))) ∷ (ref (three int)) ∷ (ref (three (const_of int))) ∷ (ref (const_of (to void))) ∷ (ref (const_of (to a))) ∷ (ref function) ∷ (ref an_e) ∷ (ref (const_of bool)) ∷ (to (const_of (to void))) ∷ []) ≡ (false ∷ false ∷ false ∷ false ∷ false ∷ false ∷ false ∷ false ∷ false ∷ false ∷ false ∷ true ∷ true ∷ false ∷ false ∷ true ∷ false ∷ false ∷ false ∷ true ∷ true ∷ true ∷ false ∷ false ∷ false ∷ false ∷ false ∷ false ∷ false ∷ false ∷ false ∷ false ∷ false ∷ false ∷ false ∷ false ∷ true ∷ true ∷ false ∷ false ∷ true ∷ false ∷ [])
unfolding standard_sequence steps_between steps_of_reference steps_by_relation steps_of_unrelated steps_of_related related related_kinds steps_of_value steps_by_kinds steps_to_class steps_to_scalar class_step value_step steps_of_kinds steps_of_pointer steps_of_enumeration steps_of_arithmetic is_text step_of_enumeration steps_of_pointers pointer_to_other pointer_to_class is_derived is_pending promoted
taken_25 = refl

-- const B *
taken_26 : found (lvalue (to (const_of b))) (int ∷ (const_of int) ∷ (to int) ∷ (to (const_of int)) ∷ (const_of (to int)) ∷ (to (to int)) ∷ (to (to (const_of int))) ∷ (to (const_of (to int))) ∷ (to (const_of (to (const_of int)))) ∷ (to (three int)) ∷ (to (three (const_of int))) ∷ (to void) ∷ (to (const_of void)) ∷ (to function) ∷ an_e ∷ bool ∷ double ∷ a ∷ b ∷ (to a) ∷ (to c) ∷ (to (const_of b)) ∷ (to x) ∷ (to (volatile_of int)) ∷ (to (const_of (to (const_of (to (const_of int)))))) ∷ (ref int) ∷ (ref (const_of int)) ∷ (ref (volatile_of int)) ∷ (ref (const_of long)) ∷ (ref a) ∷ (ref (const_of a)) ∷ (ref (const_of c)) ∷ (ref (const_of (to int))) ∷ (ref (const_of (to (const_of int)))) ∷ (ref (three int)) ∷ (ref (three (const_of int))) ∷ (ref (const_of (to void))) ∷ (ref (const_of (to a))) ∷ (ref function) ∷ (ref an_e) ∷ (ref (const_of bool)) ∷ (to (const_of (to void))) ∷ []) ≡ (false ∷ false ∷ false ∷ false ∷ false ∷ false ∷ false ∷ false ∷ false ∷ false ∷ false ∷ false ∷ true ∷ false ∷ false ∷ true ∷ false ∷ false ∷ false ∷ false ∷ false ∷ true ∷ false ∷ false ∷ false ∷ false ∷ false ∷ false ∷ false ∷ false ∷ false ∷ false ∷ false ∷ false ∷ false ∷ false ∷ false ∷ false ∷ false ∷ false ∷ true ∷ false ∷ [])
unfolding standard_sequence steps_between steps_of_reference steps_by_relation steps_of_unrelated steps_of_related related related_kinds steps_of_value steps_by_kinds steps_to_class steps_to_scalar class_step value_step steps_of_kinds steps_of_pointer steps_of_enumeration steps_of_arithmetic is_text step_of_enumeration steps_of_pointers pointer_to_other pointer_to_class is_derived is_pending promoted
taken_26 = refl

-- volatile int
taken_27 : found (lvalue (volatile_of int)) (int ∷ (const_of int) ∷ (to int) ∷ (to (const_of int)) ∷ (const_of (to int)) ∷ (to (to int)) ∷ (to (to (const_of int))) ∷ (to (const_of (to int))) ∷ (to (const_of (to (const_of int)))) ∷ (to (three int)) ∷ (to (three (const_of int))) ∷ (to void) ∷ (to (const_of void)) ∷ (to function) ∷ an_e ∷ bool ∷ double ∷ a ∷ b ∷ (to a) ∷ (to c) ∷ (to (const_of b)) ∷ (to x) ∷ (to (volatile_of int)) ∷ (to (const_of (to (const_of (to (const_of int)))))) ∷ (ref int) ∷ (ref (const_of int)) ∷ (ref (volatile_of int)) ∷ (ref (const_of long)) ∷ (ref a) ∷ (ref (const_of a)) ∷ (ref (const_of c)) ∷ (ref (const_of (to int))) ∷ (ref (const_of (to (const_of int)))) ∷ (ref (three int)) ∷ (ref (three (const_of int))) ∷ (ref (const_of (to void))) ∷ (ref (const_of (to a))) ∷ (ref function) ∷ (ref an_e) ∷ (ref (const_of bool)) ∷ (to (const_of (to void))) ∷ []) ≡ (true ∷ true ∷ false ∷ false ∷ false ∷ false ∷ false ∷ false ∷ false ∷ false ∷ false ∷ false ∷ false ∷ false ∷ false ∷ true ∷ true ∷ false ∷ false ∷ false ∷ false ∷ false ∷ false ∷ false ∷ false ∷ false ∷ false ∷ true ∷ true ∷ false ∷ false ∷ false ∷ false ∷ false ∷ false ∷ false ∷ false ∷ false ∷ false ∷ false ∷ true ∷ false ∷ [])
unfolding standard_sequence steps_between steps_of_reference steps_by_relation steps_of_unrelated steps_of_related related related_kinds steps_of_value steps_by_kinds steps_to_class steps_to_scalar class_step value_step steps_of_kinds steps_of_pointer steps_of_enumeration steps_of_arithmetic is_text step_of_enumeration steps_of_pointers pointer_to_other pointer_to_class is_derived is_pending promoted
taken_27 = refl

-- C **
taken_28 : found (lvalue (to (to c))) (int ∷ (const_of int) ∷ (to int) ∷ (to (const_of int)) ∷ (const_of (to int)) ∷ (to (to int)) ∷ (to (to (const_of int))) ∷ (to (const_of (to int))) ∷ (to (const_of (to (const_of int)))) ∷ (to (three int)) ∷ (to (three (const_of int))) ∷ (to void) ∷ (to (const_of void)) ∷ (to function) ∷ an_e ∷ bool ∷ double ∷ a ∷ b ∷ (to a) ∷ (to c) ∷ (to (const_of b)) ∷ (to x) ∷ (to (volatile_of int)) ∷ (to (const_of (to (const_of (to (const_of int)))))) ∷ (ref int) ∷ (ref (const_of int)) ∷ (ref (volatile_of int)) ∷ (ref (const_of long)) ∷ (ref a) ∷ (ref (const_of a)) ∷ (ref (const_of c)) ∷ (ref (const_of (to int))) ∷ (ref (const_of (to (const_of int)))) ∷ (ref (three int)) ∷ (ref (three (const_of int))) ∷ (ref (const_of (to void))) ∷ (ref (const_of (to a))) ∷ (ref function) ∷ (ref an_e) ∷ (ref (const_of bool)) ∷ (to (const_of (to void))) ∷ []) ≡ (false ∷ false ∷ false ∷ false ∷ false ∷ false ∷ false ∷ false ∷ false ∷ false ∷ false ∷ true ∷ true ∷ false ∷ false ∷ true ∷ false ∷ false ∷ false ∷ false ∷ false ∷ false ∷ false ∷ false ∷ false ∷ false ∷ false ∷ false ∷ false ∷ false ∷ false ∷ false ∷ false ∷ false ∷ false ∷ false ∷ true ∷ false ∷ false ∷ false ∷ true ∷ false ∷ [])
unfolding standard_sequence steps_between steps_of_reference steps_by_relation steps_of_unrelated steps_of_related related related_kinds steps_of_value steps_by_kinds steps_to_class steps_to_scalar class_step value_step steps_of_kinds steps_of_pointer steps_of_enumeration steps_of_arithmetic is_text step_of_enumeration steps_of_pointers pointer_to_other pointer_to_class is_derived is_pending promoted
taken_28 = refl

-- X *
taken_29 : found (lvalue (to x)) (int ∷ (const_of int) ∷ (to int) ∷ (to (const_of int)) ∷ (const_of (to int)) ∷ (to (to int)) ∷ (to (to (const_of int))) ∷ (to (const_of (to int))) ∷ (to (const_of (to (const_of int)))) ∷ (to (three int)) ∷ (to (three (const_of int))) ∷ (to void) ∷ (to (const_of void)) ∷ (to function) ∷ an_e ∷ bool ∷ double ∷ a ∷ b ∷ (to a) ∷ (to c) ∷ (to (const_of b)) ∷ (to x) ∷ (to (volatile_of int)) ∷ (to (const_of (to (const_of (to (const_of int)))))) ∷ (ref int) ∷ (ref (const_of int)) ∷ (ref (volatile_of int)) ∷ (ref (const_of long)) ∷ (ref a) ∷ (ref (const_of a)) ∷ (ref (const_of c)) ∷ (ref (const_of (to int))) ∷ (ref (const_of (to (const_of int)))) ∷ (ref (three int)) ∷ (ref (three (const_of int))) ∷ (ref (const_of (to void))) ∷ (ref (const_of (to a))) ∷ (ref function) ∷ (ref an_e) ∷ (ref (const_of bool)) ∷ (to (const_of (to void))) ∷ []) ≡ (false ∷ false ∷ false ∷ false ∷ false ∷ false ∷ false ∷ false ∷ false ∷ false ∷ false ∷ true ∷ true ∷ false ∷ false ∷ true ∷ false ∷ false ∷ false ∷ false ∷ false ∷ false ∷ true ∷ false ∷ false ∷ false ∷ false ∷ false ∷ false ∷ false ∷ false ∷ false ∷ false ∷ false ∷ false ∷ false ∷ true ∷ false ∷ false ∷ false ∷ true ∷ false ∷ [])
unfolding standard_sequence steps_between steps_of_reference steps_by_relation steps_of_unrelated steps_of_related related related_kinds steps_of_value steps_by_kinds steps_to_class steps_to_scalar class_step value_step steps_of_kinds steps_of_pointer steps_of_enumeration steps_of_arithmetic is_text step_of_enumeration steps_of_pointers pointer_to_other pointer_to_class is_derived is_pending promoted
taken_29 = refl

abbrev sequence : CxxOperand → CxxType → CxxStandard
sequence from target = by (standard_sequence graph from target)
  where
    by : Result (Option CxxStandard) ClassId → CxxStandard
    by (Ok (Some found)) = found
    by _ = sequence_by from target no_steps

abbrev orders : CxxOperand → List (CxxType × CxxType) → List Order
orders from pairs = map (λ pair. order_of graph (sequence from pair.0) (sequence from pair.1)) pairs

abbrev pairs : List (CxxType × CxxType)
pairs = (fundamental base.Bool, fundamental base.Char) ∷ (fundamental base.Bool, fundamental base.SignedChar) ∷ (fundamental base.Bool, fundamental base.UnsignedChar) ∷ (fundamental base.Bool, fundamental base.Short) ∷ (fundamental base.Bool, fundamental base.UnsignedShort) ∷ (fundamental base.Bool, fundamental base.Int) ∷ (fundamental base.Bool, fundamental base.Unsigned) ∷ (fundamental base.Bool, fundamental base.Long) ∷ (fundamental base.Bool, fundamental base.UnsignedLong) ∷ (fundamental base.Bool, fundamental base.WideChar) ∷ (fundamental base.Bool, fundamental base.Float) ∷ (fundamental base.Bool, fundamental base.Double) ∷ (fundamental base.Bool, fundamental base.LongDouble) ∷ (fundamental base.Char, fundamental base.SignedChar) ∷ (fundamental base.Char, fundamental base.UnsignedChar) ∷ (fundamental base.Char, fundamental base.Short) ∷ (fundamental base.Char, fundamental base.UnsignedShort) ∷ (fundamental base.Char, fundamental base.Int) ∷ (fundamental base.Char, fundamental base.Unsigned) ∷ (fundamental base.Char, fundamental base.Long) ∷ (fundamental base.Char, fundamental base.UnsignedLong) ∷ (fundamental base.Char, fundamental base.WideChar) ∷ (fundamental base.Char, fundamental base.Float) ∷ (fundamental base.Char, fundamental base.Double) ∷ (fundamental base.Char, fundamental base.LongDouble) ∷ (fundamental base.SignedChar, fundamental base.UnsignedChar) ∷ (fundamental base.SignedChar, fundamental base.Short) ∷ (fundamental base.SignedChar, fundamental base.UnsignedShort) ∷ (fundamental base.SignedChar, fundamental base.Int) ∷ (fundamental base.SignedChar, fundamental base.Unsigned) ∷ (fundamental base.SignedChar, fundamental base.Long) ∷ (fundamental base.SignedChar, fundamental base.UnsignedLong) ∷ (fundamental base.SignedChar, fundamental base.WideChar) ∷ (fundamental base.SignedChar, fundamental base.Float) ∷ (fundamental base.SignedChar, fundamental base.Double) ∷ (fundamental base.SignedChar, fundamental base.LongDouble) ∷ (fundamental base.UnsignedChar, fundamental base.Short) ∷ (fundamental base.UnsignedChar, fundamental base.UnsignedShort) ∷ (fundamental base.UnsignedChar, fundamental base.Int) ∷ (fundamental base.UnsignedChar, fundamental base.Unsigned) ∷ (fundamental base.UnsignedChar, fundamental base.Long) ∷ (fundamental base.UnsignedChar, fundamental base.UnsignedLong) ∷ (fundamental base.UnsignedChar, fundamental base.WideChar) ∷ (fundamental base.UnsignedChar, fundamental base.Float) ∷ (fundamental base.UnsignedChar, fundamental base.Double) ∷ (fundamental base.UnsignedChar, fundamental base.LongDouble) ∷ (fundamental base.Short, fundamental base.UnsignedShort) ∷ (fundamental base.Short, fundamental base.Int) ∷ (fundamental base.Short, fundamental base.Unsigned) ∷ (fundamental base.Short, fundamental base.Long) ∷ (fundamental base.Short, fundamental base.UnsignedLong) ∷ (fundamental base.Short, fundamental base.WideChar) ∷ (fundamental base.Short, fundamental base.Float) ∷ (fundamental base.Short, fundamental base.Double) ∷ (fundamental base.Short, fundamental base.LongDouble) ∷ (fundamental base.UnsignedShort, fundamental base.Int) ∷ (fundamental base.UnsignedShort, fundamental base.Unsigned) ∷ (fundamental base.UnsignedShort, fundamental base.Long) ∷ (fundamental base.UnsignedShort, fundamental base.UnsignedLong) ∷ (fundamental base.UnsignedShort, fundamental base.WideChar) ∷ (fundamental base.UnsignedShort, fundamental base.Float) ∷ (fundamental base.UnsignedShort, fundamental base.Double) ∷ (fundamental base.UnsignedShort, fundamental base.LongDouble) ∷ (fundamental base.Int, fundamental base.Unsigned) ∷ (fundamental base.Int, fundamental base.Long) ∷ (fundamental base.Int, fundamental base.UnsignedLong) ∷ (fundamental base.Int, fundamental base.WideChar) ∷ (fundamental base.Int, fundamental base.Float) ∷ (fundamental base.Int, fundamental base.Double) ∷ (fundamental base.Int, fundamental base.LongDouble) ∷ (fundamental base.Unsigned, fundamental base.Long) ∷ (fundamental base.Unsigned, fundamental base.UnsignedLong) ∷ (fundamental base.Unsigned, fundamental base.WideChar) ∷ (fundamental base.Unsigned, fundamental base.Float) ∷ (fundamental base.Unsigned, fundamental base.Double) ∷ (fundamental base.Unsigned, fundamental base.LongDouble) ∷ (fundamental base.Long, fundamental base.UnsignedLong) ∷ (fundamental base.Long, fundamental base.WideChar) ∷ (fundamental base.Long, fundamental base.Float) ∷ (fundamental base.Long, fundamental base.Double) ∷ (fundamental base.Long, fundamental base.LongDouble) ∷ (fundamental base.UnsignedLong, fundamental base.WideChar) ∷ (fundamental base.UnsignedLong, fundamental base.Float) ∷ (fundamental base.UnsignedLong, fundamental base.Double) ∷ (fundamental base.UnsignedLong, fundamental base.LongDouble) ∷ (fundamental base.WideChar, fundamental base.Float) ∷ (fundamental base.WideChar, fundamental base.Double) ∷ (fundamental base.WideChar, fundamental base.LongDouble) ∷ (fundamental base.Float, fundamental base.Double) ∷ (fundamental base.Float, fundamental base.LongDouble) ∷ (fundamental base.Double, fundamental base.LongDouble) ∷ []

-- bool
ordered_1 : orders (lvalue (fundamental base.Bool)) pairs ≡ (Better ∷ Better ∷ Better ∷ Better ∷ Better ∷ Better ∷ Better ∷ Better ∷ Better ∷ Better ∷ Better ∷ Better ∷ Better ∷ Same ∷ Same ∷ Same ∷ Same ∷ Worse ∷ Same ∷ Same ∷ Same ∷ Same ∷ Same ∷ Same ∷ Same ∷ Same ∷ Same ∷ Same ∷ Worse ∷ Same ∷ Same ∷ Same ∷ Same ∷ Same ∷ Same ∷ Same ∷ Same ∷ Same ∷ Worse ∷ Same ∷ Same ∷ Same ∷ Same ∷ Same ∷ Same ∷ Same ∷ Same ∷ Worse ∷ Same ∷ Same ∷ Same ∷ Same ∷ Same ∷ Same ∷ Same ∷ Worse ∷ Same ∷ Same ∷ Same ∷ Same ∷ Same ∷ Same ∷ Same ∷ Better ∷ Better ∷ Better ∷ Better ∷ Better ∷ Better ∷ Better ∷ Same ∷ Same ∷ Same ∷ Same ∷ Same ∷ Same ∷ Same ∷ Same ∷ Same ∷ Same ∷ Same ∷ Same ∷ Same ∷ Same ∷ Same ∷ Same ∷ Same ∷ Same ∷ Same ∷ Same ∷ Same ∷ [])
unfolding standard_sequence steps_between steps_of_reference steps_by_relation steps_of_unrelated steps_of_related related related_kinds steps_of_value steps_by_kinds steps_to_class steps_to_scalar class_step value_step steps_of_kinds steps_of_pointer steps_of_enumeration steps_of_arithmetic is_text step_of_enumeration steps_of_pointers pointer_to_other pointer_to_class is_derived is_pending promoted order_of is_proper_part is_no_pointer_to_bool has_nearer_class is_less_qualified is_bound_to_less refers_to_less is_nearer is_shorter way_of way_of_pointers way_of_classes
ordered_1 = refl

-- char
ordered_2 : orders (lvalue (fundamental base.Char)) pairs ≡ (Worse ∷ Same ∷ Same ∷ Same ∷ Same ∷ Worse ∷ Same ∷ Same ∷ Same ∷ Same ∷ Same ∷ Same ∷ Same ∷ Better ∷ Better ∷ Better ∷ Better ∷ Better ∷ Better ∷ Better ∷ Better ∷ Better ∷ Better ∷ Better ∷ Better ∷ Same ∷ Same ∷ Same ∷ Worse ∷ Same ∷ Same ∷ Same ∷ Same ∷ Same ∷ Same ∷ Same ∷ Same ∷ Same ∷ Worse ∷ Same ∷ Same ∷ Same ∷ Same ∷ Same ∷ Same ∷ Same ∷ Same ∷ Worse ∷ Same ∷ Same ∷ Same ∷ Same ∷ Same ∷ Same ∷ Same ∷ Worse ∷ Same ∷ Same ∷ Same ∷ Same ∷ Same ∷ Same ∷ Same ∷ Better ∷ Better ∷ Better ∷ Better ∷ Better ∷ Better ∷ Better ∷ Same ∷ Same ∷ Same ∷ Same ∷ Same ∷ Same ∷ Same ∷ Same ∷ Same ∷ Same ∷ Same ∷ Same ∷ Same ∷ Same ∷ Same ∷ Same ∷ Same ∷ Same ∷ Same ∷ Same ∷ Same ∷ [])
unfolding standard_sequence steps_between steps_of_reference steps_by_relation steps_of_unrelated steps_of_related related related_kinds steps_of_value steps_by_kinds steps_to_class steps_to_scalar class_step value_step steps_of_kinds steps_of_pointer steps_of_enumeration steps_of_arithmetic is_text step_of_enumeration steps_of_pointers pointer_to_other pointer_to_class is_derived is_pending promoted order_of is_proper_part is_no_pointer_to_bool has_nearer_class is_less_qualified is_bound_to_less refers_to_less is_nearer is_shorter way_of way_of_pointers way_of_classes
ordered_2 = refl

-- signed char
ordered_3 : orders (lvalue (fundamental base.SignedChar)) pairs ≡ (Same ∷ Worse ∷ Same ∷ Same ∷ Same ∷ Worse ∷ Same ∷ Same ∷ Same ∷ Same ∷ Same ∷ Same ∷ Same ∷ Worse ∷ Same ∷ Same ∷ Same ∷ Worse ∷ Same ∷ Same ∷ Same ∷ Same ∷ Same ∷ Same ∷ Same ∷ Better ∷ Better ∷ Better ∷ Better ∷ Better ∷ Better ∷ Better ∷ Better ∷ Better ∷ Better ∷ Better ∷ Same ∷ Same ∷ Worse ∷ Same ∷ Same ∷ Same ∷ Same ∷ Same ∷ Same ∷ Same ∷ Same ∷ Worse ∷ Same ∷ Same ∷ Same ∷ Same ∷ Same ∷ Same ∷ Same ∷ Worse ∷ Same ∷ Same ∷ Same ∷ Same ∷ Same ∷ Same ∷ Same ∷ Better ∷ Better ∷ Better ∷ Better ∷ Better ∷ Better ∷ Better ∷ Same ∷ Same ∷ Same ∷ Same ∷ Same ∷ Same ∷ Same ∷ Same ∷ Same ∷ Same ∷ Same ∷ Same ∷ Same ∷ Same ∷ Same ∷ Same ∷ Same ∷ Same ∷ Same ∷ Same ∷ Same ∷ [])
unfolding standard_sequence steps_between steps_of_reference steps_by_relation steps_of_unrelated steps_of_related related related_kinds steps_of_value steps_by_kinds steps_to_class steps_to_scalar class_step value_step steps_of_kinds steps_of_pointer steps_of_enumeration steps_of_arithmetic is_text step_of_enumeration steps_of_pointers pointer_to_other pointer_to_class is_derived is_pending promoted order_of is_proper_part is_no_pointer_to_bool has_nearer_class is_less_qualified is_bound_to_less refers_to_less is_nearer is_shorter way_of way_of_pointers way_of_classes
ordered_3 = refl

-- unsigned char
ordered_4 : orders (lvalue (fundamental base.UnsignedChar)) pairs ≡ (Same ∷ Same ∷ Worse ∷ Same ∷ Same ∷ Worse ∷ Same ∷ Same ∷ Same ∷ Same ∷ Same ∷ Same ∷ Same ∷ Same ∷ Worse ∷ Same ∷ Same ∷ Worse ∷ Same ∷ Same ∷ Same ∷ Same ∷ Same ∷ Same ∷ Same ∷ Worse ∷ Same ∷ Same ∷ Worse ∷ Same ∷ Same ∷ Same ∷ Same ∷ Same ∷ Same ∷ Same ∷ Better ∷ Better ∷ Better ∷ Better ∷ Better ∷ Better ∷ Better ∷ Better ∷ Better ∷ Better ∷ Same ∷ Worse ∷ Same ∷ Same ∷ Same ∷ Same ∷ Same ∷ Same ∷ Same ∷ Worse ∷ Same ∷ Same ∷ Same ∷ Same ∷ Same ∷ Same ∷ Same ∷ Better ∷ Better ∷ Better ∷ Better ∷ Better ∷ Better ∷ Better ∷ Same ∷ Same ∷ Same ∷ Same ∷ Same ∷ Same ∷ Same ∷ Same ∷ Same ∷ Same ∷ Same ∷ Same ∷ Same ∷ Same ∷ Same ∷ Same ∷ Same ∷ Same ∷ Same ∷ Same ∷ Same ∷ [])
unfolding standard_sequence steps_between steps_of_reference steps_by_relation steps_of_unrelated steps_of_related related related_kinds steps_of_value steps_by_kinds steps_to_class steps_to_scalar class_step value_step steps_of_kinds steps_of_pointer steps_of_enumeration steps_of_arithmetic is_text step_of_enumeration steps_of_pointers pointer_to_other pointer_to_class is_derived is_pending promoted order_of is_proper_part is_no_pointer_to_bool has_nearer_class is_less_qualified is_bound_to_less refers_to_less is_nearer is_shorter way_of way_of_pointers way_of_classes
ordered_4 = refl

-- short
ordered_5 : orders (lvalue (fundamental base.Short)) pairs ≡ (Same ∷ Same ∷ Same ∷ Worse ∷ Same ∷ Worse ∷ Same ∷ Same ∷ Same ∷ Same ∷ Same ∷ Same ∷ Same ∷ Same ∷ Same ∷ Worse ∷ Same ∷ Worse ∷ Same ∷ Same ∷ Same ∷ Same ∷ Same ∷ Same ∷ Same ∷ Same ∷ Worse ∷ Same ∷ Worse ∷ Same ∷ Same ∷ Same ∷ Same ∷ Same ∷ Same ∷ Same ∷ Worse ∷ Same ∷ Worse ∷ Same ∷ Same ∷ Same ∷ Same ∷ Same ∷ Same ∷ Same ∷ Better ∷ Better ∷ Better ∷ Better ∷ Better ∷ Better ∷ Better ∷ Better ∷ Better ∷ Worse ∷ Same ∷ Same ∷ Same ∷ Same ∷ Same ∷ Same ∷ Same ∷ Better ∷ Better ∷ Better ∷ Better ∷ Better ∷ Better ∷ Better ∷ Same ∷ Same ∷ Same ∷ Same ∷ Same ∷ Same ∷ Same ∷ Same ∷ Same ∷ Same ∷ Same ∷ Same ∷ Same ∷ Same ∷ Same ∷ Same ∷ Same ∷ Same ∷ Same ∷ Same ∷ Same ∷ [])
unfolding standard_sequence steps_between steps_of_reference steps_by_relation steps_of_unrelated steps_of_related related related_kinds steps_of_value steps_by_kinds steps_to_class steps_to_scalar class_step value_step steps_of_kinds steps_of_pointer steps_of_enumeration steps_of_arithmetic is_text step_of_enumeration steps_of_pointers pointer_to_other pointer_to_class is_derived is_pending promoted order_of is_proper_part is_no_pointer_to_bool has_nearer_class is_less_qualified is_bound_to_less refers_to_less is_nearer is_shorter way_of way_of_pointers way_of_classes
ordered_5 = refl

-- unsigned short
ordered_6 : orders (lvalue (fundamental base.UnsignedShort)) pairs ≡ (Same ∷ Same ∷ Same ∷ Same ∷ Worse ∷ Worse ∷ Same ∷ Same ∷ Same ∷ Same ∷ Same ∷ Same ∷ Same ∷ Same ∷ Same ∷ Same ∷ Worse ∷ Worse ∷ Same ∷ Same ∷ Same ∷ Same ∷ Same ∷ Same ∷ Same ∷ Same ∷ Same ∷ Worse ∷ Worse ∷ Same ∷ Same ∷ Same ∷ Same ∷ Same ∷ Same ∷ Same ∷ Same ∷ Worse ∷ Worse ∷ Same ∷ Same ∷ Same ∷ Same ∷ Same ∷ Same ∷ Same ∷ Worse ∷ Worse ∷ Same ∷ Same ∷ Same ∷ Same ∷ Same ∷ Same ∷ Same ∷ Better ∷ Better ∷ Better ∷ Better ∷ Better ∷ Better ∷ Better ∷ Better ∷ Better ∷ Better ∷ Better ∷ Better ∷ Better ∷ Better ∷ Better ∷ Same ∷ Same ∷ Same ∷ Same ∷ Same ∷ Same ∷ Same ∷ Same ∷ Same ∷ Same ∷ Same ∷ Same ∷ Same ∷ Same ∷ Same ∷ Same ∷ Same ∷ Same ∷ Same ∷ Same ∷ Same ∷ [])
unfolding standard_sequence steps_between steps_of_reference steps_by_relation steps_of_unrelated steps_of_related related related_kinds steps_of_value steps_by_kinds steps_to_class steps_to_scalar class_step value_step steps_of_kinds steps_of_pointer steps_of_enumeration steps_of_arithmetic is_text step_of_enumeration steps_of_pointers pointer_to_other pointer_to_class is_derived is_pending promoted order_of is_proper_part is_no_pointer_to_bool has_nearer_class is_less_qualified is_bound_to_less refers_to_less is_nearer is_shorter way_of way_of_pointers way_of_classes
ordered_6 = refl

-- int
ordered_7 : orders (lvalue (fundamental base.Int)) pairs ≡ (Same ∷ Same ∷ Same ∷ Same ∷ Same ∷ Worse ∷ Same ∷ Same ∷ Same ∷ Same ∷ Same ∷ Same ∷ Same ∷ Same ∷ Same ∷ Same ∷ Same ∷ Worse ∷ Same ∷ Same ∷ Same ∷ Same ∷ Same ∷ Same ∷ Same ∷ Same ∷ Same ∷ Same ∷ Worse ∷ Same ∷ Same ∷ Same ∷ Same ∷ Same ∷ Same ∷ Same ∷ Same ∷ Same ∷ Worse ∷ Same ∷ Same ∷ Same ∷ Same ∷ Same ∷ Same ∷ Same ∷ Same ∷ Worse ∷ Same ∷ Same ∷ Same ∷ Same ∷ Same ∷ Same ∷ Same ∷ Worse ∷ Same ∷ Same ∷ Same ∷ Same ∷ Same ∷ Same ∷ Same ∷ Better ∷ Better ∷ Better ∷ Better ∷ Better ∷ Better ∷ Better ∷ Same ∷ Same ∷ Same ∷ Same ∷ Same ∷ Same ∷ Same ∷ Same ∷ Same ∷ Same ∷ Same ∷ Same ∷ Same ∷ Same ∷ Same ∷ Same ∷ Same ∷ Same ∷ Same ∷ Same ∷ Same ∷ [])
unfolding standard_sequence steps_between steps_of_reference steps_by_relation steps_of_unrelated steps_of_related related related_kinds steps_of_value steps_by_kinds steps_to_class steps_to_scalar class_step value_step steps_of_kinds steps_of_pointer steps_of_enumeration steps_of_arithmetic is_text step_of_enumeration steps_of_pointers pointer_to_other pointer_to_class is_derived is_pending promoted order_of is_proper_part is_no_pointer_to_bool has_nearer_class is_less_qualified is_bound_to_less refers_to_less is_nearer is_shorter way_of way_of_pointers way_of_classes
ordered_7 = refl

-- unsigned
ordered_8 : orders (lvalue (fundamental base.Unsigned)) pairs ≡ (Same ∷ Same ∷ Same ∷ Same ∷ Same ∷ Same ∷ Worse ∷ Same ∷ Same ∷ Same ∷ Same ∷ Same ∷ Same ∷ Same ∷ Same ∷ Same ∷ Same ∷ Same ∷ Worse ∷ Same ∷ Same ∷ Same ∷ Same ∷ Same ∷ Same ∷ Same ∷ Same ∷ Same ∷ Same ∷ Worse ∷ Same ∷ Same ∷ Same ∷ Same ∷ Same ∷ Same ∷ Same ∷ Same ∷ Same ∷ Worse ∷ Same ∷ Same ∷ Same ∷ Same ∷ Same ∷ Same ∷ Same ∷ Same ∷ Worse ∷ Same ∷ Same ∷ Same ∷ Same ∷ Same ∷ Same ∷ Same ∷ Worse ∷ Same ∷ Same ∷ Same ∷ Same ∷ Same ∷ Same ∷ Worse ∷ Same ∷ Same ∷ Same ∷ Same ∷ Same ∷ Same ∷ Better ∷ Better ∷ Better ∷ Better ∷ Better ∷ Better ∷ Same ∷ Same ∷ Same ∷ Same ∷ Same ∷ Same ∷ Same ∷ Same ∷ Same ∷ Same ∷ Same ∷ Same ∷ Same ∷ Same ∷ Same ∷ [])
unfolding standard_sequence steps_between steps_of_reference steps_by_relation steps_of_unrelated steps_of_related related related_kinds steps_of_value steps_by_kinds steps_to_class steps_to_scalar class_step value_step steps_of_kinds steps_of_pointer steps_of_enumeration steps_of_arithmetic is_text step_of_enumeration steps_of_pointers pointer_to_other pointer_to_class is_derived is_pending promoted order_of is_proper_part is_no_pointer_to_bool has_nearer_class is_less_qualified is_bound_to_less refers_to_less is_nearer is_shorter way_of way_of_pointers way_of_classes
ordered_8 = refl

-- long
ordered_9 : orders (lvalue (fundamental base.Long)) pairs ≡ (Same ∷ Same ∷ Same ∷ Same ∷ Same ∷ Same ∷ Same ∷ Worse ∷ Same ∷ Same ∷ Same ∷ Same ∷ Same ∷ Same ∷ Same ∷ Same ∷ Same ∷ Same ∷ Same ∷ Worse ∷ Same ∷ Same ∷ Same ∷ Same ∷ Same ∷ Same ∷ Same ∷ Same ∷ Same ∷ Same ∷ Worse ∷ Same ∷ Same ∷ Same ∷ Same ∷ Same ∷ Same ∷ Same ∷ Same ∷ Same ∷ Worse ∷ Same ∷ Same ∷ Same ∷ Same ∷ Same ∷ Same ∷ Same ∷ Same ∷ Worse ∷ Same ∷ Same ∷ Same ∷ Same ∷ Same ∷ Same ∷ Same ∷ Worse ∷ Same ∷ Same ∷ Same ∷ Same ∷ Same ∷ Same ∷ Worse ∷ Same ∷ Same ∷ Same ∷ Same ∷ Same ∷ Worse ∷ Same ∷ Same ∷ Same ∷ Same ∷ Same ∷ Better ∷ Better ∷ Better ∷ Better ∷ Better ∷ Same ∷ Same ∷ Same ∷ Same ∷ Same ∷ Same ∷ Same ∷ Same ∷ Same ∷ Same ∷ [])
unfolding standard_sequence steps_between steps_of_reference steps_by_relation steps_of_unrelated steps_of_related related related_kinds steps_of_value steps_by_kinds steps_to_class steps_to_scalar class_step value_step steps_of_kinds steps_of_pointer steps_of_enumeration steps_of_arithmetic is_text step_of_enumeration steps_of_pointers pointer_to_other pointer_to_class is_derived is_pending promoted order_of is_proper_part is_no_pointer_to_bool has_nearer_class is_less_qualified is_bound_to_less refers_to_less is_nearer is_shorter way_of way_of_pointers way_of_classes
ordered_9 = refl

-- unsigned long
ordered_10 : orders (lvalue (fundamental base.UnsignedLong)) pairs ≡ (Same ∷ Same ∷ Same ∷ Same ∷ Same ∷ Same ∷ Same ∷ Same ∷ Worse ∷ Same ∷ Same ∷ Same ∷ Same ∷ Same ∷ Same ∷ Same ∷ Same ∷ Same ∷ Same ∷ Same ∷ Worse ∷ Same ∷ Same ∷ Same ∷ Same ∷ Same ∷ Same ∷ Same ∷ Same ∷ Same ∷ Same ∷ Worse ∷ Same ∷ Same ∷ Same ∷ Same ∷ Same ∷ Same ∷ Same ∷ Same ∷ Same ∷ Worse ∷ Same ∷ Same ∷ Same ∷ Same ∷ Same ∷ Same ∷ Same ∷ Same ∷ Worse ∷ Same ∷ Same ∷ Same ∷ Same ∷ Same ∷ Same ∷ Same ∷ Worse ∷ Same ∷ Same ∷ Same ∷ Same ∷ Same ∷ Same ∷ Worse ∷ Same ∷ Same ∷ Same ∷ Same ∷ Same ∷ Worse ∷ Same ∷ Same ∷ Same ∷ Same ∷ Worse ∷ Same ∷ Same ∷ Same ∷ Same ∷ Better ∷ Better ∷ Better ∷ Better ∷ Same ∷ Same ∷ Same ∷ Same ∷ Same ∷ Same ∷ [])
unfolding standard_sequence steps_between steps_of_reference steps_by_relation steps_of_unrelated steps_of_related related related_kinds steps_of_value steps_by_kinds steps_to_class steps_to_scalar class_step value_step steps_of_kinds steps_of_pointer steps_of_enumeration steps_of_arithmetic is_text step_of_enumeration steps_of_pointers pointer_to_other pointer_to_class is_derived is_pending promoted order_of is_proper_part is_no_pointer_to_bool has_nearer_class is_less_qualified is_bound_to_less refers_to_less is_nearer is_shorter way_of way_of_pointers way_of_classes
ordered_10 = refl

-- wchar_t
ordered_11 : orders (lvalue (fundamental base.WideChar)) pairs ≡ (Same ∷ Same ∷ Same ∷ Same ∷ Same ∷ Worse ∷ Same ∷ Same ∷ Same ∷ Worse ∷ Same ∷ Same ∷ Same ∷ Same ∷ Same ∷ Same ∷ Same ∷ Worse ∷ Same ∷ Same ∷ Same ∷ Worse ∷ Same ∷ Same ∷ Same ∷ Same ∷ Same ∷ Same ∷ Worse ∷ Same ∷ Same ∷ Same ∷ Worse ∷ Same ∷ Same ∷ Same ∷ Same ∷ Same ∷ Worse ∷ Same ∷ Same ∷ Same ∷ Worse ∷ Same ∷ Same ∷ Same ∷ Same ∷ Worse ∷ Same ∷ Same ∷ Same ∷ Worse ∷ Same ∷ Same ∷ Same ∷ Worse ∷ Same ∷ Same ∷ Same ∷ Worse ∷ Same ∷ Same ∷ Same ∷ Better ∷ Better ∷ Better ∷ Worse ∷ Better ∷ Better ∷ Better ∷ Same ∷ Same ∷ Worse ∷ Same ∷ Same ∷ Same ∷ Same ∷ Worse ∷ Same ∷ Same ∷ Same ∷ Worse ∷ Same ∷ Same ∷ Same ∷ Better ∷ Better ∷ Better ∷ Same ∷ Same ∷ Same ∷ [])
unfolding standard_sequence steps_between steps_of_reference steps_by_relation steps_of_unrelated steps_of_related related related_kinds steps_of_value steps_by_kinds steps_to_class steps_to_scalar class_step value_step steps_of_kinds steps_of_pointer steps_of_enumeration steps_of_arithmetic is_text step_of_enumeration steps_of_pointers pointer_to_other pointer_to_class is_derived is_pending promoted order_of is_proper_part is_no_pointer_to_bool has_nearer_class is_less_qualified is_bound_to_less refers_to_less is_nearer is_shorter way_of way_of_pointers way_of_classes
ordered_11 = refl

-- float
ordered_12 : orders (lvalue (fundamental base.Float)) pairs ≡ (Same ∷ Same ∷ Same ∷ Same ∷ Same ∷ Same ∷ Same ∷ Same ∷ Same ∷ Same ∷ Worse ∷ Worse ∷ Same ∷ Same ∷ Same ∷ Same ∷ Same ∷ Same ∷ Same ∷ Same ∷ Same ∷ Same ∷ Worse ∷ Worse ∷ Same ∷ Same ∷ Same ∷ Same ∷ Same ∷ Same ∷ Same ∷ Same ∷ Same ∷ Worse ∷ Worse ∷ Same ∷ Same ∷ Same ∷ Same ∷ Same ∷ Same ∷ Same ∷ Same ∷ Worse ∷ Worse ∷ Same ∷ Same ∷ Same ∷ Same ∷ Same ∷ Same ∷ Same ∷ Worse ∷ Worse ∷ Same ∷ Same ∷ Same ∷ Same ∷ Same ∷ Same ∷ Worse ∷ Worse ∷ Same ∷ Same ∷ Same ∷ Same ∷ Same ∷ Worse ∷ Worse ∷ Same ∷ Same ∷ Same ∷ Same ∷ Worse ∷ Worse ∷ Same ∷ Same ∷ Same ∷ Worse ∷ Worse ∷ Same ∷ Same ∷ Worse ∷ Worse ∷ Same ∷ Worse ∷ Worse ∷ Same ∷ Better ∷ Better ∷ Better ∷ [])
unfolding standard_sequence steps_between steps_of_reference steps_by_relation steps_of_unrelated steps_of_related related related_kinds steps_of_value steps_by_kinds steps_to_class steps_to_scalar class_step value_step steps_of_kinds steps_of_pointer steps_of_enumeration steps_of_arithmetic is_text step_of_enumeration steps_of_pointers pointer_to_other pointer_to_class is_derived is_pending promoted order_of is_proper_part is_no_pointer_to_bool has_nearer_class is_less_qualified is_bound_to_less refers_to_less is_nearer is_shorter way_of way_of_pointers way_of_classes
ordered_12 = refl

-- double
ordered_13 : orders (lvalue (fundamental base.Double)) pairs ≡ (Same ∷ Same ∷ Same ∷ Same ∷ Same ∷ Same ∷ Same ∷ Same ∷ Same ∷ Same ∷ Same ∷ Worse ∷ Same ∷ Same ∷ Same ∷ Same ∷ Same ∷ Same ∷ Same ∷ Same ∷ Same ∷ Same ∷ Same ∷ Worse ∷ Same ∷ Same ∷ Same ∷ Same ∷ Same ∷ Same ∷ Same ∷ Same ∷ Same ∷ Same ∷ Worse ∷ Same ∷ Same ∷ Same ∷ Same ∷ Same ∷ Same ∷ Same ∷ Same ∷ Same ∷ Worse ∷ Same ∷ Same ∷ Same ∷ Same ∷ Same ∷ Same ∷ Same ∷ Same ∷ Worse ∷ Same ∷ Same ∷ Same ∷ Same ∷ Same ∷ Same ∷ Same ∷ Worse ∷ Same ∷ Same ∷ Same ∷ Same ∷ Same ∷ Same ∷ Worse ∷ Same ∷ Same ∷ Same ∷ Same ∷ Same ∷ Worse ∷ Same ∷ Same ∷ Same ∷ Same ∷ Worse ∷ Same ∷ Same ∷ Same ∷ Worse ∷ Same ∷ Same ∷ Worse ∷ Same ∷ Worse ∷ Same ∷ Better ∷ [])
unfolding standard_sequence steps_between steps_of_reference steps_by_relation steps_of_unrelated steps_of_related related related_kinds steps_of_value steps_by_kinds steps_to_class steps_to_scalar class_step value_step steps_of_kinds steps_of_pointer steps_of_enumeration steps_of_arithmetic is_text step_of_enumeration steps_of_pointers pointer_to_other pointer_to_class is_derived is_pending promoted order_of is_proper_part is_no_pointer_to_bool has_nearer_class is_less_qualified is_bound_to_less refers_to_less is_nearer is_shorter way_of way_of_pointers way_of_classes
ordered_13 = refl

-- long double
ordered_14 : orders (lvalue (fundamental base.LongDouble)) pairs ≡ (Same ∷ Same ∷ Same ∷ Same ∷ Same ∷ Same ∷ Same ∷ Same ∷ Same ∷ Same ∷ Same ∷ Same ∷ Worse ∷ Same ∷ Same ∷ Same ∷ Same ∷ Same ∷ Same ∷ Same ∷ Same ∷ Same ∷ Same ∷ Same ∷ Worse ∷ Same ∷ Same ∷ Same ∷ Same ∷ Same ∷ Same ∷ Same ∷ Same ∷ Same ∷ Same ∷ Worse ∷ Same ∷ Same ∷ Same ∷ Same ∷ Same ∷ Same ∷ Same ∷ Same ∷ Same ∷ Worse ∷ Same ∷ Same ∷ Same ∷ Same ∷ Same ∷ Same ∷ Same ∷ Same ∷ Worse ∷ Same ∷ Same ∷ Same ∷ Same ∷ Same ∷ Same ∷ Same ∷ Worse ∷ Same ∷ Same ∷ Same ∷ Same ∷ Same ∷ Same ∷ Worse ∷ Same ∷ Same ∷ Same ∷ Same ∷ Same ∷ Worse ∷ Same ∷ Same ∷ Same ∷ Same ∷ Worse ∷ Same ∷ Same ∷ Same ∷ Worse ∷ Same ∷ Same ∷ Worse ∷ Same ∷ Worse ∷ Worse ∷ [])
unfolding standard_sequence steps_between steps_of_reference steps_by_relation steps_of_unrelated steps_of_related related related_kinds steps_of_value steps_by_kinds steps_to_class steps_to_scalar class_step value_step steps_of_kinds steps_of_pointer steps_of_enumeration steps_of_arithmetic is_text step_of_enumeration steps_of_pointers pointer_to_other pointer_to_class is_derived is_pending promoted order_of is_proper_part is_no_pointer_to_bool has_nearer_class is_less_qualified is_bound_to_less refers_to_less is_nearer is_shorter way_of way_of_pointers way_of_classes
ordered_14 = refl

-- int
preferred_1 : orders (lvalue int) ((int, bool) ∷ (int, double) ∷ (int, ref int) ∷ (int, ref (const_of int)) ∷ (int, ref (volatile_of int)) ∷ (int, ref (const_of long)) ∷ (int, ref (const_of bool)) ∷ (bool, double) ∷ (bool, ref int) ∷ (bool, ref (const_of int)) ∷ (bool, ref (volatile_of int)) ∷ (bool, ref (const_of long)) ∷ (bool, ref (const_of bool)) ∷ (double, ref int) ∷ (double, ref (const_of int)) ∷ (double, ref (volatile_of int)) ∷ (double, ref (const_of long)) ∷ (double, ref (const_of bool)) ∷ (ref int, ref (const_of int)) ∷ (ref int, ref (volatile_of int)) ∷ (ref int, ref (const_of long)) ∷ (ref int, ref (const_of bool)) ∷ (ref (const_of int), ref (volatile_of int)) ∷ (ref (const_of int), ref (const_of long)) ∷ (ref (const_of int), ref (const_of bool)) ∷ (ref (volatile_of int), ref (const_of long)) ∷ (ref (volatile_of int), ref (const_of bool)) ∷ (ref (const_of long), ref (const_of bool)) ∷ []) ≡ (Better ∷ Better ∷ Same ∷ Same ∷ Same ∷ Better ∷ Better ∷ Same ∷ Worse ∷ Worse ∷ Worse ∷ Same ∷ Same ∷ Worse ∷ Worse ∷ Worse ∷ Same ∷ Same ∷ Better ∷ Better ∷ Better ∷ Better ∷ Same ∷ Better ∷ Better ∷ Better ∷ Better ∷ Same ∷ [])
unfolding standard_sequence steps_between steps_of_reference steps_by_relation steps_of_unrelated steps_of_related related related_kinds steps_of_value steps_by_kinds steps_to_class steps_to_scalar class_step value_step steps_of_kinds steps_of_pointer steps_of_enumeration steps_of_arithmetic is_text step_of_enumeration steps_of_pointers pointer_to_other pointer_to_class is_derived is_pending promoted order_of is_proper_part is_no_pointer_to_bool has_nearer_class is_less_qualified is_bound_to_less refers_to_less is_nearer is_shorter way_of way_of_pointers way_of_classes
preferred_1 = refl

-- const int
preferred_2 : orders (lvalue (const_of int)) ((int, bool) ∷ (int, double) ∷ (int, ref (const_of int)) ∷ (int, ref (const_of long)) ∷ (int, ref (const_of bool)) ∷ (bool, double) ∷ (bool, ref (const_of int)) ∷ (bool, ref (const_of long)) ∷ (bool, ref (const_of bool)) ∷ (double, ref (const_of int)) ∷ (double, ref (const_of long)) ∷ (double, ref (const_of bool)) ∷ (ref (const_of int), ref (const_of long)) ∷ (ref (const_of int), ref (const_of bool)) ∷ (ref (const_of long), ref (const_of bool)) ∷ []) ≡ (Better ∷ Better ∷ Same ∷ Better ∷ Better ∷ Same ∷ Worse ∷ Same ∷ Same ∷ Worse ∷ Same ∷ Same ∷ Better ∷ Better ∷ Same ∷ [])
unfolding standard_sequence steps_between steps_of_reference steps_by_relation steps_of_unrelated steps_of_related related related_kinds steps_of_value steps_by_kinds steps_to_class steps_to_scalar class_step value_step steps_of_kinds steps_of_pointer steps_of_enumeration steps_of_arithmetic is_text step_of_enumeration steps_of_pointers pointer_to_other pointer_to_class is_derived is_pending promoted order_of is_proper_part is_no_pointer_to_bool has_nearer_class is_less_qualified is_bound_to_less refers_to_less is_nearer is_shorter way_of way_of_pointers way_of_classes
preferred_2 = refl

-- int *
preferred_3 : orders (lvalue (to int)) ((to int, to (const_of int)) ∷ (to int, to void) ∷ (to int, to (const_of void)) ∷ (to int, bool) ∷ (to int, to (volatile_of int)) ∷ (to int, ref (const_of (to int))) ∷ (to int, ref (const_of (to (const_of int)))) ∷ (to int, ref (const_of (to void))) ∷ (to int, ref (const_of bool)) ∷ (to (const_of int), to void) ∷ (to (const_of int), to (const_of void)) ∷ (to (const_of int), bool) ∷ (to (const_of int), to (volatile_of int)) ∷ (to (const_of int), ref (const_of (to int))) ∷ (to (const_of int), ref (const_of (to (const_of int)))) ∷ (to (const_of int), ref (const_of (to void))) ∷ (to (const_of int), ref (const_of bool)) ∷ (to void, to (const_of void)) ∷ (to void, bool) ∷ (to void, to (volatile_of int)) ∷ (to void, ref (const_of (to int))) ∷ (to void, ref (const_of (to (const_of int)))) ∷ (to void, ref (const_of (to void))) ∷ (to void, ref (const_of bool)) ∷ (to (const_of void), bool) ∷ (to (const_of void), to (volatile_of int)) ∷ (to (const_of void), ref (const_of (to int))) ∷ (to (const_of void), ref (const_of (to (const_of int)))) ∷ (to (const_of void), ref (const_of (to void))) ∷ (to (const_of void), ref (const_of bool)) ∷ (bool, to (volatile_of int)) ∷ (bool, ref (const_of (to int))) ∷ (bool, ref (const_of (to (const_of int)))) ∷ (bool, ref (const_of (to void))) ∷ (bool, ref (const_of bool)) ∷ (to (volatile_of int), ref (const_of (to int))) ∷ (to (volatile_of int), ref (const_of (to (const_of int)))) ∷ (to (volatile_of int), ref (const_of (to void))) ∷ (to (volatile_of int), ref (const_of bool)) ∷ (ref (const_of (to int)), ref (const_of (to (const_of int)))) ∷ (ref (const_of (to int)), ref (const_of (to void))) ∷ (ref (const_of (to int)), ref (const_of bool)) ∷ (ref (const_of (to (const_of int))), ref (const_of (to void))) ∷ (ref (const_of (to (const_of int))), ref (const_of bool)) ∷ (ref (const_of (to void)), ref (const_of bool)) ∷ []) ≡ (Better ∷ Better ∷ Better ∷ Better ∷ Better ∷ Same ∷ Better ∷ Better ∷ Better ∷ Better ∷ Better ∷ Better ∷ Same ∷ Worse ∷ Same ∷ Better ∷ Better ∷ Better ∷ Better ∷ Worse ∷ Worse ∷ Worse ∷ Same ∷ Better ∷ Better ∷ Worse ∷ Worse ∷ Worse ∷ Worse ∷ Better ∷ Worse ∷ Worse ∷ Worse ∷ Worse ∷ Same ∷ Worse ∷ Same ∷ Better ∷ Better ∷ Better ∷ Better ∷ Better ∷ Better ∷ Better ∷ Better ∷ [])
unfolding standard_sequence steps_between steps_of_reference steps_by_relation steps_of_unrelated steps_of_related related related_kinds steps_of_value steps_by_kinds steps_to_class steps_to_scalar class_step value_step steps_of_kinds steps_of_pointer steps_of_enumeration steps_of_arithmetic is_text step_of_enumeration steps_of_pointers pointer_to_other pointer_to_class is_derived is_pending promoted order_of is_proper_part is_no_pointer_to_bool has_nearer_class is_less_qualified is_bound_to_less refers_to_less is_nearer is_shorter way_of way_of_pointers way_of_classes
preferred_3 = refl

-- const int *
preferred_4 : orders (lvalue (to (const_of int))) ((to (const_of int), to (const_of void)) ∷ (to (const_of int), bool) ∷ (to (const_of int), ref (const_of (to (const_of int)))) ∷ (to (const_of int), ref (const_of bool)) ∷ (to (const_of void), bool) ∷ (to (const_of void), ref (const_of (to (const_of int)))) ∷ (to (const_of void), ref (const_of bool)) ∷ (bool, ref (const_of (to (const_of int)))) ∷ (bool, ref (const_of bool)) ∷ (ref (const_of (to (const_of int))), ref (const_of bool)) ∷ []) ≡ (Better ∷ Better ∷ Same ∷ Better ∷ Better ∷ Worse ∷ Better ∷ Worse ∷ Same ∷ Better ∷ [])
unfolding standard_sequence steps_between steps_of_reference steps_by_relation steps_of_unrelated steps_of_related related related_kinds steps_of_value steps_by_kinds steps_to_class steps_to_scalar class_step value_step steps_of_kinds steps_of_pointer steps_of_enumeration steps_of_arithmetic is_text step_of_enumeration steps_of_pointers pointer_to_other pointer_to_class is_derived is_pending promoted order_of is_proper_part is_no_pointer_to_bool has_nearer_class is_less_qualified is_bound_to_less refers_to_less is_nearer is_shorter way_of way_of_pointers way_of_classes
preferred_4 = refl

-- int * const
preferred_5 : orders (lvalue (const_of (to int))) ((to int, to (const_of int)) ∷ (to int, to void) ∷ (to int, to (const_of void)) ∷ (to int, bool) ∷ (to int, to (volatile_of int)) ∷ (to int, ref (const_of (to int))) ∷ (to int, ref (const_of (to (const_of int)))) ∷ (to int, ref (const_of (to void))) ∷ (to int, ref (const_of bool)) ∷ (to (const_of int), to void) ∷ (to (const_of int), to (const_of void)) ∷ (to (const_of int), bool) ∷ (to (const_of int), to (volatile_of int)) ∷ (to (const_of int), ref (const_of (to int))) ∷ (to (const_of int), ref (const_of (to (const_of int)))) ∷ (to (const_of int), ref (const_of (to void))) ∷ (to (const_of int), ref (const_of bool)) ∷ (to void, to (const_of void)) ∷ (to void, bool) ∷ (to void, to (volatile_of int)) ∷ (to void, ref (const_of (to int))) ∷ (to void, ref (const_of (to (const_of int)))) ∷ (to void, ref (const_of (to void))) ∷ (to void, ref (const_of bool)) ∷ (to (const_of void), bool) ∷ (to (const_of void), to (volatile_of int)) ∷ (to (const_of void), ref (const_of (to int))) ∷ (to (const_of void), ref (const_of (to (const_of int)))) ∷ (to (const_of void), ref (const_of (to void))) ∷ (to (const_of void), ref (const_of bool)) ∷ (bool, to (volatile_of int)) ∷ (bool, ref (const_of (to int))) ∷ (bool, ref (const_of (to (const_of int)))) ∷ (bool, ref (const_of (to void))) ∷ (bool, ref (const_of bool)) ∷ (to (volatile_of int), ref (const_of (to int))) ∷ (to (volatile_of int), ref (const_of (to (const_of int)))) ∷ (to (volatile_of int), ref (const_of (to void))) ∷ (to (volatile_of int), ref (const_of bool)) ∷ (ref (const_of (to int)), ref (const_of (to (const_of int)))) ∷ (ref (const_of (to int)), ref (const_of (to void))) ∷ (ref (const_of (to int)), ref (const_of bool)) ∷ (ref (const_of (to (const_of int))), ref (const_of (to void))) ∷ (ref (const_of (to (const_of int))), ref (const_of bool)) ∷ (ref (const_of (to void)), ref (const_of bool)) ∷ []) ≡ (Better ∷ Better ∷ Better ∷ Better ∷ Better ∷ Same ∷ Better ∷ Better ∷ Better ∷ Better ∷ Better ∷ Better ∷ Same ∷ Worse ∷ Same ∷ Better ∷ Better ∷ Better ∷ Better ∷ Worse ∷ Worse ∷ Worse ∷ Same ∷ Better ∷ Better ∷ Worse ∷ Worse ∷ Worse ∷ Worse ∷ Better ∷ Worse ∷ Worse ∷ Worse ∷ Worse ∷ Same ∷ Worse ∷ Same ∷ Better ∷ Better ∷ Better ∷ Better ∷ Better ∷ Better ∷ Better ∷ Better ∷ [])
unfolding standard_sequence steps_between steps_of_reference steps_by_relation steps_of_unrelated steps_of_related related related_kinds steps_of_value steps_by_kinds steps_to_class steps_to_scalar class_step value_step steps_of_kinds steps_of_pointer steps_of_enumeration steps_of_arithmetic is_text step_of_enumeration steps_of_pointers pointer_to_other pointer_to_class is_derived is_pending promoted order_of is_proper_part is_no_pointer_to_bool has_nearer_class is_less_qualified is_bound_to_less refers_to_less is_nearer is_shorter way_of way_of_pointers way_of_classes
preferred_5 = refl

-- int **
preferred_6 : orders (lvalue (to (to int))) ((to (to int), to (const_of (to int))) ∷ (to (to int), to (const_of (to (const_of int)))) ∷ (to (to int), to void) ∷ (to (to int), to (const_of void)) ∷ (to (to int), bool) ∷ (to (to int), ref (const_of (to void))) ∷ (to (to int), ref (const_of bool)) ∷ (to (const_of (to int)), to (const_of (to (const_of int)))) ∷ (to (const_of (to int)), to void) ∷ (to (const_of (to int)), to (const_of void)) ∷ (to (const_of (to int)), bool) ∷ (to (const_of (to int)), ref (const_of (to void))) ∷ (to (const_of (to int)), ref (const_of bool)) ∷ (to (const_of (to (const_of int))), to void) ∷ (to (const_of (to (const_of int))), to (const_of void)) ∷ (to (const_of (to (const_of int))), bool) ∷ (to (const_of (to (const_of int))), ref (const_of (to void))) ∷ (to (const_of (to (const_of int))), ref (const_of bool)) ∷ (to void, to (const_of void)) ∷ (to void, bool) ∷ (to void, ref (const_of (to void))) ∷ (to void, ref (const_of bool)) ∷ (to (const_of void), bool) ∷ (to (const_of void), ref (const_of (to void))) ∷ (to (const_of void), ref (const_of bool)) ∷ (bool, ref (const_of (to void))) ∷ (bool, ref (const_of bool)) ∷ (ref (const_of (to void)), ref (const_of bool)) ∷ []) ≡ (Better ∷ Better ∷ Better ∷ Better ∷ Better ∷ Better ∷ Better ∷ Better ∷ Better ∷ Better ∷ Better ∷ Better ∷ Better ∷ Better ∷ Better ∷ Better ∷ Better ∷ Better ∷ Better ∷ Better ∷ Same ∷ Better ∷ Better ∷ Worse ∷ Better ∷ Worse ∷ Same ∷ Better ∷ [])
unfolding standard_sequence steps_between steps_of_reference steps_by_relation steps_of_unrelated steps_of_related related related_kinds steps_of_value steps_by_kinds steps_to_class steps_to_scalar class_step value_step steps_of_kinds steps_of_pointer steps_of_enumeration steps_of_arithmetic is_text step_of_enumeration steps_of_pointers pointer_to_other pointer_to_class is_derived is_pending promoted order_of is_proper_part is_no_pointer_to_bool has_nearer_class is_less_qualified is_bound_to_less refers_to_less is_nearer is_shorter way_of way_of_pointers way_of_classes
preferred_6 = refl

-- const int **
preferred_7 : orders (lvalue (to (to (const_of int)))) ((to (to (const_of int)), to (const_of (to (const_of int)))) ∷ (to (to (const_of int)), to void) ∷ (to (to (const_of int)), to (const_of void)) ∷ (to (to (const_of int)), bool) ∷ (to (to (const_of int)), ref (const_of (to void))) ∷ (to (to (const_of int)), ref (const_of bool)) ∷ (to (const_of (to (const_of int))), to void) ∷ (to (const_of (to (const_of int))), to (const_of void)) ∷ (to (const_of (to (const_of int))), bool) ∷ (to (const_of (to (const_of int))), ref (const_of (to void))) ∷ (to (const_of (to (const_of int))), ref (const_of bool)) ∷ (to void, to (const_of void)) ∷ (to void, bool) ∷ (to void, ref (const_of (to void))) ∷ (to void, ref (const_of bool)) ∷ (to (const_of void), bool) ∷ (to (const_of void), ref (const_of (to void))) ∷ (to (const_of void), ref (const_of bool)) ∷ (bool, ref (const_of (to void))) ∷ (bool, ref (const_of bool)) ∷ (ref (const_of (to void)), ref (const_of bool)) ∷ []) ≡ (Better ∷ Better ∷ Better ∷ Better ∷ Better ∷ Better ∷ Better ∷ Better ∷ Better ∷ Better ∷ Better ∷ Better ∷ Better ∷ Same ∷ Better ∷ Better ∷ Worse ∷ Better ∷ Worse ∷ Same ∷ Better ∷ [])
unfolding standard_sequence steps_between steps_of_reference steps_by_relation steps_of_unrelated steps_of_related related related_kinds steps_of_value steps_by_kinds steps_to_class steps_to_scalar class_step value_step steps_of_kinds steps_of_pointer steps_of_enumeration steps_of_arithmetic is_text step_of_enumeration steps_of_pointers pointer_to_other pointer_to_class is_derived is_pending promoted order_of is_proper_part is_no_pointer_to_bool has_nearer_class is_less_qualified is_bound_to_less refers_to_less is_nearer is_shorter way_of way_of_pointers way_of_classes
preferred_7 = refl

-- int * const *
preferred_8 : orders (lvalue (to (const_of (to int)))) ((to (const_of (to int)), to (const_of (to (const_of int)))) ∷ (to (const_of (to int)), to (const_of void)) ∷ (to (const_of (to int)), bool) ∷ (to (const_of (to int)), ref (const_of bool)) ∷ (to (const_of (to (const_of int))), to (const_of void)) ∷ (to (const_of (to (const_of int))), bool) ∷ (to (const_of (to (const_of int))), ref (const_of bool)) ∷ (to (const_of void), bool) ∷ (to (const_of void), ref (const_of bool)) ∷ (bool, ref (const_of bool)) ∷ []) ≡ (Better ∷ Better ∷ Better ∷ Better ∷ Better ∷ Better ∷ Better ∷ Better ∷ Better ∷ Same ∷ [])
unfolding standard_sequence steps_between steps_of_reference steps_by_relation steps_of_unrelated steps_of_related related related_kinds steps_of_value steps_by_kinds steps_to_class steps_to_scalar class_step value_step steps_of_kinds steps_of_pointer steps_of_enumeration steps_of_arithmetic is_text step_of_enumeration steps_of_pointers pointer_to_other pointer_to_class is_derived is_pending promoted order_of is_proper_part is_no_pointer_to_bool has_nearer_class is_less_qualified is_bound_to_less refers_to_less is_nearer is_shorter way_of way_of_pointers way_of_classes
preferred_8 = refl

-- const int * const *
preferred_9 : orders (lvalue (to (const_of (to (const_of int))))) ((to (const_of (to (const_of int))), to (const_of void)) ∷ (to (const_of (to (const_of int))), bool) ∷ (to (const_of (to (const_of int))), ref (const_of bool)) ∷ (to (const_of void), bool) ∷ (to (const_of void), ref (const_of bool)) ∷ (bool, ref (const_of bool)) ∷ []) ≡ (Better ∷ Better ∷ Better ∷ Better ∷ Better ∷ Same ∷ [])
unfolding standard_sequence steps_between steps_of_reference steps_by_relation steps_of_unrelated steps_of_related related related_kinds steps_of_value steps_by_kinds steps_to_class steps_to_scalar class_step value_step steps_of_kinds steps_of_pointer steps_of_enumeration steps_of_arithmetic is_text step_of_enumeration steps_of_pointers pointer_to_other pointer_to_class is_derived is_pending promoted order_of is_proper_part is_no_pointer_to_bool has_nearer_class is_less_qualified is_bound_to_less refers_to_less is_nearer is_shorter way_of way_of_pointers way_of_classes
preferred_9 = refl

-- int ()[3]
preferred_10 : orders (lvalue (three int)) ((to int, to (const_of int)) ∷ (to int, to void) ∷ (to int, to (const_of void)) ∷ (to int, bool) ∷ (to int, to (volatile_of int)) ∷ (to int, ref (const_of (to int))) ∷ (to int, ref (const_of (to (const_of int)))) ∷ (to int, ref (three int)) ∷ (to int, ref (three (const_of int))) ∷ (to int, ref (const_of (to void))) ∷ (to int, ref (const_of bool)) ∷ (to (const_of int), to void) ∷ (to (const_of int), to (const_of void)) ∷ (to (const_of int), bool) ∷ (to (const_of int), to (volatile_of int)) ∷ (to (const_of int), ref (const_of (to int))) ∷ (to (const_of int), ref (const_of (to (const_of int)))) ∷ (to (const_of int), ref (three int)) ∷ (to (const_of int), ref (three (const_of int))) ∷ (to (const_of int), ref (const_of (to void))) ∷ (to (const_of int), ref (const_of bool)) ∷ (to void, to (const_of void)) ∷ (to void, bool) ∷ (to void, to (volatile_of int)) ∷ (to void, ref (const_of (to int))) ∷ (to void, ref (const_of (to (const_of int)))) ∷ (to void, ref (three int)) ∷ (to void, ref (three (const_of int))) ∷ (to void, ref (const_of (to void))) ∷ (to void, ref (const_of bool)) ∷ (to (const_of void), bool) ∷ (to (const_of void), to (volatile_of int)) ∷ (to (const_of void), ref (const_of (to int))) ∷ (to (const_of void), ref (const_of (to (const_of int)))) ∷ (to (const_of void), ref (three int)) ∷ (to (const_of void), ref (three (const_of int))) ∷ (to (const_of void), ref (const_of (to void))) ∷ (to (const_of void), ref (const_of bool)) ∷ (bool, to (volatile_of int)) ∷ (bool, ref (const_of (to int))) ∷ (bool, ref (const_of (to (const_of int)))) ∷ (bool, ref (three int)) ∷ (bool, ref (three (const_of int))) ∷ (bool, ref (const_of (to void))) ∷ (bool, ref (const_of bool)) ∷ (to (volatile_of int), ref (const_of (to int))) ∷ (to (volatile_of int), ref (const_of (to (const_of int)))) ∷ (to (volatile_of int), ref (three int)) ∷ (to (volatile_of int), ref (three (const_of int))) ∷ (to (volatile_of int), ref (const_of (to void))) ∷ (to (volatile_of int), ref (const_of bool)) ∷ (ref (const_of (to int)), ref (const_of (to (const_of int)))) ∷ (ref (const_of (to int)), ref (three int)) ∷ (ref (const_of (to int)), ref (three (const_of int))) ∷ (ref (const_of (to int)), ref (const_of (to void))) ∷ (ref (const_of (to int)), ref (const_of bool)) ∷ (ref (const_of (to (const_of int))), ref (three int)) ∷ (ref (const_of (to (const_of int))), ref (three (const_of int))) ∷ (ref (const_of (to (const_of int))), ref (const_of (to void))) ∷ (ref (const_of (to (const_of int))), ref (const_of bool)) ∷ (ref (three int), ref (three (const_of int))) ∷ (ref (three int), ref (const_of (to void))) ∷ (ref (three int), ref (const_of bool)) ∷ (ref (three (const_of int)), ref (const_of (to void))) ∷ (ref (three (const_of int)), ref (const_of bool)) ∷ (ref (const_of (to void)), ref (const_of bool)) ∷ []) ≡ (Better ∷ Better ∷ Better ∷ Better ∷ Better ∷ Same ∷ Better ∷ Same ∷ Same ∷ Better ∷ Better ∷ Better ∷ Better ∷ Better ∷ Same ∷ Worse ∷ Same ∷ Worse ∷ Worse ∷ Better ∷ Better ∷ Better ∷ Better ∷ Worse ∷ Worse ∷ Worse ∷ Worse ∷ Worse ∷ Same ∷ Better ∷ Better ∷ Worse ∷ Worse ∷ Worse ∷ Worse ∷ Worse ∷ Worse ∷ Better ∷ Worse ∷ Worse ∷ Worse ∷ Worse ∷ Worse ∷ Worse ∷ Same ∷ Worse ∷ Same ∷ Worse ∷ Worse ∷ Better ∷ Better ∷ Better ∷ Same ∷ Same ∷ Better ∷ Better ∷ Worse ∷ Worse ∷ Better ∷ Better ∷ Better ∷ Better ∷ Better ∷ Better ∷ Better ∷ Better ∷ [])
unfolding standard_sequence steps_between steps_of_reference steps_by_relation steps_of_unrelated steps_of_related related related_kinds steps_of_value steps_by_kinds steps_to_class steps_to_scalar class_step value_step steps_of_kinds steps_of_pointer steps_of_enumeration steps_of_arithmetic is_text step_of_enumeration steps_of_pointers pointer_to_other pointer_to_class is_derived is_pending promoted order_of is_proper_part is_no_pointer_to_bool has_nearer_class is_less_qualified is_bound_to_less refers_to_less is_nearer is_shorter way_of way_of_pointers way_of_classes
preferred_10 = refl

-- const int ()[3]
preferred_11 : orders (lvalue (three (const_of int))) ((to (const_of int), to (const_of void)) ∷ (to (const_of int), bool) ∷ (to (const_of int), ref (const_of (to (const_of int)))) ∷ (to (const_of int), ref (three (const_of int))) ∷ (to (const_of int), ref (const_of bool)) ∷ (to (const_of void), bool) ∷ (to (const_of void), ref (const_of (to (const_of int)))) ∷ (to (const_of void), ref (three (const_of int))) ∷ (to (const_of void), ref (const_of bool)) ∷ (bool, ref (const_of (to (const_of int)))) ∷ (bool, ref (three (const_of int))) ∷ (bool, ref (const_of bool)) ∷ (ref (const_of (to (const_of int))), ref (three (const_of int))) ∷ (ref (const_of (to (const_of int))), ref (const_of bool)) ∷ (ref (three (const_of int)), ref (const_of bool)) ∷ []) ≡ (Better ∷ Better ∷ Same ∷ Same ∷ Better ∷ Better ∷ Worse ∷ Worse ∷ Better ∷ Worse ∷ Worse ∷ Same ∷ Same ∷ Better ∷ Better ∷ [])
unfolding standard_sequence steps_between steps_of_reference steps_by_relation steps_of_unrelated steps_of_related related related_kinds steps_of_value steps_by_kinds steps_to_class steps_to_scalar class_step value_step steps_of_kinds steps_of_pointer steps_of_enumeration steps_of_arithmetic is_text step_of_enumeration steps_of_pointers pointer_to_other pointer_to_class is_derived is_pending promoted order_of is_proper_part is_no_pointer_to_bool has_nearer_class is_less_qualified is_bound_to_less refers_to_less is_nearer is_shorter way_of way_of_pointers way_of_classes
preferred_11 = refl

-- int (*)[3]
preferred_12 : orders (lvalue (to (three int))) ((to (three int), to (three (const_of int))) ∷ (to (three int), to void) ∷ (to (three int), to (const_of void)) ∷ (to (three int), bool) ∷ (to (three int), ref (const_of (to void))) ∷ (to (three int), ref (const_of bool)) ∷ (to (three (const_of int)), to void) ∷ (to (three (const_of int)), to (const_of void)) ∷ (to (three (const_of int)), bool) ∷ (to (three (const_of int)), ref (const_of (to void))) ∷ (to (three (const_of int)), ref (const_of bool)) ∷ (to void, to (const_of void)) ∷ (to void, bool) ∷ (to void, ref (const_of (to void))) ∷ (to void, ref (const_of bool)) ∷ (to (const_of void), bool) ∷ (to (const_of void), ref (const_of (to void))) ∷ (to (const_of void), ref (const_of bool)) ∷ (bool, ref (const_of (to void))) ∷ (bool, ref (const_of bool)) ∷ (ref (const_of (to void)), ref (const_of bool)) ∷ []) ≡ (Better ∷ Better ∷ Better ∷ Better ∷ Better ∷ Better ∷ Better ∷ Better ∷ Better ∷ Better ∷ Better ∷ Better ∷ Better ∷ Same ∷ Better ∷ Better ∷ Worse ∷ Better ∷ Worse ∷ Same ∷ Better ∷ [])
unfolding standard_sequence steps_between steps_of_reference steps_by_relation steps_of_unrelated steps_of_related related related_kinds steps_of_value steps_by_kinds steps_to_class steps_to_scalar class_step value_step steps_of_kinds steps_of_pointer steps_of_enumeration steps_of_arithmetic is_text step_of_enumeration steps_of_pointers pointer_to_other pointer_to_class is_derived is_pending promoted order_of is_proper_part is_no_pointer_to_bool has_nearer_class is_less_qualified is_bound_to_less refers_to_less is_nearer is_shorter way_of way_of_pointers way_of_classes
preferred_12 = refl

-- const int (*)[3]
preferred_13 : orders (lvalue (to (three (const_of int)))) ((to (three (const_of int)), to (const_of void)) ∷ (to (three (const_of int)), bool) ∷ (to (three (const_of int)), ref (const_of bool)) ∷ (to (const_of void), bool) ∷ (to (const_of void), ref (const_of bool)) ∷ (bool, ref (const_of bool)) ∷ []) ≡ (Better ∷ Better ∷ Better ∷ Better ∷ Better ∷ Same ∷ [])
unfolding standard_sequence steps_between steps_of_reference steps_by_relation steps_of_unrelated steps_of_related related related_kinds steps_of_value steps_by_kinds steps_to_class steps_to_scalar class_step value_step steps_of_kinds steps_of_pointer steps_of_enumeration steps_of_arithmetic is_text step_of_enumeration steps_of_pointers pointer_to_other pointer_to_class is_derived is_pending promoted order_of is_proper_part is_no_pointer_to_bool has_nearer_class is_less_qualified is_bound_to_less refers_to_less is_nearer is_shorter way_of way_of_pointers way_of_classes
preferred_13 = refl

-- int *()[3]
preferred_14 : orders (lvalue (three (to int))) ((to (to int), to (const_of (to int))) ∷ (to (to int), to (const_of (to (const_of int)))) ∷ (to (to int), to void) ∷ (to (to int), to (const_of void)) ∷ (to (to int), bool) ∷ (to (to int), ref (const_of (to void))) ∷ (to (to int), ref (const_of bool)) ∷ (to (const_of (to int)), to (const_of (to (const_of int)))) ∷ (to (const_of (to int)), to void) ∷ (to (const_of (to int)), to (const_of void)) ∷ (to (const_of (to int)), bool) ∷ (to (const_of (to int)), ref (const_of (to void))) ∷ (to (const_of (to int)), ref (const_of bool)) ∷ (to (const_of (to (const_of int))), to void) ∷ (to (const_of (to (const_of int))), to (const_of void)) ∷ (to (const_of (to (const_of int))), bool) ∷ (to (const_of (to (const_of int))), ref (const_of (to void))) ∷ (to (const_of (to (const_of int))), ref (const_of bool)) ∷ (to void, to (const_of void)) ∷ (to void, bool) ∷ (to void, ref (const_of (to void))) ∷ (to void, ref (const_of bool)) ∷ (to (const_of void), bool) ∷ (to (const_of void), ref (const_of (to void))) ∷ (to (const_of void), ref (const_of bool)) ∷ (bool, ref (const_of (to void))) ∷ (bool, ref (const_of bool)) ∷ (ref (const_of (to void)), ref (const_of bool)) ∷ []) ≡ (Better ∷ Better ∷ Better ∷ Better ∷ Better ∷ Better ∷ Better ∷ Better ∷ Better ∷ Better ∷ Better ∷ Better ∷ Better ∷ Better ∷ Better ∷ Better ∷ Better ∷ Better ∷ Better ∷ Better ∷ Same ∷ Better ∷ Better ∷ Worse ∷ Better ∷ Worse ∷ Same ∷ Better ∷ [])
unfolding standard_sequence steps_between steps_of_reference steps_by_relation steps_of_unrelated steps_of_related related related_kinds steps_of_value steps_by_kinds steps_to_class steps_to_scalar class_step value_step steps_of_kinds steps_of_pointer steps_of_enumeration steps_of_arithmetic is_text step_of_enumeration steps_of_pointers pointer_to_other pointer_to_class is_derived is_pending promoted order_of is_proper_part is_no_pointer_to_bool has_nearer_class is_less_qualified is_bound_to_less refers_to_less is_nearer is_shorter way_of way_of_pointers way_of_classes
preferred_14 = refl

-- void *
preferred_15 : orders (lvalue (to void)) ((to void, to (const_of void)) ∷ (to void, bool) ∷ (to void, ref (const_of (to void))) ∷ (to void, ref (const_of bool)) ∷ (to (const_of void), bool) ∷ (to (const_of void), ref (const_of (to void))) ∷ (to (const_of void), ref (const_of bool)) ∷ (bool, ref (const_of (to void))) ∷ (bool, ref (const_of bool)) ∷ (ref (const_of (to void)), ref (const_of bool)) ∷ []) ≡ (Better ∷ Better ∷ Same ∷ Better ∷ Better ∷ Worse ∷ Better ∷ Worse ∷ Same ∷ Better ∷ [])
unfolding standard_sequence steps_between steps_of_reference steps_by_relation steps_of_unrelated steps_of_related related related_kinds steps_of_value steps_by_kinds steps_to_class steps_to_scalar class_step value_step steps_of_kinds steps_of_pointer steps_of_enumeration steps_of_arithmetic is_text step_of_enumeration steps_of_pointers pointer_to_other pointer_to_class is_derived is_pending promoted order_of is_proper_part is_no_pointer_to_bool has_nearer_class is_less_qualified is_bound_to_less refers_to_less is_nearer is_shorter way_of way_of_pointers way_of_classes
preferred_15 = refl

-- const void *
preferred_16 : orders (lvalue (to (const_of void))) ((to (const_of void), bool) ∷ (to (const_of void), ref (const_of bool)) ∷ (bool, ref (const_of bool)) ∷ []) ≡ (Better ∷ Better ∷ Same ∷ [])
unfolding standard_sequence steps_between steps_of_reference steps_by_relation steps_of_unrelated steps_of_related related related_kinds steps_of_value steps_by_kinds steps_to_class steps_to_scalar class_step value_step steps_of_kinds steps_of_pointer steps_of_enumeration steps_of_arithmetic is_text step_of_enumeration steps_of_pointers pointer_to_other pointer_to_class is_derived is_pending promoted order_of is_proper_part is_no_pointer_to_bool has_nearer_class is_less_qualified is_bound_to_less refers_to_less is_nearer is_shorter way_of way_of_pointers way_of_classes
preferred_16 = refl

-- F *
preferred_17 : orders (lvalue (to function)) ((to function, bool) ∷ (to function, ref (const_of bool)) ∷ (bool, ref (const_of bool)) ∷ []) ≡ (Better ∷ Better ∷ Same ∷ [])
unfolding standard_sequence steps_between steps_of_reference steps_by_relation steps_of_unrelated steps_of_related related related_kinds steps_of_value steps_by_kinds steps_to_class steps_to_scalar class_step value_step steps_of_kinds steps_of_pointer steps_of_enumeration steps_of_arithmetic is_text step_of_enumeration steps_of_pointers pointer_to_other pointer_to_class is_derived is_pending promoted order_of is_proper_part is_no_pointer_to_bool has_nearer_class is_less_qualified is_bound_to_less refers_to_less is_nearer is_shorter way_of way_of_pointers way_of_classes
preferred_17 = refl

-- E
preferred_18 : orders (lvalue an_e) ((int, an_e) ∷ (int, bool) ∷ (int, double) ∷ (int, ref (const_of int)) ∷ (int, ref (const_of long)) ∷ (int, ref an_e) ∷ (int, ref (const_of bool)) ∷ (an_e, bool) ∷ (an_e, double) ∷ (an_e, ref (const_of int)) ∷ (an_e, ref (const_of long)) ∷ (an_e, ref an_e) ∷ (an_e, ref (const_of bool)) ∷ (bool, double) ∷ (bool, ref (const_of int)) ∷ (bool, ref (const_of long)) ∷ (bool, ref an_e) ∷ (bool, ref (const_of bool)) ∷ (double, ref (const_of int)) ∷ (double, ref (const_of long)) ∷ (double, ref an_e) ∷ (double, ref (const_of bool)) ∷ (ref (const_of int), ref (const_of long)) ∷ (ref (const_of int), ref an_e) ∷ (ref (const_of int), ref (const_of bool)) ∷ (ref (const_of long), ref an_e) ∷ (ref (const_of long), ref (const_of bool)) ∷ (ref an_e, ref (const_of bool)) ∷ []) ≡ (Worse ∷ Better ∷ Better ∷ Same ∷ Better ∷ Worse ∷ Better ∷ Better ∷ Better ∷ Better ∷ Better ∷ Same ∷ Better ∷ Same ∷ Worse ∷ Same ∷ Worse ∷ Same ∷ Worse ∷ Same ∷ Worse ∷ Same ∷ Better ∷ Worse ∷ Better ∷ Worse ∷ Same ∷ Better ∷ [])
unfolding standard_sequence steps_between steps_of_reference steps_by_relation steps_of_unrelated steps_of_related related related_kinds steps_of_value steps_by_kinds steps_to_class steps_to_scalar class_step value_step steps_of_kinds steps_of_pointer steps_of_enumeration steps_of_arithmetic is_text step_of_enumeration steps_of_pointers pointer_to_other pointer_to_class is_derived is_pending promoted order_of is_proper_part is_no_pointer_to_bool has_nearer_class is_less_qualified is_bound_to_less refers_to_less is_nearer is_shorter way_of way_of_pointers way_of_classes
preferred_18 = refl

-- bool
preferred_19 : orders (lvalue bool) ((int, bool) ∷ (int, double) ∷ (int, ref (const_of int)) ∷ (int, ref (const_of long)) ∷ (int, ref (const_of bool)) ∷ (bool, double) ∷ (bool, ref (const_of int)) ∷ (bool, ref (const_of long)) ∷ (bool, ref (const_of bool)) ∷ (double, ref (const_of int)) ∷ (double, ref (const_of long)) ∷ (double, ref (const_of bool)) ∷ (ref (const_of int), ref (const_of long)) ∷ (ref (const_of int), ref (const_of bool)) ∷ (ref (const_of long), ref (const_of bool)) ∷ []) ≡ (Worse ∷ Better ∷ Same ∷ Better ∷ Worse ∷ Better ∷ Better ∷ Better ∷ Same ∷ Worse ∷ Same ∷ Worse ∷ Better ∷ Worse ∷ Worse ∷ [])
unfolding standard_sequence steps_between steps_of_reference steps_by_relation steps_of_unrelated steps_of_related related related_kinds steps_of_value steps_by_kinds steps_to_class steps_to_scalar class_step value_step steps_of_kinds steps_of_pointer steps_of_enumeration steps_of_arithmetic is_text step_of_enumeration steps_of_pointers pointer_to_other pointer_to_class is_derived is_pending promoted order_of is_proper_part is_no_pointer_to_bool has_nearer_class is_less_qualified is_bound_to_less refers_to_less is_nearer is_shorter way_of way_of_pointers way_of_classes
preferred_19 = refl

-- double
preferred_20 : orders (lvalue double) ((int, bool) ∷ (int, double) ∷ (int, ref (const_of int)) ∷ (int, ref (const_of long)) ∷ (int, ref (const_of bool)) ∷ (bool, double) ∷ (bool, ref (const_of int)) ∷ (bool, ref (const_of long)) ∷ (bool, ref (const_of bool)) ∷ (double, ref (const_of int)) ∷ (double, ref (const_of long)) ∷ (double, ref (const_of bool)) ∷ (ref (const_of int), ref (const_of long)) ∷ (ref (const_of int), ref (const_of bool)) ∷ (ref (const_of long), ref (const_of bool)) ∷ []) ≡ (Same ∷ Worse ∷ Same ∷ Same ∷ Same ∷ Worse ∷ Same ∷ Same ∷ Same ∷ Better ∷ Better ∷ Better ∷ Same ∷ Same ∷ Same ∷ [])
unfolding standard_sequence steps_between steps_of_reference steps_by_relation steps_of_unrelated steps_of_related related related_kinds steps_of_value steps_by_kinds steps_to_class steps_to_scalar class_step value_step steps_of_kinds steps_of_pointer steps_of_enumeration steps_of_arithmetic is_text step_of_enumeration steps_of_pointers pointer_to_other pointer_to_class is_derived is_pending promoted order_of is_proper_part is_no_pointer_to_bool has_nearer_class is_less_qualified is_bound_to_less refers_to_less is_nearer is_shorter way_of way_of_pointers way_of_classes
preferred_20 = refl

-- A
preferred_21 : orders (lvalue a) ((a, ref a) ∷ (a, ref (const_of a)) ∷ (ref a, ref (const_of a)) ∷ []) ≡ (Same ∷ Same ∷ Better ∷ [])
unfolding standard_sequence steps_between steps_of_reference steps_by_relation steps_of_unrelated steps_of_related related related_kinds steps_of_value steps_by_kinds steps_to_class steps_to_scalar class_step value_step steps_of_kinds steps_of_pointer steps_of_enumeration steps_of_arithmetic is_text step_of_enumeration steps_of_pointers pointer_to_other pointer_to_class is_derived is_pending promoted order_of is_proper_part is_no_pointer_to_bool has_nearer_class is_less_qualified is_bound_to_less refers_to_less is_nearer is_shorter way_of way_of_pointers way_of_classes
preferred_21 = refl

-- B
preferred_22 : orders (lvalue b) ((a, b) ∷ (a, ref a) ∷ (a, ref (const_of a)) ∷ (b, ref a) ∷ (b, ref (const_of a)) ∷ (ref a, ref (const_of a)) ∷ []) ≡ (Worse ∷ Same ∷ Same ∷ Better ∷ Better ∷ Better ∷ [])
unfolding standard_sequence steps_between steps_of_reference steps_by_relation steps_of_unrelated steps_of_related related related_kinds steps_of_value steps_by_kinds steps_to_class steps_to_scalar class_step value_step steps_of_kinds steps_of_pointer steps_of_enumeration steps_of_arithmetic is_text step_of_enumeration steps_of_pointers pointer_to_other pointer_to_class is_derived is_pending promoted order_of is_proper_part is_no_pointer_to_bool has_nearer_class is_less_qualified is_bound_to_less refers_to_less is_nearer is_shorter way_of way_of_pointers way_of_classes
preferred_22 = refl

-- const C
preferred_23 : orders (lvalue (const_of c)) ((a, b) ∷ (a, ref (const_of a)) ∷ (a, ref (const_of c)) ∷ (b, ref (const_of c)) ∷ (ref (const_of a), ref (const_of c)) ∷ []) ≡ (Worse ∷ Same ∷ Worse ∷ Worse ∷ Worse ∷ [])
unfolding standard_sequence steps_between steps_of_reference steps_by_relation steps_of_unrelated steps_of_related related related_kinds steps_of_value steps_by_kinds steps_to_class steps_to_scalar class_step value_step steps_of_kinds steps_of_pointer steps_of_enumeration steps_of_arithmetic is_text step_of_enumeration steps_of_pointers pointer_to_other pointer_to_class is_derived is_pending promoted order_of is_proper_part is_no_pointer_to_bool has_nearer_class is_less_qualified is_bound_to_less refers_to_less is_nearer is_shorter way_of way_of_pointers way_of_classes
preferred_23 = refl

-- A *
preferred_24 : orders (lvalue (to a)) ((to void, to (const_of void)) ∷ (to void, bool) ∷ (to void, to a) ∷ (to void, ref (const_of (to void))) ∷ (to void, ref (const_of (to a))) ∷ (to void, ref (const_of bool)) ∷ (to (const_of void), bool) ∷ (to (const_of void), to a) ∷ (to (const_of void), ref (const_of (to void))) ∷ (to (const_of void), ref (const_of (to a))) ∷ (to (const_of void), ref (const_of bool)) ∷ (bool, to a) ∷ (bool, ref (const_of (to void))) ∷ (bool, ref (const_of (to a))) ∷ (bool, ref (const_of bool)) ∷ (to a, ref (const_of (to void))) ∷ (to a, ref (const_of (to a))) ∷ (to a, ref (const_of bool)) ∷ (ref (const_of (to void)), ref (const_of (to a))) ∷ (ref (const_of (to void)), ref (const_of bool)) ∷ (ref (const_of (to a)), ref (const_of bool)) ∷ []) ≡ (Better ∷ Better ∷ Worse ∷ Same ∷ Worse ∷ Better ∷ Better ∷ Worse ∷ Worse ∷ Worse ∷ Better ∷ Worse ∷ Worse ∷ Worse ∷ Same ∷ Better ∷ Same ∷ Better ∷ Worse ∷ Better ∷ Better ∷ [])
unfolding standard_sequence steps_between steps_of_reference steps_by_relation steps_of_unrelated steps_of_related related related_kinds steps_of_value steps_by_kinds steps_to_class steps_to_scalar class_step value_step steps_of_kinds steps_of_pointer steps_of_enumeration steps_of_arithmetic is_text step_of_enumeration steps_of_pointers pointer_to_other pointer_to_class is_derived is_pending promoted order_of is_proper_part is_no_pointer_to_bool has_nearer_class is_less_qualified is_bound_to_less refers_to_less is_nearer is_shorter way_of way_of_pointers way_of_classes
preferred_24 = refl

-- C *
preferred_25 : orders (lvalue (to c)) ((to void, to (const_of void)) ∷ (to void, bool) ∷ (to void, to a) ∷ (to void, to c) ∷ (to void, to (const_of b)) ∷ (to void, ref (const_of (to void))) ∷ (to void, ref (const_of (to a))) ∷ (to void, ref (const_of bool)) ∷ (to (const_of void), bool) ∷ (to (const_of void), to a) ∷ (to (const_of void), to c) ∷ (to (const_of void), to (const_of b)) ∷ (to (const_of void), ref (const_of (to void))) ∷ (to (const_of void), ref (const_of (to a))) ∷ (to (const_of void), ref (const_of bool)) ∷ (bool, to a) ∷ (bool, to c) ∷ (bool, to (const_of b)) ∷ (bool, ref (const_of (to void))) ∷ (bool, ref (const_of (to a))) ∷ (bool, ref (const_of bool)) ∷ (to a, to c) ∷ (to a, to (const_of b)) ∷ (to a, ref (const_of (to void))) ∷ (to a, ref (const_of (to a))) ∷ (to a, ref (const_of bool)) ∷ (to c, to (const_of b)) ∷ (to c, ref (const_of (to void))) ∷ (to c, ref (const_of (to a))) ∷ (to c, ref (const_of bool)) ∷ (to (const_of b), ref (const_of (to void))) ∷ (to (const_of b), ref (const_of (to a))) ∷ (to (const_of b), ref (const_of bool)) ∷ (ref (const_of (to void)), ref (const_of (to a))) ∷ (ref (const_of (to void)), ref (const_of bool)) ∷ (ref (const_of (to a)), ref (const_of bool)) ∷ []) ≡ (Better ∷ Better ∷ Worse ∷ Worse ∷ Worse ∷ Same ∷ Worse ∷ Better ∷ Better ∷ Worse ∷ Worse ∷ Worse ∷ Worse ∷ Worse ∷ Better ∷ Worse ∷ Worse ∷ Worse ∷ Worse ∷ Worse ∷ Same ∷ Worse ∷ Worse ∷ Better ∷ Same ∷ Better ∷ Better ∷ Better ∷ Better ∷ Better ∷ Better ∷ Better ∷ Better ∷ Worse ∷ Better ∷ Better ∷ [])
unfolding standard_sequence steps_between steps_of_reference steps_by_relation steps_of_unrelated steps_of_related related related_kinds steps_of_value steps_by_kinds steps_to_class steps_to_scalar class_step value_step steps_of_kinds steps_of_pointer steps_of_enumeration steps_of_arithmetic is_text step_of_enumeration steps_of_pointers pointer_to_other pointer_to_class is_derived is_pending promoted order_of is_proper_part is_no_pointer_to_bool has_nearer_class is_less_qualified is_bound_to_less refers_to_less is_nearer is_shorter way_of way_of_pointers way_of_classes
preferred_25 = refl

-- const B *
preferred_26 : orders (lvalue (to (const_of b))) ((to (const_of void), bool) ∷ (to (const_of void), to (const_of b)) ∷ (to (const_of void), ref (const_of bool)) ∷ (bool, to (const_of b)) ∷ (bool, ref (const_of bool)) ∷ (to (const_of b), ref (const_of bool)) ∷ []) ≡ (Better ∷ Worse ∷ Better ∷ Worse ∷ Same ∷ Better ∷ [])
unfolding standard_sequence steps_between steps_of_reference steps_by_relation steps_of_unrelated steps_of_related related related_kinds steps_of_value steps_by_kinds steps_to_class steps_to_scalar class_step value_step steps_of_kinds steps_of_pointer steps_of_enumeration steps_of_arithmetic is_text step_of_enumeration steps_of_pointers pointer_to_other pointer_to_class is_derived is_pending promoted order_of is_proper_part is_no_pointer_to_bool has_nearer_class is_less_qualified is_bound_to_less refers_to_less is_nearer is_shorter way_of way_of_pointers way_of_classes
preferred_26 = refl

-- volatile int
preferred_27 : orders (lvalue (volatile_of int)) ((int, bool) ∷ (int, double) ∷ (int, ref (volatile_of int)) ∷ (int, ref (const_of long)) ∷ (int, ref (const_of bool)) ∷ (bool, double) ∷ (bool, ref (volatile_of int)) ∷ (bool, ref (const_of long)) ∷ (bool, ref (const_of bool)) ∷ (double, ref (volatile_of int)) ∷ (double, ref (const_of long)) ∷ (double, ref (const_of bool)) ∷ (ref (volatile_of int), ref (const_of long)) ∷ (ref (volatile_of int), ref (const_of bool)) ∷ (ref (const_of long), ref (const_of bool)) ∷ []) ≡ (Better ∷ Better ∷ Same ∷ Better ∷ Better ∷ Same ∷ Worse ∷ Same ∷ Same ∷ Worse ∷ Same ∷ Same ∷ Better ∷ Better ∷ Same ∷ [])
unfolding standard_sequence steps_between steps_of_reference steps_by_relation steps_of_unrelated steps_of_related related related_kinds steps_of_value steps_by_kinds steps_to_class steps_to_scalar class_step value_step steps_of_kinds steps_of_pointer steps_of_enumeration steps_of_arithmetic is_text step_of_enumeration steps_of_pointers pointer_to_other pointer_to_class is_derived is_pending promoted order_of is_proper_part is_no_pointer_to_bool has_nearer_class is_less_qualified is_bound_to_less refers_to_less is_nearer is_shorter way_of way_of_pointers way_of_classes
preferred_27 = refl

-- C **
preferred_28 : orders (lvalue (to (to c))) ((to void, to (const_of void)) ∷ (to void, bool) ∷ (to void, ref (const_of (to void))) ∷ (to void, ref (const_of bool)) ∷ (to (const_of void), bool) ∷ (to (const_of void), ref (const_of (to void))) ∷ (to (const_of void), ref (const_of bool)) ∷ (bool, ref (const_of (to void))) ∷ (bool, ref (const_of bool)) ∷ (ref (const_of (to void)), ref (const_of bool)) ∷ []) ≡ (Better ∷ Better ∷ Same ∷ Better ∷ Better ∷ Worse ∷ Better ∷ Worse ∷ Same ∷ Better ∷ [])
unfolding standard_sequence steps_between steps_of_reference steps_by_relation steps_of_unrelated steps_of_related related related_kinds steps_of_value steps_by_kinds steps_to_class steps_to_scalar class_step value_step steps_of_kinds steps_of_pointer steps_of_enumeration steps_of_arithmetic is_text step_of_enumeration steps_of_pointers pointer_to_other pointer_to_class is_derived is_pending promoted order_of is_proper_part is_no_pointer_to_bool has_nearer_class is_less_qualified is_bound_to_less refers_to_less is_nearer is_shorter way_of way_of_pointers way_of_classes
preferred_28 = refl

-- X *
preferred_29 : orders (lvalue (to x)) ((to void, to (const_of void)) ∷ (to void, bool) ∷ (to void, to x) ∷ (to void, ref (const_of (to void))) ∷ (to void, ref (const_of bool)) ∷ (to (const_of void), bool) ∷ (to (const_of void), to x) ∷ (to (const_of void), ref (const_of (to void))) ∷ (to (const_of void), ref (const_of bool)) ∷ (bool, to x) ∷ (bool, ref (const_of (to void))) ∷ (bool, ref (const_of bool)) ∷ (to x, ref (const_of (to void))) ∷ (to x, ref (const_of bool)) ∷ (ref (const_of (to void)), ref (const_of bool)) ∷ []) ≡ (Better ∷ Better ∷ Worse ∷ Same ∷ Better ∷ Better ∷ Worse ∷ Worse ∷ Better ∷ Worse ∷ Worse ∷ Same ∷ Better ∷ Better ∷ Better ∷ [])
unfolding standard_sequence steps_between steps_of_reference steps_by_relation steps_of_unrelated steps_of_related related related_kinds steps_of_value steps_by_kinds steps_to_class steps_to_scalar class_step value_step steps_of_kinds steps_of_pointer steps_of_enumeration steps_of_arithmetic is_text step_of_enumeration steps_of_pointers pointer_to_other pointer_to_class is_derived is_pending promoted order_of is_proper_part is_no_pointer_to_bool has_nearer_class is_less_qualified is_bound_to_less refers_to_less is_nearer is_shorter way_of way_of_pointers way_of_classes
preferred_29 = refl
