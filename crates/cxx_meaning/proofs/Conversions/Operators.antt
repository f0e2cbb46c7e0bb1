-- Built-in operators, as clang++ and g++ have them: made by bench/meanings/operators.py.
use Rattle.std.specs.Prelude.{ℕ, ◌≡◌, ◌+◌, ◌||◌, nat_eq, flat_map, if◌then◌else◌, true, false, List, [], ◌∷◌, map, Option, Some, None, Result, Ok, Err, pos, refl}
use Rattle.cxx_model.specs.declared.base.Base.TheVariants as base
use Rattle.cxx_model.specs.declared.facts.Access.TheVariants.{Public}
use Rattle.cxx_model.specs.declared.facts.ScopeKind.TheVariants as kind
use Rattle.cxx_model.specs.declared.sequence.ConstantKind.TheVariants as constant
use Rattle.cxx_model.specs.declared.types.ClassId.{ClassId}
use Rattle.cxx_model.specs.Facts.Declarations as facts
use Rattle.cxx_model.specs.Facts.Declarations.{CxxFact, CxxGraph, Declares, unnamed}
use Rattle.cxx_model.specs.Types.Trees.{CxxType, fundamental, class_type, enumeration, pointer_to, array_of, function_of, qualified, no_types, number_bound, adjusted}
use Rattle.cxx_model.specs.declared.punct.TheConstants as punct
use Rattle.cxx_model.specs.Types.Same.{same_type}
use Rattle.cxx_meaning.specs.Conversions.Arithmetic.{usual}
use Rattle.cxx_meaning.specs.Conversions.BuiltIn.{CxxBuiltIn, built_in_result, unary_result, unary_family_result, unary_by, follow, is_stepped, steps_to, before, after, binary_result, family_result, compound_result, compound, compound_on, binary_by, subscripted, added, added_to, subtracted, distance, beside_integer, compared_by, compared_pointers, assigned}
use Rattle.cxx_meaning.specs.Conversions.Conditional.{conditional, arms_of, arms_of_arithmetic, arms_of_enumeration, arms_of_pointer, arms_of_void, shared_pointers}
use Rattle.cxx_meaning.specs.Conversions.Pointers.{common_pointer, common_other, common_class, both_ready, is_complete_object, is_complete_class}
use Rattle.cxx_meaning.specs.Conversions.Derived.{is_derived}
use Rattle.cxx_meaning.specs.Conversions.Enumerations.{promoted}
use Rattle.cxx_model.specs.Facts.Pending.{is_pending}
use Rattle.cxx_meaning.specs.Conversions.Standard.{CxxOperand, pointer_to_class, pointer_to_other, steps_of_pointers, step_of_enumeration, is_text, steps_of_arithmetic, steps_of_enumeration, steps_of_pointer, steps_of_kinds, value_step, class_step, steps_to_scalar, steps_to_class, steps_by_kinds, steps_of_value, related_kinds, related, steps_of_related, steps_of_unrelated, steps_by_relation, steps_of_reference, steps_between, standard_sequence}

-- ---- how rows are written

abbrev const_of : CxxType → CxxType
const_of t = qualified (record { is_const = true; is_volatile = false }) t

abbrev volatile_of : CxxType → CxxType
volatile_of t = qualified (record { is_const = false; is_volatile = true }) t

abbrev bool : CxxType
bool = fundamental base.Bool

abbrev char : CxxType
char = fundamental base.Char

abbrev wide : CxxType
wide = fundamental base.WideChar

abbrev short : CxxType
short = fundamental base.Short

abbrev int : CxxType
int = fundamental base.Int

abbrev long : CxxType
long = fundamental base.Long

abbrev float : CxxType
float = fundamental base.Float

abbrev double : CxxType
double = fundamental base.Double

abbrev void : CxxType
void = fundamental base.Void

abbrev to : CxxType → CxxType
to t = pointer_to t

abbrev three : CxxType → CxxType
three t = array_of t (number_bound 3)

abbrev function : CxxType
function = function_of int no_types false (record { is_const = false; is_volatile = false })

abbrev put : Declares → CxxFact
put what = record { place = record { line = 1; column = 1 }; scope = 0; name = unnamed; access = Public; what = what }

-- enum E { e }; enum L { l = 4294967296 }; struct A { }; struct B : A { }; struct C : B { }; struct X;
-- and X is declared alone
abbrev graph : CxxGraph
graph = record {
  classes = None ∷ None ∷ None ∷ None ∷ [];
  patterns = [];
  facts = map put (
      facts.scope None kind.Space ∷ facts.enumeration 0 ∷ facts.enumerator 0 (pos 0) ∷ facts.enumeration 1 ∷ facts.enumerator 1 (pos 4294967296) ∷
      facts.complete (record { 0 = 0 }) ∷
      facts.ancestor (record { 0 = 1 }) (record { 0 = 0 }) 1 Public ∷ facts.complete (record { 0 = 1 }) ∷
      facts.ancestor (record { 0 = 2 }) (record { 0 = 1 }) 1 Public ∷ facts.complete (record { 0 = 2 }) ∷ []);
}

abbrev an_e : CxxType
an_e = enumeration 0

abbrev an_l : CxxType
an_l = enumeration 1

abbrev a : CxxType
a = class_type 0

abbrev c : CxxType
c = class_type 2

abbrev x : CxxType
x = class_type 3

abbrev lvalue : CxxType → CxxOperand
lvalue t = record { of = t; lvalue = true; constant = constant.No }

abbrev rvalue : CxxType → CxxOperand
rvalue t = record { of = t; lvalue = false; constant = constant.No }

abbrev zero : CxxOperand
zero = record { of = int; lvalue = false; constant = constant.Zero }

abbrev results : List CxxType
results = (bool) ∷ (char) ∷ (short) ∷ (int) ∷ (fundamental base.Unsigned) ∷ (long) ∷ (fundamental base.UnsignedLong) ∷ (wide) ∷ (float) ∷ (double) ∷ (fundamental base.LongDouble) ∷ (an_e) ∷ (an_l) ∷ (to int) ∷ (to (const_of int)) ∷ (to (volatile_of int)) ∷ (to (to int)) ∷ (to (to (const_of int))) ∷ (to (const_of (to (const_of int)))) ∷ (to void) ∷ (to (const_of void)) ∷ (to a) ∷ (to (const_of a)) ∷ (to (const_of c)) ∷ (to x) ∷ (to (qualified (record { is_const = true; is_volatile = true }) int)) ∷ (to (const_of (to (volatile_of int)))) ∷ (to (three int)) ∷ (to (to (to int))) ∷ (to (to (to (const_of int)))) ∷ (to (to void)) ∷ (to (to (const_of void))) ∷ (to (to a)) ∷ (to (to (const_of c))) ∷ (to (to x)) ∷ (to function) ∷ (to (to function)) ∷ (to (volatile_of void)) ∷ (to (qualified (record { is_const = true; is_volatile = true }) void)) ∷ (to an_e) ∷ (to an_l) ∷ (to (fundamental base.Char)) ∷ (to (fundamental base.Bool)) ∷ (to (fundamental base.Unsigned)) ∷ (to (fundamental base.Long)) ∷ (to (fundamental base.UnsignedLong)) ∷ (to (fundamental base.WideChar)) ∷ (to (fundamental base.Float)) ∷ (to (fundamental base.Double)) ∷ (to (fundamental base.LongDouble)) ∷ []

abbrev operands : List CxxOperand
operands = (lvalue int) ∷ (lvalue (const_of int)) ∷ (lvalue char) ∷ (lvalue bool) ∷ (lvalue (fundamental base.Unsigned)) ∷ (lvalue long) ∷ (lvalue (fundamental base.UnsignedLong)) ∷ (lvalue wide) ∷ (lvalue float) ∷ (lvalue double) ∷ (lvalue (fundamental base.LongDouble)) ∷ (lvalue an_e) ∷ (lvalue an_l) ∷ (lvalue (to int)) ∷ (lvalue (to (const_of int))) ∷ (lvalue (const_of (to (volatile_of int)))) ∷ (lvalue (three int)) ∷ (lvalue (to (to int))) ∷ (lvalue (to (to (const_of int)))) ∷ (lvalue (to void)) ∷ (lvalue (to (const_of void))) ∷ (lvalue (to function)) ∷ (lvalue (to a)) ∷ (lvalue (to (const_of c))) ∷ (lvalue (to x)) ∷ (zero) ∷ (rvalue int) ∷ []

abbrev place_from : ℕ → CxxType → List CxxType → ℕ
place_from n t [] = 998
place_from n t (u ∷ us) = if same_type t u then n else place_from (n + 1) t us

-- the place of the type of the whole among the results, 100 more for an lvalue, 999 where there is no meaning
abbrev code_of : Result (Option CxxBuiltIn) ClassId → ℕ
code_of (Ok None) = 999
code_of (Ok (Some whole)) = if whole.lvalue then 100 + place_from 0 (adjusted whole.result) results else place_from 0 (adjusted whole.result) results
code_of (Err class) = 997

-- where the definition and the compilers differ: the operands, and the code of the definition
abbrev differences : (CxxOperand → ℕ) → ℕ → List CxxOperand → List ℕ → List (ℕ × ℕ)
differences given i (one ∷ ones) (code ∷ codes) = if nat_eq code 998 || nat_eq (given one) code then differences given (i + 1) ones codes else (i, given one) ∷ differences given (i + 1) ones codes
differences given i _ _ = []

abbrev unary_of : ℕ → List ℕ → List (ℕ × ℕ)
unary_of operator codes = differences (λ one. code_of (built_in_result graph operator (one ∷ []))) 0 operands codes

abbrev binary_from : ℕ → List CxxOperand → List (List ℕ) → List (List (ℕ × ℕ))
binary_from operator (one ∷ ones) (codes ∷ others) = differences (λ two. code_of (built_in_result graph operator (one ∷ two ∷ []))) 0 operands codes ∷ binary_from operator ones others
binary_from operator _ _ = []

abbrev arms_of_one : CxxOperand → List ℕ → List (ℕ × ℕ)
arms_of_one one codes = differences (λ two. code_of (conditional graph one two)) 0 operands codes

abbrev binary_of : ℕ → List (List ℕ) → List (ℕ × ℕ)
binary_of operator codes = flat_map (λ found. found) (binary_from operator operands codes)

-- *
unary_STAR : unary_of punct.STAR (999 ∷ 999 ∷ 999 ∷ 999 ∷ 999 ∷ 999 ∷ 999 ∷ 999 ∷ 999 ∷ 999 ∷ 999 ∷ 999 ∷ 999 ∷ 103 ∷ 103 ∷ 103 ∷ 103 ∷ 113 ∷ 114 ∷ 998 ∷ 998 ∷ 135 ∷ 998 ∷ 998 ∷ 998 ∷ 999 ∷ 999 ∷ []) ≡ []
unfolding standard_sequence steps_between steps_of_reference steps_by_relation steps_of_unrelated steps_of_related related related_kinds steps_of_value steps_by_kinds steps_to_class steps_to_scalar class_step value_step steps_of_kinds steps_of_pointer steps_of_enumeration steps_of_arithmetic is_text step_of_enumeration steps_of_pointers pointer_to_other pointer_to_class is_derived is_pending promoted built_in_result unary_result unary_family_result unary_by follow is_stepped steps_to before after binary_result family_result compound_result compound compound_on binary_by subscripted added added_to subtracted distance beside_integer compared_by compared_pointers assigned usual common_pointer common_other common_class both_ready is_complete_object is_complete_class conditional arms_of arms_of_arithmetic arms_of_enumeration arms_of_pointer arms_of_void shared_pointers
unary_STAR = refl

-- &
unary_AMPERSAND : unary_of punct.AMPERSAND (13 ∷ 14 ∷ 41 ∷ 42 ∷ 43 ∷ 44 ∷ 45 ∷ 46 ∷ 47 ∷ 48 ∷ 49 ∷ 39 ∷ 40 ∷ 16 ∷ 17 ∷ 26 ∷ 27 ∷ 28 ∷ 29 ∷ 30 ∷ 31 ∷ 36 ∷ 32 ∷ 33 ∷ 34 ∷ 999 ∷ 999 ∷ []) ≡ []
unfolding standard_sequence steps_between steps_of_reference steps_by_relation steps_of_unrelated steps_of_related related related_kinds steps_of_value steps_by_kinds steps_to_class steps_to_scalar class_step value_step steps_of_kinds steps_of_pointer steps_of_enumeration steps_of_arithmetic is_text step_of_enumeration steps_of_pointers pointer_to_other pointer_to_class is_derived is_pending promoted built_in_result unary_result unary_family_result unary_by follow is_stepped steps_to before after binary_result family_result compound_result compound compound_on binary_by subscripted added added_to subtracted distance beside_integer compared_by compared_pointers assigned usual common_pointer common_other common_class both_ready is_complete_object is_complete_class conditional arms_of arms_of_arithmetic arms_of_enumeration arms_of_pointer arms_of_void shared_pointers
unary_AMPERSAND = refl

-- +
unary_PLUS : unary_of punct.PLUS (3 ∷ 3 ∷ 3 ∷ 3 ∷ 4 ∷ 5 ∷ 6 ∷ 3 ∷ 8 ∷ 9 ∷ 10 ∷ 3 ∷ 5 ∷ 13 ∷ 14 ∷ 15 ∷ 13 ∷ 16 ∷ 17 ∷ 19 ∷ 20 ∷ 35 ∷ 21 ∷ 23 ∷ 24 ∷ 3 ∷ 3 ∷ []) ≡ []
unfolding standard_sequence steps_between steps_of_reference steps_by_relation steps_of_unrelated steps_of_related related related_kinds steps_of_value steps_by_kinds steps_to_class steps_to_scalar class_step value_step steps_of_kinds steps_of_pointer steps_of_enumeration steps_of_arithmetic is_text step_of_enumeration steps_of_pointers pointer_to_other pointer_to_class is_derived is_pending promoted built_in_result unary_result unary_family_result unary_by follow is_stepped steps_to before after binary_result family_result compound_result compound compound_on binary_by subscripted added added_to subtracted distance beside_integer compared_by compared_pointers assigned usual common_pointer common_other common_class both_ready is_complete_object is_complete_class conditional arms_of arms_of_arithmetic arms_of_enumeration arms_of_pointer arms_of_void shared_pointers
unary_PLUS = refl

-- -
unary_MINUS : unary_of punct.MINUS (3 ∷ 3 ∷ 3 ∷ 3 ∷ 4 ∷ 5 ∷ 6 ∷ 3 ∷ 8 ∷ 9 ∷ 10 ∷ 3 ∷ 5 ∷ 999 ∷ 999 ∷ 999 ∷ 999 ∷ 999 ∷ 999 ∷ 999 ∷ 999 ∷ 999 ∷ 999 ∷ 999 ∷ 999 ∷ 3 ∷ 3 ∷ []) ≡ []
unfolding standard_sequence steps_between steps_of_reference steps_by_relation steps_of_unrelated steps_of_related related related_kinds steps_of_value steps_by_kinds steps_to_class steps_to_scalar class_step value_step steps_of_kinds steps_of_pointer steps_of_enumeration steps_of_arithmetic is_text step_of_enumeration steps_of_pointers pointer_to_other pointer_to_class is_derived is_pending promoted built_in_result unary_result unary_family_result unary_by follow is_stepped steps_to before after binary_result family_result compound_result compound compound_on binary_by subscripted added added_to subtracted distance beside_integer compared_by compared_pointers assigned usual common_pointer common_other common_class both_ready is_complete_object is_complete_class conditional arms_of arms_of_arithmetic arms_of_enumeration arms_of_pointer arms_of_void shared_pointers
unary_MINUS = refl

-- ~
unary_TILDE : unary_of punct.TILDE (3 ∷ 3 ∷ 3 ∷ 3 ∷ 4 ∷ 5 ∷ 6 ∷ 3 ∷ 999 ∷ 999 ∷ 999 ∷ 3 ∷ 5 ∷ 999 ∷ 999 ∷ 999 ∷ 999 ∷ 999 ∷ 999 ∷ 999 ∷ 999 ∷ 999 ∷ 999 ∷ 999 ∷ 999 ∷ 3 ∷ 3 ∷ []) ≡ []
unfolding standard_sequence steps_between steps_of_reference steps_by_relation steps_of_unrelated steps_of_related related related_kinds steps_of_value steps_by_kinds steps_to_class steps_to_scalar class_step value_step steps_of_kinds steps_of_pointer steps_of_enumeration steps_of_arithmetic is_text step_of_enumeration steps_of_pointers pointer_to_other pointer_to_class is_derived is_pending promoted built_in_result unary_result unary_family_result unary_by follow is_stepped steps_to before after binary_result family_result compound_result compound compound_on binary_by subscripted added added_to subtracted distance beside_integer compared_by compared_pointers assigned usual common_pointer common_other common_class both_ready is_complete_object is_complete_class conditional arms_of arms_of_arithmetic arms_of_enumeration arms_of_pointer arms_of_void shared_pointers
unary_TILDE = refl

-- !
unary_EXCLAMATION : unary_of punct.EXCLAMATION (0 ∷ 0 ∷ 0 ∷ 0 ∷ 0 ∷ 0 ∷ 0 ∷ 0 ∷ 0 ∷ 0 ∷ 0 ∷ 0 ∷ 0 ∷ 0 ∷ 0 ∷ 0 ∷ 0 ∷ 0 ∷ 0 ∷ 0 ∷ 0 ∷ 0 ∷ 0 ∷ 0 ∷ 0 ∷ 0 ∷ 0 ∷ []) ≡ []
unfolding standard_sequence steps_between steps_of_reference steps_by_relation steps_of_unrelated steps_of_related related related_kinds steps_of_value steps_by_kinds steps_to_class steps_to_scalar class_step value_step steps_of_kinds steps_of_pointer steps_of_enumeration steps_of_arithmetic is_text step_of_enumeration steps_of_pointers pointer_to_other pointer_to_class is_derived is_pending promoted built_in_result unary_result unary_family_result unary_by follow is_stepped steps_to before after binary_result family_result compound_result compound compound_on binary_by subscripted added added_to subtracted distance beside_integer compared_by compared_pointers assigned usual common_pointer common_other common_class both_ready is_complete_object is_complete_class conditional arms_of arms_of_arithmetic arms_of_enumeration arms_of_pointer arms_of_void shared_pointers
unary_EXCLAMATION = refl

-- ++
unary_INCREMENT : unary_of punct.INCREMENT (103 ∷ 999 ∷ 101 ∷ 100 ∷ 104 ∷ 105 ∷ 106 ∷ 107 ∷ 108 ∷ 109 ∷ 110 ∷ 999 ∷ 999 ∷ 113 ∷ 114 ∷ 999 ∷ 999 ∷ 116 ∷ 117 ∷ 998 ∷ 998 ∷ 998 ∷ 121 ∷ 123 ∷ 999 ∷ 999 ∷ 999 ∷ []) ≡ []
unfolding standard_sequence steps_between steps_of_reference steps_by_relation steps_of_unrelated steps_of_related related related_kinds steps_of_value steps_by_kinds steps_to_class steps_to_scalar class_step value_step steps_of_kinds steps_of_pointer steps_of_enumeration steps_of_arithmetic is_text step_of_enumeration steps_of_pointers pointer_to_other pointer_to_class is_derived is_pending promoted built_in_result unary_result unary_family_result unary_by follow is_stepped steps_to before after binary_result family_result compound_result compound compound_on binary_by subscripted added added_to subtracted distance beside_integer compared_by compared_pointers assigned usual common_pointer common_other common_class both_ready is_complete_object is_complete_class conditional arms_of arms_of_arithmetic arms_of_enumeration arms_of_pointer arms_of_void shared_pointers
unary_INCREMENT = refl

-- --
unary_DECREMENT : unary_of punct.DECREMENT (103 ∷ 999 ∷ 101 ∷ 999 ∷ 104 ∷ 105 ∷ 106 ∷ 107 ∷ 108 ∷ 109 ∷ 110 ∷ 999 ∷ 999 ∷ 113 ∷ 114 ∷ 999 ∷ 999 ∷ 116 ∷ 117 ∷ 998 ∷ 998 ∷ 998 ∷ 121 ∷ 123 ∷ 999 ∷ 999 ∷ 999 ∷ []) ≡ []
unfolding standard_sequence steps_between steps_of_reference steps_by_relation steps_of_unrelated steps_of_related related related_kinds steps_of_value steps_by_kinds steps_to_class steps_to_scalar class_step value_step steps_of_kinds steps_of_pointer steps_of_enumeration steps_of_arithmetic is_text step_of_enumeration steps_of_pointers pointer_to_other pointer_to_class is_derived is_pending promoted built_in_result unary_result unary_family_result unary_by follow is_stepped steps_to before after binary_result family_result compound_result compound compound_on binary_by subscripted added added_to subtracted distance beside_integer compared_by compared_pointers assigned usual common_pointer common_other common_class both_ready is_complete_object is_complete_class conditional arms_of arms_of_arithmetic arms_of_enumeration arms_of_pointer arms_of_void shared_pointers
unary_DECREMENT = refl

-- ++ behind its operand
behind_INCREMENT : differences (λ one. code_of (built_in_result graph punct.INCREMENT (one ∷ rvalue int ∷ []))) 0 operands (3 ∷ 999 ∷ 1 ∷ 0 ∷ 4 ∷ 5 ∷ 6 ∷ 7 ∷ 8 ∷ 9 ∷ 10 ∷ 999 ∷ 999 ∷ 13 ∷ 14 ∷ 999 ∷ 999 ∷ 16 ∷ 17 ∷ 998 ∷ 998 ∷ 998 ∷ 21 ∷ 23 ∷ 999 ∷ 999 ∷ 999 ∷ []) ≡ []
unfolding standard_sequence steps_between steps_of_reference steps_by_relation steps_of_unrelated steps_of_related related related_kinds steps_of_value steps_by_kinds steps_to_class steps_to_scalar class_step value_step steps_of_kinds steps_of_pointer steps_of_enumeration steps_of_arithmetic is_text step_of_enumeration steps_of_pointers pointer_to_other pointer_to_class is_derived is_pending promoted built_in_result unary_result unary_family_result unary_by follow is_stepped steps_to before after binary_result family_result compound_result compound compound_on binary_by subscripted added added_to subtracted distance beside_integer compared_by compared_pointers assigned usual common_pointer common_other common_class both_ready is_complete_object is_complete_class conditional arms_of arms_of_arithmetic arms_of_enumeration arms_of_pointer arms_of_void shared_pointers
behind_INCREMENT = refl

-- -- behind its operand
behind_DECREMENT : differences (λ one. code_of (built_in_result graph punct.DECREMENT (one ∷ rvalue int ∷ []))) 0 operands (3 ∷ 999 ∷ 1 ∷ 999 ∷ 4 ∷ 5 ∷ 6 ∷ 7 ∷ 8 ∷ 9 ∷ 10 ∷ 999 ∷ 999 ∷ 13 ∷ 14 ∷ 999 ∷ 999 ∷ 16 ∷ 17 ∷ 998 ∷ 998 ∷ 998 ∷ 21 ∷ 23 ∷ 999 ∷ 999 ∷ 999 ∷ []) ≡ []
unfolding standard_sequence steps_between steps_of_reference steps_by_relation steps_of_unrelated steps_of_related related related_kinds steps_of_value steps_by_kinds steps_to_class steps_to_scalar class_step value_step steps_of_kinds steps_of_pointer steps_of_enumeration steps_of_arithmetic is_text step_of_enumeration steps_of_pointers pointer_to_other pointer_to_class is_derived is_pending promoted built_in_result unary_result unary_family_result unary_by follow is_stepped steps_to before after binary_result family_result compound_result compound compound_on binary_by subscripted added added_to subtracted distance beside_integer compared_by compared_pointers assigned usual common_pointer common_other common_class both_ready is_complete_object is_complete_class conditional arms_of arms_of_arithmetic arms_of_enumeration arms_of_pointer arms_of_void shared_pointers
behind_DECREMENT = refl

-- [], a line for each left operand
binary_LEFT_BRACKET : binary_of punct.LEFT_BRACKET (
    (999 ∷ 999 ∷ 999 ∷ 999 ∷ 999 ∷ 999 ∷ 999 ∷ 999 ∷ 999 ∷ 999 ∷ 999 ∷ 999 ∷ 999 ∷ 103 ∷ 103 ∷ 103 ∷ 103 ∷ 113 ∷ 114 ∷ 999 ∷ 999 ∷ 998 ∷ 998 ∷ 998 ∷ 999 ∷ 999 ∷ 999 ∷ []) ∷
    (999 ∷ 999 ∷ 999 ∷ 999 ∷ 999 ∷ 999 ∷ 999 ∷ 999 ∷ 999 ∷ 999 ∷ 999 ∷ 999 ∷ 999 ∷ 103 ∷ 103 ∷ 103 ∷ 103 ∷ 113 ∷ 114 ∷ 999 ∷ 999 ∷ 998 ∷ 998 ∷ 998 ∷ 999 ∷ 999 ∷ 999 ∷ []) ∷
    (999 ∷ 999 ∷ 999 ∷ 999 ∷ 999 ∷ 999 ∷ 999 ∷ 999 ∷ 999 ∷ 999 ∷ 999 ∷ 999 ∷ 999 ∷ 103 ∷ 103 ∷ 103 ∷ 103 ∷ 113 ∷ 114 ∷ 999 ∷ 999 ∷ 998 ∷ 998 ∷ 998 ∷ 999 ∷ 999 ∷ 999 ∷ []) ∷
    (999 ∷ 999 ∷ 999 ∷ 999 ∷ 999 ∷ 999 ∷ 999 ∷ 999 ∷ 999 ∷ 999 ∷ 999 ∷ 999 ∷ 999 ∷ 103 ∷ 103 ∷ 103 ∷ 103 ∷ 113 ∷ 114 ∷ 999 ∷ 999 ∷ 998 ∷ 998 ∷ 998 ∷ 999 ∷ 999 ∷ 999 ∷ []) ∷
    (999 ∷ 999 ∷ 999 ∷ 999 ∷ 999 ∷ 999 ∷ 999 ∷ 999 ∷ 999 ∷ 999 ∷ 999 ∷ 999 ∷ 999 ∷ 103 ∷ 103 ∷ 103 ∷ 103 ∷ 113 ∷ 114 ∷ 999 ∷ 999 ∷ 998 ∷ 998 ∷ 998 ∷ 999 ∷ 999 ∷ 999 ∷ []) ∷
    (999 ∷ 999 ∷ 999 ∷ 999 ∷ 999 ∷ 999 ∷ 999 ∷ 999 ∷ 999 ∷ 999 ∷ 999 ∷ 999 ∷ 999 ∷ 103 ∷ 103 ∷ 103 ∷ 103 ∷ 113 ∷ 114 ∷ 999 ∷ 999 ∷ 998 ∷ 998 ∷ 998 ∷ 999 ∷ 999 ∷ 999 ∷ []) ∷
    (999 ∷ 999 ∷ 999 ∷ 999 ∷ 999 ∷ 999 ∷ 999 ∷ 999 ∷ 999 ∷ 999 ∷ 999 ∷ 999 ∷ 999 ∷ 103 ∷ 103 ∷ 103 ∷ 103 ∷ 113 ∷ 114 ∷ 999 ∷ 999 ∷ 998 ∷ 998 ∷ 998 ∷ 999 ∷ 999 ∷ 999 ∷ []) ∷
    (999 ∷ 999 ∷ 999 ∷ 999 ∷ 999 ∷ 999 ∷ 999 ∷ 999 ∷ 999 ∷ 999 ∷ 999 ∷ 999 ∷ 999 ∷ 103 ∷ 103 ∷ 103 ∷ 103 ∷ 113 ∷ 114 ∷ 999 ∷ 999 ∷ 998 ∷ 998 ∷ 998 ∷ 999 ∷ 999 ∷ 999 ∷ []) ∷
    (999 ∷ 999 ∷ 999 ∷ 999 ∷ 999 ∷ 999 ∷ 999 ∷ 999 ∷ 999 ∷ 999 ∷ 999 ∷ 999 ∷ 999 ∷ 999 ∷ 999 ∷ 999 ∷ 999 ∷ 999 ∷ 999 ∷ 999 ∷ 999 ∷ 999 ∷ 999 ∷ 999 ∷ 999 ∷ 999 ∷ 999 ∷ []) ∷
    (999 ∷ 999 ∷ 999 ∷ 999 ∷ 999 ∷ 999 ∷ 999 ∷ 999 ∷ 999 ∷ 999 ∷ 999 ∷ 999 ∷ 999 ∷ 999 ∷ 999 ∷ 999 ∷ 999 ∷ 999 ∷ 999 ∷ 999 ∷ 999 ∷ 999 ∷ 999 ∷ 999 ∷ 999 ∷ 999 ∷ 999 ∷ []) ∷
    (999 ∷ 999 ∷ 999 ∷ 999 ∷ 999 ∷ 999 ∷ 999 ∷ 999 ∷ 999 ∷ 999 ∷ 999 ∷ 999 ∷ 999 ∷ 999 ∷ 999 ∷ 999 ∷ 999 ∷ 999 ∷ 999 ∷ 999 ∷ 999 ∷ 999 ∷ 999 ∷ 999 ∷ 999 ∷ 999 ∷ 999 ∷ []) ∷
    (999 ∷ 999 ∷ 999 ∷ 999 ∷ 999 ∷ 999 ∷ 999 ∷ 999 ∷ 999 ∷ 999 ∷ 999 ∷ 999 ∷ 999 ∷ 103 ∷ 103 ∷ 103 ∷ 103 ∷ 113 ∷ 114 ∷ 999 ∷ 999 ∷ 998 ∷ 998 ∷ 998 ∷ 999 ∷ 999 ∷ 999 ∷ []) ∷
    (999 ∷ 999 ∷ 999 ∷ 999 ∷ 999 ∷ 999 ∷ 999 ∷ 999 ∷ 999 ∷ 999 ∷ 999 ∷ 999 ∷ 999 ∷ 103 ∷ 103 ∷ 103 ∷ 103 ∷ 113 ∷ 114 ∷ 999 ∷ 999 ∷ 998 ∷ 998 ∷ 998 ∷ 999 ∷ 999 ∷ 999 ∷ []) ∷
    (103 ∷ 103 ∷ 103 ∷ 103 ∷ 103 ∷ 103 ∷ 103 ∷ 103 ∷ 999 ∷ 999 ∷ 999 ∷ 103 ∷ 103 ∷ 999 ∷ 999 ∷ 999 ∷ 999 ∷ 999 ∷ 999 ∷ 999 ∷ 999 ∷ 999 ∷ 999 ∷ 999 ∷ 999 ∷ 103 ∷ 103 ∷ []) ∷
    (103 ∷ 103 ∷ 103 ∷ 103 ∷ 103 ∷ 103 ∷ 103 ∷ 103 ∷ 999 ∷ 999 ∷ 999 ∷ 103 ∷ 103 ∷ 999 ∷ 999 ∷ 999 ∷ 999 ∷ 999 ∷ 999 ∷ 999 ∷ 999 ∷ 999 ∷ 999 ∷ 999 ∷ 999 ∷ 103 ∷ 103 ∷ []) ∷
    (103 ∷ 103 ∷ 103 ∷ 103 ∷ 103 ∷ 103 ∷ 103 ∷ 103 ∷ 999 ∷ 999 ∷ 999 ∷ 103 ∷ 103 ∷ 999 ∷ 999 ∷ 999 ∷ 999 ∷ 999 ∷ 999 ∷ 999 ∷ 999 ∷ 999 ∷ 999 ∷ 999 ∷ 999 ∷ 103 ∷ 103 ∷ []) ∷
    (103 ∷ 103 ∷ 103 ∷ 103 ∷ 103 ∷ 103 ∷ 103 ∷ 103 ∷ 999 ∷ 999 ∷ 999 ∷ 103 ∷ 103 ∷ 999 ∷ 999 ∷ 999 ∷ 999 ∷ 999 ∷ 999 ∷ 999 ∷ 999 ∷ 999 ∷ 999 ∷ 999 ∷ 999 ∷ 103 ∷ 103 ∷ []) ∷
    (113 ∷ 113 ∷ 113 ∷ 113 ∷ 113 ∷ 113 ∷ 113 ∷ 113 ∷ 999 ∷ 999 ∷ 999 ∷ 113 ∷ 113 ∷ 999 ∷ 999 ∷ 999 ∷ 999 ∷ 999 ∷ 999 ∷ 999 ∷ 999 ∷ 999 ∷ 999 ∷ 999 ∷ 999 ∷ 113 ∷ 113 ∷ []) ∷
    (114 ∷ 114 ∷ 114 ∷ 114 ∷ 114 ∷ 114 ∷ 114 ∷ 114 ∷ 999 ∷ 999 ∷ 999 ∷ 114 ∷ 114 ∷ 999 ∷ 999 ∷ 999 ∷ 999 ∷ 999 ∷ 999 ∷ 999 ∷ 999 ∷ 999 ∷ 999 ∷ 999 ∷ 999 ∷ 114 ∷ 114 ∷ []) ∷
    (999 ∷ 999 ∷ 999 ∷ 999 ∷ 999 ∷ 999 ∷ 999 ∷ 999 ∷ 999 ∷ 999 ∷ 999 ∷ 999 ∷ 999 ∷ 999 ∷ 999 ∷ 999 ∷ 999 ∷ 999 ∷ 999 ∷ 999 ∷ 999 ∷ 999 ∷ 999 ∷ 999 ∷ 999 ∷ 999 ∷ 999 ∷ []) ∷
    (999 ∷ 999 ∷ 999 ∷ 999 ∷ 999 ∷ 999 ∷ 999 ∷ 999 ∷ 999 ∷ 999 ∷ 999 ∷ 999 ∷ 999 ∷ 999 ∷ 999 ∷ 999 ∷ 999 ∷ 999 ∷ 999 ∷ 999 ∷ 999 ∷ 999 ∷ 999 ∷ 999 ∷ 999 ∷ 999 ∷ 999 ∷ []) ∷
    (998 ∷ 998 ∷ 998 ∷ 998 ∷ 998 ∷ 998 ∷ 998 ∷ 998 ∷ 999 ∷ 999 ∷ 999 ∷ 998 ∷ 998 ∷ 999 ∷ 999 ∷ 999 ∷ 999 ∷ 999 ∷ 999 ∷ 999 ∷ 999 ∷ 999 ∷ 999 ∷ 999 ∷ 999 ∷ 998 ∷ 998 ∷ []) ∷
    (998 ∷ 998 ∷ 998 ∷ 998 ∷ 998 ∷ 998 ∷ 998 ∷ 998 ∷ 999 ∷ 999 ∷ 999 ∷ 998 ∷ 998 ∷ 999 ∷ 999 ∷ 999 ∷ 999 ∷ 999 ∷ 999 ∷ 999 ∷ 999 ∷ 999 ∷ 999 ∷ 999 ∷ 999 ∷ 998 ∷ 998 ∷ []) ∷
    (998 ∷ 998 ∷ 998 ∷ 998 ∷ 998 ∷ 998 ∷ 998 ∷ 998 ∷ 999 ∷ 999 ∷ 999 ∷ 998 ∷ 998 ∷ 999 ∷ 999 ∷ 999 ∷ 999 ∷ 999 ∷ 999 ∷ 999 ∷ 999 ∷ 999 ∷ 999 ∷ 999 ∷ 999 ∷ 998 ∷ 998 ∷ []) ∷
    (999 ∷ 999 ∷ 999 ∷ 999 ∷ 999 ∷ 999 ∷ 999 ∷ 999 ∷ 999 ∷ 999 ∷ 999 ∷ 999 ∷ 999 ∷ 999 ∷ 999 ∷ 999 ∷ 999 ∷ 999 ∷ 999 ∷ 999 ∷ 999 ∷ 999 ∷ 999 ∷ 999 ∷ 999 ∷ 999 ∷ 999 ∷ []) ∷
    (999 ∷ 999 ∷ 999 ∷ 999 ∷ 999 ∷ 999 ∷ 999 ∷ 999 ∷ 999 ∷ 999 ∷ 999 ∷ 999 ∷ 999 ∷ 103 ∷ 103 ∷ 103 ∷ 103 ∷ 113 ∷ 114 ∷ 999 ∷ 999 ∷ 998 ∷ 998 ∷ 998 ∷ 999 ∷ 999 ∷ 999 ∷ []) ∷
    (999 ∷ 999 ∷ 999 ∷ 999 ∷ 999 ∷ 999 ∷ 999 ∷ 999 ∷ 999 ∷ 999 ∷ 999 ∷ 999 ∷ 999 ∷ 103 ∷ 103 ∷ 103 ∷ 103 ∷ 113 ∷ 114 ∷ 999 ∷ 999 ∷ 998 ∷ 998 ∷ 998 ∷ 999 ∷ 999 ∷ 999 ∷ []) ∷ []) ≡ []
unfolding standard_sequence steps_between steps_of_reference steps_by_relation steps_of_unrelated steps_of_related related related_kinds steps_of_value steps_by_kinds steps_to_class steps_to_scalar class_step value_step steps_of_kinds steps_of_pointer steps_of_enumeration steps_of_arithmetic is_text step_of_enumeration steps_of_pointers pointer_to_other pointer_to_class is_derived is_pending promoted built_in_result unary_result unary_family_result unary_by follow is_stepped steps_to before after binary_result family_result compound_result compound compound_on binary_by subscripted added added_to subtracted distance beside_integer compared_by compared_pointers assigned usual common_pointer common_other common_class both_ready is_complete_object is_complete_class conditional arms_of arms_of_arithmetic arms_of_enumeration arms_of_pointer arms_of_void shared_pointers
binary_LEFT_BRACKET = refl

-- *, a line for each left operand
binary_STAR : binary_of punct.STAR (
    (3 ∷ 3 ∷ 3 ∷ 3 ∷ 4 ∷ 5 ∷ 6 ∷ 3 ∷ 8 ∷ 9 ∷ 10 ∷ 3 ∷ 5 ∷ 999 ∷ 999 ∷ 999 ∷ 999 ∷ 999 ∷ 999 ∷ 999 ∷ 999 ∷ 999 ∷ 999 ∷ 999 ∷ 999 ∷ 3 ∷ 3 ∷ []) ∷
    (3 ∷ 3 ∷ 3 ∷ 3 ∷ 4 ∷ 5 ∷ 6 ∷ 3 ∷ 8 ∷ 9 ∷ 10 ∷ 3 ∷ 5 ∷ 999 ∷ 999 ∷ 999 ∷ 999 ∷ 999 ∷ 999 ∷ 999 ∷ 999 ∷ 999 ∷ 999 ∷ 999 ∷ 999 ∷ 3 ∷ 3 ∷ []) ∷
    (3 ∷ 3 ∷ 3 ∷ 3 ∷ 4 ∷ 5 ∷ 6 ∷ 3 ∷ 8 ∷ 9 ∷ 10 ∷ 3 ∷ 5 ∷ 999 ∷ 999 ∷ 999 ∷ 999 ∷ 999 ∷ 999 ∷ 999 ∷ 999 ∷ 999 ∷ 999 ∷ 999 ∷ 999 ∷ 3 ∷ 3 ∷ []) ∷
    (3 ∷ 3 ∷ 3 ∷ 3 ∷ 4 ∷ 5 ∷ 6 ∷ 3 ∷ 8 ∷ 9 ∷ 10 ∷ 3 ∷ 5 ∷ 999 ∷ 999 ∷ 999 ∷ 999 ∷ 999 ∷ 999 ∷ 999 ∷ 999 ∷ 999 ∷ 999 ∷ 999 ∷ 999 ∷ 3 ∷ 3 ∷ []) ∷
    (4 ∷ 4 ∷ 4 ∷ 4 ∷ 4 ∷ 5 ∷ 6 ∷ 4 ∷ 8 ∷ 9 ∷ 10 ∷ 4 ∷ 5 ∷ 999 ∷ 999 ∷ 999 ∷ 999 ∷ 999 ∷ 999 ∷ 999 ∷ 999 ∷ 999 ∷ 999 ∷ 999 ∷ 999 ∷ 4 ∷ 4 ∷ []) ∷
    (5 ∷ 5 ∷ 5 ∷ 5 ∷ 5 ∷ 5 ∷ 6 ∷ 5 ∷ 8 ∷ 9 ∷ 10 ∷ 5 ∷ 5 ∷ 999 ∷ 999 ∷ 999 ∷ 999 ∷ 999 ∷ 999 ∷ 999 ∷ 999 ∷ 999 ∷ 999 ∷ 999 ∷ 999 ∷ 5 ∷ 5 ∷ []) ∷
    (6 ∷ 6 ∷ 6 ∷ 6 ∷ 6 ∷ 6 ∷ 6 ∷ 6 ∷ 8 ∷ 9 ∷ 10 ∷ 6 ∷ 6 ∷ 999 ∷ 999 ∷ 999 ∷ 999 ∷ 999 ∷ 999 ∷ 999 ∷ 999 ∷ 999 ∷ 999 ∷ 999 ∷ 999 ∷ 6 ∷ 6 ∷ []) ∷
    (3 ∷ 3 ∷ 3 ∷ 3 ∷ 4 ∷ 5 ∷ 6 ∷ 3 ∷ 8 ∷ 9 ∷ 10 ∷ 3 ∷ 5 ∷ 999 ∷ 999 ∷ 999 ∷ 999 ∷ 999 ∷ 999 ∷ 999 ∷ 999 ∷ 999 ∷ 999 ∷ 999 ∷ 999 ∷ 3 ∷ 3 ∷ []) ∷
    (8 ∷ 8 ∷ 8 ∷ 8 ∷ 8 ∷ 8 ∷ 8 ∷ 8 ∷ 8 ∷ 9 ∷ 10 ∷ 8 ∷ 8 ∷ 999 ∷ 999 ∷ 999 ∷ 999 ∷ 999 ∷ 999 ∷ 999 ∷ 999 ∷ 999 ∷ 999 ∷ 999 ∷ 999 ∷ 8 ∷ 8 ∷ []) ∷
    (9 ∷ 9 ∷ 9 ∷ 9 ∷ 9 ∷ 9 ∷ 9 ∷ 9 ∷ 9 ∷ 9 ∷ 10 ∷ 9 ∷ 9 ∷ 999 ∷ 999 ∷ 999 ∷ 999 ∷ 999 ∷ 999 ∷ 999 ∷ 999 ∷ 999 ∷ 999 ∷ 999 ∷ 999 ∷ 9 ∷ 9 ∷ []) ∷
    (10 ∷ 10 ∷ 10 ∷ 10 ∷ 10 ∷ 10 ∷ 10 ∷ 10 ∷ 10 ∷ 10 ∷ 10 ∷ 10 ∷ 10 ∷ 999 ∷ 999 ∷ 999 ∷ 999 ∷ 999 ∷ 999 ∷ 999 ∷ 999 ∷ 999 ∷ 999 ∷ 999 ∷ 999 ∷ 10 ∷ 10 ∷ []) ∷
    (3 ∷ 3 ∷ 3 ∷ 3 ∷ 4 ∷ 5 ∷ 6 ∷ 3 ∷ 8 ∷ 9 ∷ 10 ∷ 3 ∷ 5 ∷ 999 ∷ 999 ∷ 999 ∷ 999 ∷ 999 ∷ 999 ∷ 999 ∷ 999 ∷ 999 ∷ 999 ∷ 999 ∷ 999 ∷ 3 ∷ 3 ∷ []) ∷
    (5 ∷ 5 ∷ 5 ∷ 5 ∷ 5 ∷ 5 ∷ 6 ∷ 5 ∷ 8 ∷ 9 ∷ 10 ∷ 5 ∷ 5 ∷ 999 ∷ 999 ∷ 999 ∷ 999 ∷ 999 ∷ 999 ∷ 999 ∷ 999 ∷ 999 ∷ 999 ∷ 999 ∷ 999 ∷ 5 ∷ 5 ∷ []) ∷
    (999 ∷ 999 ∷ 999 ∷ 999 ∷ 999 ∷ 999 ∷ 999 ∷ 999 ∷ 999 ∷ 999 ∷ 999 ∷ 999 ∷ 999 ∷ 999 ∷ 999 ∷ 999 ∷ 999 ∷ 999 ∷ 999 ∷ 999 ∷ 999 ∷ 999 ∷ 999 ∷ 999 ∷ 999 ∷ 999 ∷ 999 ∷ []) ∷
    (999 ∷ 999 ∷ 999 ∷ 999 ∷ 999 ∷ 999 ∷ 999 ∷ 999 ∷ 999 ∷ 999 ∷ 999 ∷ 999 ∷ 999 ∷ 999 ∷ 999 ∷ 999 ∷ 999 ∷ 999 ∷ 999 ∷ 999 ∷ 999 ∷ 999 ∷ 999 ∷ 999 ∷ 999 ∷ 999 ∷ 999 ∷ []) ∷
    (999 ∷ 999 ∷ 999 ∷ 999 ∷ 999 ∷ 999 ∷ 999 ∷ 999 ∷ 999 ∷ 999 ∷ 999 ∷ 999 ∷ 999 ∷ 999 ∷ 999 ∷ 999 ∷ 999 ∷ 999 ∷ 999 ∷ 999 ∷ 999 ∷ 999 ∷ 999 ∷ 999 ∷ 999 ∷ 999 ∷ 999 ∷ []) ∷
    (999 ∷ 999 ∷ 999 ∷ 999 ∷ 999 ∷ 999 ∷ 999 ∷ 999 ∷ 999 ∷ 999 ∷ 999 ∷ 999 ∷ 999 ∷ 999 ∷ 999 ∷ 999 ∷ 999 ∷ 999 ∷ 999 ∷ 999 ∷ 999 ∷ 999 ∷ 999 ∷ 999 ∷ 999 ∷ 999 ∷ 999 ∷ []) ∷
    (999 ∷ 999 ∷ 999 ∷ 999 ∷ 999 ∷ 999 ∷ 999 ∷ 999 ∷ 999 ∷ 999 ∷ 999 ∷ 999 ∷ 999 ∷ 999 ∷ 999 ∷ 999 ∷ 999 ∷ 999 ∷ 999 ∷ 999 ∷ 999 ∷ 999 ∷ 999 ∷ 999 ∷ 999 ∷ 999 ∷ 999 ∷ []) ∷
    (999 ∷ 999 ∷ 999 ∷ 999 ∷ 999 ∷ 999 ∷ 999 ∷ 999 ∷ 999 ∷ 999 ∷ 999 ∷ 999 ∷ 999 ∷ 999 ∷ 999 ∷ 999 ∷ 999 ∷ 999 ∷ 999 ∷ 999 ∷ 999 ∷ 999 ∷ 999 ∷ 999 ∷ 999 ∷ 999 ∷ 999 ∷ []) ∷
    (999 ∷ 999 ∷ 999 ∷ 999 ∷ 999 ∷ 999 ∷ 999 ∷ 999 ∷ 999 ∷ 999 ∷ 999 ∷ 999 ∷ 999 ∷ 999 ∷ 999 ∷ 999 ∷ 999 ∷ 999 ∷ 999 ∷ 999 ∷ 999 ∷ 999 ∷ 999 ∷ 999 ∷ 999 ∷ 999 ∷ 999 ∷ []) ∷
    (999 ∷ 999 ∷ 999 ∷ 999 ∷ 999 ∷ 999 ∷ 999 ∷ 999 ∷ 999 ∷ 999 ∷ 999 ∷ 999 ∷ 999 ∷ 999 ∷ 999 ∷ 999 ∷ 999 ∷ 999 ∷ 999 ∷ 999 ∷ 999 ∷ 999 ∷ 999 ∷ 999 ∷ 999 ∷ 999 ∷ 999 ∷ []) ∷
    (999 ∷ 999 ∷ 999 ∷ 999 ∷ 999 ∷ 999 ∷ 999 ∷ 999 ∷ 999 ∷ 999 ∷ 999 ∷ 999 ∷ 999 ∷ 999 ∷ 999 ∷ 999 ∷ 999 ∷ 999 ∷ 999 ∷ 999 ∷ 999 ∷ 999 ∷ 999 ∷ 999 ∷ 999 ∷ 999 ∷ 999 ∷ []) ∷
    (999 ∷ 999 ∷ 999 ∷ 999 ∷ 999 ∷ 999 ∷ 999 ∷ 999 ∷ 999 ∷ 999 ∷ 999 ∷ 999 ∷ 999 ∷ 999 ∷ 999 ∷ 999 ∷ 999 ∷ 999 ∷ 999 ∷ 999 ∷ 999 ∷ 999 ∷ 999 ∷ 999 ∷ 999 ∷ 999 ∷ 999 ∷ []) ∷
    (999 ∷ 999 ∷ 999 ∷ 999 ∷ 999 ∷ 999 ∷ 999 ∷ 999 ∷ 999 ∷ 999 ∷ 999 ∷ 999 ∷ 999 ∷ 999 ∷ 999 ∷ 999 ∷ 999 ∷ 999 ∷ 999 ∷ 999 ∷ 999 ∷ 999 ∷ 999 ∷ 999 ∷ 999 ∷ 999 ∷ 999 ∷ []) ∷
    (999 ∷ 999 ∷ 999 ∷ 999 ∷ 999 ∷ 999 ∷ 999 ∷ 999 ∷ 999 ∷ 999 ∷ 999 ∷ 999 ∷ 999 ∷ 999 ∷ 999 ∷ 999 ∷ 999 ∷ 999 ∷ 999 ∷ 999 ∷ 999 ∷ 999 ∷ 999 ∷ 999 ∷ 999 ∷ 999 ∷ 999 ∷ []) ∷
    (3 ∷ 3 ∷ 3 ∷ 3 ∷ 4 ∷ 5 ∷ 6 ∷ 3 ∷ 8 ∷ 9 ∷ 10 ∷ 3 ∷ 5 ∷ 999 ∷ 999 ∷ 999 ∷ 999 ∷ 999 ∷ 999 ∷ 999 ∷ 999 ∷ 999 ∷ 999 ∷ 999 ∷ 999 ∷ 3 ∷ 3 ∷ []) ∷
    (3 ∷ 3 ∷ 3 ∷ 3 ∷ 4 ∷ 5 ∷ 6 ∷ 3 ∷ 8 ∷ 9 ∷ 10 ∷ 3 ∷ 5 ∷ 999 ∷ 999 ∷ 999 ∷ 999 ∷ 999 ∷ 999 ∷ 999 ∷ 999 ∷ 999 ∷ 999 ∷ 999 ∷ 999 ∷ 3 ∷ 3 ∷ []) ∷ []) ≡ []
unfolding standard_sequence steps_between steps_of_reference steps_by_relation steps_of_unrelated steps_of_related related related_kinds steps_of_value steps_by_kinds steps_to_class steps_to_scalar class_step value_step steps_of_kinds steps_of_pointer steps_of_enumeration steps_of_arithmetic is_text step_of_enumeration steps_of_pointers pointer_to_other pointer_to_class is_derived is_pending promoted built_in_result unary_result unary_family_result unary_by follow is_stepped steps_to before after binary_result family_result compound_result compound compound_on binary_by subscripted added added_to subtracted distance beside_integer compared_by compared_pointers assigned usual common_pointer common_other common_class both_ready is_complete_object is_complete_class conditional arms_of arms_of_arithmetic arms_of_enumeration arms_of_pointer arms_of_void shared_pointers
binary_STAR = refl

-- /, a line for each left operand
binary_SLASH : binary_of punct.SLASH (
    (3 ∷ 3 ∷ 3 ∷ 3 ∷ 4 ∷ 5 ∷ 6 ∷ 3 ∷ 8 ∷ 9 ∷ 10 ∷ 3 ∷ 5 ∷ 999 ∷ 999 ∷ 999 ∷ 999 ∷ 999 ∷ 999 ∷ 999 ∷ 999 ∷ 999 ∷ 999 ∷ 999 ∷ 999 ∷ 3 ∷ 3 ∷ []) ∷
    (3 ∷ 3 ∷ 3 ∷ 3 ∷ 4 ∷ 5 ∷ 6 ∷ 3 ∷ 8 ∷ 9 ∷ 10 ∷ 3 ∷ 5 ∷ 999 ∷ 999 ∷ 999 ∷ 999 ∷ 999 ∷ 999 ∷ 999 ∷ 999 ∷ 999 ∷ 999 ∷ 999 ∷ 999 ∷ 3 ∷ 3 ∷ []) ∷
    (3 ∷ 3 ∷ 3 ∷ 3 ∷ 4 ∷ 5 ∷ 6 ∷ 3 ∷ 8 ∷ 9 ∷ 10 ∷ 3 ∷ 5 ∷ 999 ∷ 999 ∷ 999 ∷ 999 ∷ 999 ∷ 999 ∷ 999 ∷ 999 ∷ 999 ∷ 999 ∷ 999 ∷ 999 ∷ 3 ∷ 3 ∷ []) ∷
    (3 ∷ 3 ∷ 3 ∷ 3 ∷ 4 ∷ 5 ∷ 6 ∷ 3 ∷ 8 ∷ 9 ∷ 10 ∷ 3 ∷ 5 ∷ 999 ∷ 999 ∷ 999 ∷ 999 ∷ 999 ∷ 999 ∷ 999 ∷ 999 ∷ 999 ∷ 999 ∷ 999 ∷ 999 ∷ 3 ∷ 3 ∷ []) ∷
    (4 ∷ 4 ∷ 4 ∷ 4 ∷ 4 ∷ 5 ∷ 6 ∷ 4 ∷ 8 ∷ 9 ∷ 10 ∷ 4 ∷ 5 ∷ 999 ∷ 999 ∷ 999 ∷ 999 ∷ 999 ∷ 999 ∷ 999 ∷ 999 ∷ 999 ∷ 999 ∷ 999 ∷ 999 ∷ 4 ∷ 4 ∷ []) ∷
    (5 ∷ 5 ∷ 5 ∷ 5 ∷ 5 ∷ 5 ∷ 6 ∷ 5 ∷ 8 ∷ 9 ∷ 10 ∷ 5 ∷ 5 ∷ 999 ∷ 999 ∷ 999 ∷ 999 ∷ 999 ∷ 999 ∷ 999 ∷ 999 ∷ 999 ∷ 999 ∷ 999 ∷ 999 ∷ 5 ∷ 5 ∷ []) ∷
    (6 ∷ 6 ∷ 6 ∷ 6 ∷ 6 ∷ 6 ∷ 6 ∷ 6 ∷ 8 ∷ 9 ∷ 10 ∷ 6 ∷ 6 ∷ 999 ∷ 999 ∷ 999 ∷ 999 ∷ 999 ∷ 999 ∷ 999 ∷ 999 ∷ 999 ∷ 999 ∷ 999 ∷ 999 ∷ 6 ∷ 6 ∷ []) ∷
    (3 ∷ 3 ∷ 3 ∷ 3 ∷ 4 ∷ 5 ∷ 6 ∷ 3 ∷ 8 ∷ 9 ∷ 10 ∷ 3 ∷ 5 ∷ 999 ∷ 999 ∷ 999 ∷ 999 ∷ 999 ∷ 999 ∷ 999 ∷ 999 ∷ 999 ∷ 999 ∷ 999 ∷ 999 ∷ 3 ∷ 3 ∷ []) ∷
    (8 ∷ 8 ∷ 8 ∷ 8 ∷ 8 ∷ 8 ∷ 8 ∷ 8 ∷ 8 ∷ 9 ∷ 10 ∷ 8 ∷ 8 ∷ 999 ∷ 999 ∷ 999 ∷ 999 ∷ 999 ∷ 999 ∷ 999 ∷ 999 ∷ 999 ∷ 999 ∷ 999 ∷ 999 ∷ 8 ∷ 8 ∷ []) ∷
    (9 ∷ 9 ∷ 9 ∷ 9 ∷ 9 ∷ 9 ∷ 9 ∷ 9 ∷ 9 ∷ 9 ∷ 10 ∷ 9 ∷ 9 ∷ 999 ∷ 999 ∷ 999 ∷ 999 ∷ 999 ∷ 999 ∷ 999 ∷ 999 ∷ 999 ∷ 999 ∷ 999 ∷ 999 ∷ 9 ∷ 9 ∷ []) ∷
    (10 ∷ 10 ∷ 10 ∷ 10 ∷ 10 ∷ 10 ∷ 10 ∷ 10 ∷ 10 ∷ 10 ∷ 10 ∷ 10 ∷ 10 ∷ 999 ∷ 999 ∷ 999 ∷ 999 ∷ 999 ∷ 999 ∷ 999 ∷ 999 ∷ 999 ∷ 999 ∷ 999 ∷ 999 ∷ 10 ∷ 10 ∷ []) ∷
    (3 ∷ 3 ∷ 3 ∷ 3 ∷ 4 ∷ 5 ∷ 6 ∷ 3 ∷ 8 ∷ 9 ∷ 10 ∷ 3 ∷ 5 ∷ 999 ∷ 999 ∷ 999 ∷ 999 ∷ 999 ∷ 999 ∷ 999 ∷ 999 ∷ 999 ∷ 999 ∷ 999 ∷ 999 ∷ 3 ∷ 3 ∷ []) ∷
    (5 ∷ 5 ∷ 5 ∷ 5 ∷ 5 ∷ 5 ∷ 6 ∷ 5 ∷ 8 ∷ 9 ∷ 10 ∷ 5 ∷ 5 ∷ 999 ∷ 999 ∷ 999 ∷ 999 ∷ 999 ∷ 999 ∷ 999 ∷ 999 ∷ 999 ∷ 999 ∷ 999 ∷ 999 ∷ 5 ∷ 5 ∷ []) ∷
    (999 ∷ 999 ∷ 999 ∷ 999 ∷ 999 ∷ 999 ∷ 999 ∷ 999 ∷ 999 ∷ 999 ∷ 999 ∷ 999 ∷ 999 ∷ 999 ∷ 999 ∷ 999 ∷ 999 ∷ 999 ∷ 999 ∷ 999 ∷ 999 ∷ 999 ∷ 999 ∷ 999 ∷ 999 ∷ 999 ∷ 999 ∷ []) ∷
    (999 ∷ 999 ∷ 999 ∷ 999 ∷ 999 ∷ 999 ∷ 999 ∷ 999 ∷ 999 ∷ 999 ∷ 999 ∷ 999 ∷ 999 ∷ 999 ∷ 999 ∷ 999 ∷ 999 ∷ 999 ∷ 999 ∷ 999 ∷ 999 ∷ 999 ∷ 999 ∷ 999 ∷ 999 ∷ 999 ∷ 999 ∷ []) ∷
    (999 ∷ 999 ∷ 999 ∷ 999 ∷ 999 ∷ 999 ∷ 999 ∷ 999 ∷ 999 ∷ 999 ∷ 999 ∷ 999 ∷ 999 ∷ 999 ∷ 999 ∷ 999 ∷ 999 ∷ 999 ∷ 999 ∷ 999 ∷ 999 ∷ 999 ∷ 999 ∷ 999 ∷ 999 ∷ 999 ∷ 999 ∷ []) ∷
    (999 ∷ 999 ∷ 999 ∷ 999 ∷ 999 ∷ 999 ∷ 999 ∷ 999 ∷ 999 ∷ 999 ∷ 999 ∷ 999 ∷ 999 ∷ 999 ∷ 999 ∷ 999 ∷ 999 ∷ 999 ∷ 999 ∷ 999 ∷ 999 ∷ 999 ∷ 999 ∷ 999 ∷ 999 ∷ 999 ∷ 999 ∷ []) ∷
    (999 ∷ 999 ∷ 999 ∷ 999 ∷ 999 ∷ 999 ∷ 999 ∷ 999 ∷ 999 ∷ 999 ∷ 999 ∷ 999 ∷ 999 ∷ 999 ∷ 999 ∷ 999 ∷ 999 ∷ 999 ∷ 999 ∷ 999 ∷ 999 ∷ 999 ∷ 999 ∷ 999 ∷ 999 ∷ 999 ∷ 999 ∷ []) ∷
    (999 ∷ 999 ∷ 999 ∷ 999 ∷ 999 ∷ 999 ∷ 999 ∷ 999 ∷ 999 ∷ 999 ∷ 999 ∷ 999 ∷ 999 ∷ 999 ∷ 999 ∷ 999 ∷ 999 ∷ 999 ∷ 999 ∷ 999 ∷ 999 ∷ 999 ∷ 999 ∷ 999 ∷ 999 ∷ 999 ∷ 999 ∷ []) ∷
    (999 ∷ 999 ∷ 999 ∷ 999 ∷ 999 ∷ 999 ∷ 999 ∷ 999 ∷ 999 ∷ 999 ∷ 999 ∷ 999 ∷ 999 ∷ 999 ∷ 999 ∷ 999 ∷ 999 ∷ 999 ∷ 999 ∷ 999 ∷ 999 ∷ 999 ∷ 999 ∷ 999 ∷ 999 ∷ 999 ∷ 999 ∷ []) ∷
    (999 ∷ 999 ∷ 999 ∷ 999 ∷ 999 ∷ 999 ∷ 999 ∷ 999 ∷ 999 ∷ 999 ∷ 999 ∷ 999 ∷ 999 ∷ 999 ∷ 999 ∷ 999 ∷ 999 ∷ 999 ∷ 999 ∷ 999 ∷ 999 ∷ 999 ∷ 999 ∷ 999 ∷ 999 ∷ 999 ∷ 999 ∷ []) ∷
    (999 ∷ 999 ∷ 999 ∷ 999 ∷ 999 ∷ 999 ∷ 999 ∷ 999 ∷ 999 ∷ 999 ∷ 999 ∷ 999 ∷ 999 ∷ 999 ∷ 999 ∷ 999 ∷ 999 ∷ 999 ∷ 999 ∷ 999 ∷ 999 ∷ 999 ∷ 999 ∷ 999 ∷ 999 ∷ 999 ∷ 999 ∷ []) ∷
    (999 ∷ 999 ∷ 999 ∷ 999 ∷ 999 ∷ 999 ∷ 999 ∷ 999 ∷ 999 ∷ 999 ∷ 999 ∷ 999 ∷ 999 ∷ 999 ∷ 999 ∷ 999 ∷ 999 ∷ 999 ∷ 999 ∷ 999 ∷ 999 ∷ 999 ∷ 999 ∷ 999 ∷ 999 ∷ 999 ∷ 999 ∷ []) ∷
    (999 ∷ 999 ∷ 999 ∷ 999 ∷ 999 ∷ 999 ∷ 999 ∷ 999 ∷ 999 ∷ 999 ∷ 999 ∷ 999 ∷ 999 ∷ 999 ∷ 999 ∷ 999 ∷ 999 ∷ 999 ∷ 999 ∷ 999 ∷ 999 ∷ 999 ∷ 999 ∷ 999 ∷ 999 ∷ 999 ∷ 999 ∷ []) ∷
    (999 ∷ 999 ∷ 999 ∷ 999 ∷ 999 ∷ 999 ∷ 999 ∷ 999 ∷ 999 ∷ 999 ∷ 999 ∷ 999 ∷ 999 ∷ 999 ∷ 999 ∷ 999 ∷ 999 ∷ 999 ∷ 999 ∷ 999 ∷ 999 ∷ 999 ∷ 999 ∷ 999 ∷ 999 ∷ 999 ∷ 999 ∷ []) ∷
    (3 ∷ 3 ∷ 3 ∷ 3 ∷ 4 ∷ 5 ∷ 6 ∷ 3 ∷ 8 ∷ 9 ∷ 10 ∷ 3 ∷ 5 ∷ 999 ∷ 999 ∷ 999 ∷ 999 ∷ 999 ∷ 999 ∷ 999 ∷ 999 ∷ 999 ∷ 999 ∷ 999 ∷ 999 ∷ 3 ∷ 3 ∷ []) ∷
    (3 ∷ 3 ∷ 3 ∷ 3 ∷ 4 ∷ 5 ∷ 6 ∷ 3 ∷ 8 ∷ 9 ∷ 10 ∷ 3 ∷ 5 ∷ 999 ∷ 999 ∷ 999 ∷ 999 ∷ 999 ∷ 999 ∷ 999 ∷ 999 ∷ 999 ∷ 999 ∷ 999 ∷ 999 ∷ 3 ∷ 3 ∷ []) ∷ []) ≡ []
unfolding standard_sequence steps_between steps_of_reference steps_by_relation steps_of_unrelated steps_of_related related related_kinds steps_of_value steps_by_kinds steps_to_class steps_to_scalar class_step value_step steps_of_kinds steps_of_pointer steps_of_enumeration steps_of_arithmetic is_text step_of_enumeration steps_of_pointers pointer_to_other pointer_to_class is_derived is_pending promoted built_in_result unary_result unary_family_result unary_by follow is_stepped steps_to before after binary_result family_result compound_result compound compound_on binary_by subscripted added added_to subtracted distance beside_integer compared_by compared_pointers assigned usual common_pointer common_other common_class both_ready is_complete_object is_complete_class conditional arms_of arms_of_arithmetic arms_of_enumeration arms_of_pointer arms_of_void shared_pointers
binary_SLASH = refl

-- %, a line for each left operand
binary_PERCENT : binary_of punct.PERCENT (
    (3 ∷ 3 ∷ 3 ∷ 3 ∷ 4 ∷ 5 ∷ 6 ∷ 3 ∷ 999 ∷ 999 ∷ 999 ∷ 3 ∷ 5 ∷ 999 ∷ 999 ∷ 999 ∷ 999 ∷ 999 ∷ 999 ∷ 999 ∷ 999 ∷ 999 ∷ 999 ∷ 999 ∷ 999 ∷ 3 ∷ 3 ∷ []) ∷
    (3 ∷ 3 ∷ 3 ∷ 3 ∷ 4 ∷ 5 ∷ 6 ∷ 3 ∷ 999 ∷ 999 ∷ 999 ∷ 3 ∷ 5 ∷ 999 ∷ 999 ∷ 999 ∷ 999 ∷ 999 ∷ 999 ∷ 999 ∷ 999 ∷ 999 ∷ 999 ∷ 999 ∷ 999 ∷ 3 ∷ 3 ∷ []) ∷
    (3 ∷ 3 ∷ 3 ∷ 3 ∷ 4 ∷ 5 ∷ 6 ∷ 3 ∷ 999 ∷ 999 ∷ 999 ∷ 3 ∷ 5 ∷ 999 ∷ 999 ∷ 999 ∷ 999 ∷ 999 ∷ 999 ∷ 999 ∷ 999 ∷ 999 ∷ 999 ∷ 999 ∷ 999 ∷ 3 ∷ 3 ∷ []) ∷
    (3 ∷ 3 ∷ 3 ∷ 3 ∷ 4 ∷ 5 ∷ 6 ∷ 3 ∷ 999 ∷ 999 ∷ 999 ∷ 3 ∷ 5 ∷ 999 ∷ 999 ∷ 999 ∷ 999 ∷ 999 ∷ 999 ∷ 999 ∷ 999 ∷ 999 ∷ 999 ∷ 999 ∷ 999 ∷ 3 ∷ 3 ∷ []) ∷
    (4 ∷ 4 ∷ 4 ∷ 4 ∷ 4 ∷ 5 ∷ 6 ∷ 4 ∷ 999 ∷ 999 ∷ 999 ∷ 4 ∷ 5 ∷ 999 ∷ 999 ∷ 999 ∷ 999 ∷ 999 ∷ 999 ∷ 999 ∷ 999 ∷ 999 ∷ 999 ∷ 999 ∷ 999 ∷ 4 ∷ 4 ∷ []) ∷
    (5 ∷ 5 ∷ 5 ∷ 5 ∷ 5 ∷ 5 ∷ 6 ∷ 5 ∷ 999 ∷ 999 ∷ 999 ∷ 5 ∷ 5 ∷ 999 ∷ 999 ∷ 999 ∷ 999 ∷ 999 ∷ 999 ∷ 999 ∷ 999 ∷ 999 ∷ 999 ∷ 999 ∷ 999 ∷ 5 ∷ 5 ∷ []) ∷
    (6 ∷ 6 ∷ 6 ∷ 6 ∷ 6 ∷ 6 ∷ 6 ∷ 6 ∷ 999 ∷ 999 ∷ 999 ∷ 6 ∷ 6 ∷ 999 ∷ 999 ∷ 999 ∷ 999 ∷ 999 ∷ 999 ∷ 999 ∷ 999 ∷ 999 ∷ 999 ∷ 999 ∷ 999 ∷ 6 ∷ 6 ∷ []) ∷
    (3 ∷ 3 ∷ 3 ∷ 3 ∷ 4 ∷ 5 ∷ 6 ∷ 3 ∷ 999 ∷ 999 ∷ 999 ∷ 3 ∷ 5 ∷ 999 ∷ 999 ∷ 999 ∷ 999 ∷ 999 ∷ 999 ∷ 999 ∷ 999 ∷ 999 ∷ 999 ∷ 999 ∷ 999 ∷ 3 ∷ 3 ∷ []) ∷
    (999 ∷ 999 ∷ 999 ∷ 999 ∷ 999 ∷ 999 ∷ 999 ∷ 999 ∷ 999 ∷ 999 ∷ 999 ∷ 999 ∷ 999 ∷ 999 ∷ 999 ∷ 999 ∷ 999 ∷ 999 ∷ 999 ∷ 999 ∷ 999 ∷ 999 ∷ 999 ∷ 999 ∷ 999 ∷ 999 ∷ 999 ∷ []) ∷
    (999 ∷ 999 ∷ 999 ∷ 999 ∷ 999 ∷ 999 ∷ 999 ∷ 999 ∷ 999 ∷ 999 ∷ 999 ∷ 999 ∷ 999 ∷ 999 ∷ 999 ∷ 999 ∷ 999 ∷ 999 ∷ 999 ∷ 999 ∷ 999 ∷ 999 ∷ 999 ∷ 999 ∷ 999 ∷ 999 ∷ 999 ∷ []) ∷
    (999 ∷ 999 ∷ 999 ∷ 999 ∷ 999 ∷ 999 ∷ 999 ∷ 999 ∷ 999 ∷ 999 ∷ 999 ∷ 999 ∷ 999 ∷ 999 ∷ 999 ∷ 999 ∷ 999 ∷ 999 ∷ 999 ∷ 999 ∷ 999 ∷ 999 ∷ 999 ∷ 999 ∷ 999 ∷ 999 ∷ 999 ∷ []) ∷
    (3 ∷ 3 ∷ 3 ∷ 3 ∷ 4 ∷ 5 ∷ 6 ∷ 3 ∷ 999 ∷ 999 ∷ 999 ∷ 3 ∷ 5 ∷ 999 ∷ 999 ∷ 999 ∷ 999 ∷ 999 ∷ 999 ∷ 999 ∷ 999 ∷ 999 ∷ 999 ∷ 999 ∷ 999 ∷ 3 ∷ 3 ∷ []) ∷
    (5 ∷ 5 ∷ 5 ∷ 5 ∷ 5 ∷ 5 ∷ 6 ∷ 5 ∷ 999 ∷ 999 ∷ 999 ∷ 5 ∷ 5 ∷ 999 ∷ 999 ∷ 999 ∷ 999 ∷ 999 ∷ 999 ∷ 999 ∷ 999 ∷ 999 ∷ 999 ∷ 999 ∷ 999 ∷ 5 ∷ 5 ∷ []) ∷
    (999 ∷ 999 ∷ 999 ∷ 999 ∷ 999 ∷ 999 ∷ 999 ∷ 999 ∷ 999 ∷ 999 ∷ 999 ∷ 999 ∷ 999 ∷ 999 ∷ 999 ∷ 999 ∷ 999 ∷ 999 ∷ 999 ∷ 999 ∷ 999 ∷ 999 ∷ 999 ∷ 999 ∷ 999 ∷ 999 ∷ 999 ∷ []) ∷
    (999 ∷ 999 ∷ 999 ∷ 999 ∷ 999 ∷ 999 ∷ 999 ∷ 999 ∷ 999 ∷ 999 ∷ 999 ∷ 999 ∷ 999 ∷ 999 ∷ 999 ∷ 999 ∷ 999 ∷ 999 ∷ 999 ∷ 999 ∷ 999 ∷ 999 ∷ 999 ∷ 999 ∷ 999 ∷ 999 ∷ 999 ∷ []) ∷
    (999 ∷ 999 ∷ 999 ∷ 999 ∷ 999 ∷ 999 ∷ 999 ∷ 999 ∷ 999 ∷ 999 ∷ 999 ∷ 999 ∷ 999 ∷ 999 ∷ 999 ∷ 999 ∷ 999 ∷ 999 ∷ 999 ∷ 999 ∷ 999 ∷ 999 ∷ 999 ∷ 999 ∷ 999 ∷ 999 ∷ 999 ∷ []) ∷
    (999 ∷ 999 ∷ 999 ∷ 999 ∷ 999 ∷ 999 ∷ 999 ∷ 999 ∷ 999 ∷ 999 ∷ 999 ∷ 999 ∷ 999 ∷ 999 ∷ 999 ∷ 999 ∷ 999 ∷ 999 ∷ 999 ∷ 999 ∷ 999 ∷ 999 ∷ 999 ∷ 999 ∷ 999 ∷ 999 ∷ 999 ∷ []) ∷
    (999 ∷ 999 ∷ 999 ∷ 999 ∷ 999 ∷ 999 ∷ 999 ∷ 999 ∷ 999 ∷ 999 ∷ 999 ∷ 999 ∷ 999 ∷ 999 ∷ 999 ∷ 999 ∷ 999 ∷ 999 ∷ 999 ∷ 999 ∷ 999 ∷ 999 ∷ 999 ∷ 999 ∷ 999 ∷ 999 ∷ 999 ∷ []) ∷
    (999 ∷ 999 ∷ 999 ∷ 999 ∷ 999 ∷ 999 ∷ 999 ∷ 999 ∷ 999 ∷ 999 ∷ 999 ∷ 999 ∷ 999 ∷ 999 ∷ 999 ∷ 999 ∷ 999 ∷ 999 ∷ 999 ∷ 999 ∷ 999 ∷ 999 ∷ 999 ∷ 999 ∷ 999 ∷ 999 ∷ 999 ∷ []) ∷
    (999 ∷ 999 ∷ 999 ∷ 999 ∷ 999 ∷ 999 ∷ 999 ∷ 999 ∷ 999 ∷ 999 ∷ 999 ∷ 999 ∷ 999 ∷ 999 ∷ 999 ∷ 999 ∷ 999 ∷ 999 ∷ 999 ∷ 999 ∷ 999 ∷ 999 ∷ 999 ∷ 999 ∷ 999 ∷ 999 ∷ 999 ∷ []) ∷
    (999 ∷ 999 ∷ 999 ∷ 999 ∷ 999 ∷ 999 ∷ 999 ∷ 999 ∷ 999 ∷ 999 ∷ 999 ∷ 999 ∷ 999 ∷ 999 ∷ 999 ∷ 999 ∷ 999 ∷ 999 ∷ 999 ∷ 999 ∷ 999 ∷ 999 ∷ 999 ∷ 999 ∷ 999 ∷ 999 ∷ 999 ∷ []) ∷
    (999 ∷ 999 ∷ 999 ∷ 999 ∷ 999 ∷ 999 ∷ 999 ∷ 999 ∷ 999 ∷ 999 ∷ 999 ∷ 999 ∷ 999 ∷ 999 ∷ 999 ∷ 999 ∷ 999 ∷ 999 ∷ 999 ∷ 999 ∷ 999 ∷ 999 ∷ 999 ∷ 999 ∷ 999 ∷ 999 ∷ 999 ∷ []) ∷
    (999 ∷ 999 ∷ 999 ∷ 999 ∷ 999 ∷ 999 ∷ 999 ∷ 999 ∷ 999 ∷ 999 ∷ 999 ∷ 999 ∷ 999 ∷ 999 ∷ 999 ∷ 999 ∷ 999 ∷ 999 ∷ 999 ∷ 999 ∷ 999 ∷ 999 ∷ 999 ∷ 999 ∷ 999 ∷ 999 ∷ 999 ∷ []) ∷
    (999 ∷ 999 ∷ 999 ∷ 999 ∷ 999 ∷ 999 ∷ 999 ∷ 999 ∷ 999 ∷ 999 ∷ 999 ∷ 999 ∷ 999 ∷ 999 ∷ 999 ∷ 999 ∷ 999 ∷ 999 ∷ 999 ∷ 999 ∷ 999 ∷ 999 ∷ 999 ∷ 999 ∷ 999 ∷ 999 ∷ 999 ∷ []) ∷
    (999 ∷ 999 ∷ 999 ∷ 999 ∷ 999 ∷ 999 ∷ 999 ∷ 999 ∷ 999 ∷ 999 ∷ 999 ∷ 999 ∷ 999 ∷ 999 ∷ 999 ∷ 999 ∷ 999 ∷ 999 ∷ 999 ∷ 999 ∷ 999 ∷ 999 ∷ 999 ∷ 999 ∷ 999 ∷ 999 ∷ 999 ∷ []) ∷
    (3 ∷ 3 ∷ 3 ∷ 3 ∷ 4 ∷ 5 ∷ 6 ∷ 3 ∷ 999 ∷ 999 ∷ 999 ∷ 3 ∷ 5 ∷ 999 ∷ 999 ∷ 999 ∷ 999 ∷ 999 ∷ 999 ∷ 999 ∷ 999 ∷ 999 ∷ 999 ∷ 999 ∷ 999 ∷ 3 ∷ 3 ∷ []) ∷
    (3 ∷ 3 ∷ 3 ∷ 3 ∷ 4 ∷ 5 ∷ 6 ∷ 3 ∷ 999 ∷ 999 ∷ 999 ∷ 3 ∷ 5 ∷ 999 ∷ 999 ∷ 999 ∷ 999 ∷ 999 ∷ 999 ∷ 999 ∷ 999 ∷ 999 ∷ 999 ∷ 999 ∷ 999 ∷ 3 ∷ 3 ∷ []) ∷ []) ≡ []
unfolding standard_sequence steps_between steps_of_reference steps_by_relation steps_of_unrelated steps_of_related related related_kinds steps_of_value steps_by_kinds steps_to_class steps_to_scalar class_step value_step steps_of_kinds steps_of_pointer steps_of_enumeration steps_of_arithmetic is_text step_of_enumeration steps_of_pointers pointer_to_other pointer_to_class is_derived is_pending promoted built_in_result unary_result unary_family_result unary_by follow is_stepped steps_to before after binary_result family_result compound_result compound compound_on binary_by subscripted added added_to subtracted distance beside_integer compared_by compared_pointers assigned usual common_pointer common_other common_class both_ready is_complete_object is_complete_class conditional arms_of arms_of_arithmetic arms_of_enumeration arms_of_pointer arms_of_void shared_pointers
binary_PERCENT = refl

-- +, a line for each left operand
binary_PLUS : binary_of punct.PLUS (
    (3 ∷ 3 ∷ 3 ∷ 3 ∷ 4 ∷ 5 ∷ 6 ∷ 3 ∷ 8 ∷ 9 ∷ 10 ∷ 3 ∷ 5 ∷ 13 ∷ 14 ∷ 15 ∷ 13 ∷ 16 ∷ 17 ∷ 998 ∷ 998 ∷ 998 ∷ 21 ∷ 23 ∷ 999 ∷ 3 ∷ 3 ∷ []) ∷
    (3 ∷ 3 ∷ 3 ∷ 3 ∷ 4 ∷ 5 ∷ 6 ∷ 3 ∷ 8 ∷ 9 ∷ 10 ∷ 3 ∷ 5 ∷ 13 ∷ 14 ∷ 15 ∷ 13 ∷ 16 ∷ 17 ∷ 998 ∷ 998 ∷ 998 ∷ 21 ∷ 23 ∷ 999 ∷ 3 ∷ 3 ∷ []) ∷
    (3 ∷ 3 ∷ 3 ∷ 3 ∷ 4 ∷ 5 ∷ 6 ∷ 3 ∷ 8 ∷ 9 ∷ 10 ∷ 3 ∷ 5 ∷ 13 ∷ 14 ∷ 15 ∷ 13 ∷ 16 ∷ 17 ∷ 998 ∷ 998 ∷ 998 ∷ 21 ∷ 23 ∷ 999 ∷ 3 ∷ 3 ∷ []) ∷
    (3 ∷ 3 ∷ 3 ∷ 3 ∷ 4 ∷ 5 ∷ 6 ∷ 3 ∷ 8 ∷ 9 ∷ 10 ∷ 3 ∷ 5 ∷ 13 ∷ 14 ∷ 15 ∷ 13 ∷ 16 ∷ 17 ∷ 998 ∷ 998 ∷ 998 ∷ 21 ∷ 23 ∷ 999 ∷ 3 ∷ 3 ∷ []) ∷
    (4 ∷ 4 ∷ 4 ∷ 4 ∷ 4 ∷ 5 ∷ 6 ∷ 4 ∷ 8 ∷ 9 ∷ 10 ∷ 4 ∷ 5 ∷ 13 ∷ 14 ∷ 15 ∷ 13 ∷ 16 ∷ 17 ∷ 998 ∷ 998 ∷ 998 ∷ 21 ∷ 23 ∷ 999 ∷ 4 ∷ 4 ∷ []) ∷
    (5 ∷ 5 ∷ 5 ∷ 5 ∷ 5 ∷ 5 ∷ 6 ∷ 5 ∷ 8 ∷ 9 ∷ 10 ∷ 5 ∷ 5 ∷ 13 ∷ 14 ∷ 15 ∷ 13 ∷ 16 ∷ 17 ∷ 998 ∷ 998 ∷ 998 ∷ 21 ∷ 23 ∷ 999 ∷ 5 ∷ 5 ∷ []) ∷
    (6 ∷ 6 ∷ 6 ∷ 6 ∷ 6 ∷ 6 ∷ 6 ∷ 6 ∷ 8 ∷ 9 ∷ 10 ∷ 6 ∷ 6 ∷ 13 ∷ 14 ∷ 15 ∷ 13 ∷ 16 ∷ 17 ∷ 998 ∷ 998 ∷ 998 ∷ 21 ∷ 23 ∷ 999 ∷ 6 ∷ 6 ∷ []) ∷
    (3 ∷ 3 ∷ 3 ∷ 3 ∷ 4 ∷ 5 ∷ 6 ∷ 3 ∷ 8 ∷ 9 ∷ 10 ∷ 3 ∷ 5 ∷ 13 ∷ 14 ∷ 15 ∷ 13 ∷ 16 ∷ 17 ∷ 998 ∷ 998 ∷ 998 ∷ 21 ∷ 23 ∷ 999 ∷ 3 ∷ 3 ∷ []) ∷
    (8 ∷ 8 ∷ 8 ∷ 8 ∷ 8 ∷ 8 ∷ 8 ∷ 8 ∷ 8 ∷ 9 ∷ 10 ∷ 8 ∷ 8 ∷ 999 ∷ 999 ∷ 999 ∷ 999 ∷ 999 ∷ 999 ∷ 999 ∷ 999 ∷ 999 ∷ 999 ∷ 999 ∷ 999 ∷ 8 ∷ 8 ∷ []) ∷
    (9 ∷ 9 ∷ 9 ∷ 9 ∷ 9 ∷ 9 ∷ 9 ∷ 9 ∷ 9 ∷ 9 ∷ 10 ∷ 9 ∷ 9 ∷ 999 ∷ 999 ∷ 999 ∷ 999 ∷ 999 ∷ 999 ∷ 999 ∷ 999 ∷ 999 ∷ 999 ∷ 999 ∷ 999 ∷ 9 ∷ 9 ∷ []) ∷
    (10 ∷ 10 ∷ 10 ∷ 10 ∷ 10 ∷ 10 ∷ 10 ∷ 10 ∷ 10 ∷ 10 ∷ 10 ∷ 10 ∷ 10 ∷ 999 ∷ 999 ∷ 999 ∷ 999 ∷ 999 ∷ 999 ∷ 999 ∷ 999 ∷ 999 ∷ 999 ∷ 999 ∷ 999 ∷ 10 ∷ 10 ∷ []) ∷
    (3 ∷ 3 ∷ 3 ∷ 3 ∷ 4 ∷ 5 ∷ 6 ∷ 3 ∷ 8 ∷ 9 ∷ 10 ∷ 3 ∷ 5 ∷ 13 ∷ 14 ∷ 15 ∷ 13 ∷ 16 ∷ 17 ∷ 999 ∷ 999 ∷ 999 ∷ 21 ∷ 23 ∷ 999 ∷ 3 ∷ 3 ∷ []) ∷
    (5 ∷ 5 ∷ 5 ∷ 5 ∷ 5 ∷ 5 ∷ 6 ∷ 5 ∷ 8 ∷ 9 ∷ 10 ∷ 5 ∷ 5 ∷ 13 ∷ 14 ∷ 15 ∷ 13 ∷ 16 ∷ 17 ∷ 999 ∷ 999 ∷ 999 ∷ 21 ∷ 23 ∷ 999 ∷ 5 ∷ 5 ∷ []) ∷
    (13 ∷ 13 ∷ 13 ∷ 13 ∷ 13 ∷ 13 ∷ 13 ∷ 13 ∷ 999 ∷ 999 ∷ 999 ∷ 13 ∷ 13 ∷ 999 ∷ 999 ∷ 999 ∷ 999 ∷ 999 ∷ 999 ∷ 999 ∷ 999 ∷ 999 ∷ 999 ∷ 999 ∷ 999 ∷ 13 ∷ 13 ∷ []) ∷
    (14 ∷ 14 ∷ 14 ∷ 14 ∷ 14 ∷ 14 ∷ 14 ∷ 14 ∷ 999 ∷ 999 ∷ 999 ∷ 14 ∷ 14 ∷ 999 ∷ 999 ∷ 999 ∷ 999 ∷ 999 ∷ 999 ∷ 999 ∷ 999 ∷ 999 ∷ 999 ∷ 999 ∷ 999 ∷ 14 ∷ 14 ∷ []) ∷
    (15 ∷ 15 ∷ 15 ∷ 15 ∷ 15 ∷ 15 ∷ 15 ∷ 15 ∷ 999 ∷ 999 ∷ 999 ∷ 15 ∷ 15 ∷ 999 ∷ 999 ∷ 999 ∷ 999 ∷ 999 ∷ 999 ∷ 999 ∷ 999 ∷ 999 ∷ 999 ∷ 999 ∷ 999 ∷ 15 ∷ 15 ∷ []) ∷
    (13 ∷ 13 ∷ 13 ∷ 13 ∷ 13 ∷ 13 ∷ 13 ∷ 13 ∷ 999 ∷ 999 ∷ 999 ∷ 13 ∷ 13 ∷ 999 ∷ 999 ∷ 999 ∷ 999 ∷ 999 ∷ 999 ∷ 999 ∷ 999 ∷ 999 ∷ 999 ∷ 999 ∷ 999 ∷ 13 ∷ 13 ∷ []) ∷
    (16 ∷ 16 ∷ 16 ∷ 16 ∷ 16 ∷ 16 ∷ 16 ∷ 16 ∷ 999 ∷ 999 ∷ 999 ∷ 16 ∷ 16 ∷ 999 ∷ 999 ∷ 999 ∷ 999 ∷ 999 ∷ 999 ∷ 999 ∷ 999 ∷ 999 ∷ 999 ∷ 999 ∷ 999 ∷ 16 ∷ 16 ∷ []) ∷
    (17 ∷ 17 ∷ 17 ∷ 17 ∷ 17 ∷ 17 ∷ 17 ∷ 17 ∷ 999 ∷ 999 ∷ 999 ∷ 17 ∷ 17 ∷ 999 ∷ 999 ∷ 999 ∷ 999 ∷ 999 ∷ 999 ∷ 999 ∷ 999 ∷ 999 ∷ 999 ∷ 999 ∷ 999 ∷ 17 ∷ 17 ∷ []) ∷
    (998 ∷ 998 ∷ 998 ∷ 998 ∷ 998 ∷ 998 ∷ 998 ∷ 998 ∷ 999 ∷ 999 ∷ 999 ∷ 999 ∷ 999 ∷ 999 ∷ 999 ∷ 999 ∷ 999 ∷ 999 ∷ 999 ∷ 999 ∷ 999 ∷ 999 ∷ 999 ∷ 999 ∷ 999 ∷ 998 ∷ 998 ∷ []) ∷
    (998 ∷ 998 ∷ 998 ∷ 998 ∷ 998 ∷ 998 ∷ 998 ∷ 998 ∷ 999 ∷ 999 ∷ 999 ∷ 999 ∷ 999 ∷ 999 ∷ 999 ∷ 999 ∷ 999 ∷ 999 ∷ 999 ∷ 999 ∷ 999 ∷ 999 ∷ 999 ∷ 999 ∷ 999 ∷ 998 ∷ 998 ∷ []) ∷
    (998 ∷ 998 ∷ 998 ∷ 998 ∷ 998 ∷ 998 ∷ 998 ∷ 998 ∷ 999 ∷ 999 ∷ 999 ∷ 999 ∷ 999 ∷ 999 ∷ 999 ∷ 999 ∷ 999 ∷ 999 ∷ 999 ∷ 999 ∷ 999 ∷ 999 ∷ 999 ∷ 999 ∷ 999 ∷ 998 ∷ 998 ∷ []) ∷
    (21 ∷ 21 ∷ 21 ∷ 21 ∷ 21 ∷ 21 ∷ 21 ∷ 21 ∷ 999 ∷ 999 ∷ 999 ∷ 21 ∷ 21 ∷ 999 ∷ 999 ∷ 999 ∷ 999 ∷ 999 ∷ 999 ∷ 999 ∷ 999 ∷ 999 ∷ 999 ∷ 999 ∷ 999 ∷ 21 ∷ 21 ∷ []) ∷
    (23 ∷ 23 ∷ 23 ∷ 23 ∷ 23 ∷ 23 ∷ 23 ∷ 23 ∷ 999 ∷ 999 ∷ 999 ∷ 23 ∷ 23 ∷ 999 ∷ 999 ∷ 999 ∷ 999 ∷ 999 ∷ 999 ∷ 999 ∷ 999 ∷ 999 ∷ 999 ∷ 999 ∷ 999 ∷ 23 ∷ 23 ∷ []) ∷
    (999 ∷ 999 ∷ 999 ∷ 999 ∷ 999 ∷ 999 ∷ 999 ∷ 999 ∷ 999 ∷ 999 ∷ 999 ∷ 999 ∷ 999 ∷ 999 ∷ 999 ∷ 999 ∷ 999 ∷ 999 ∷ 999 ∷ 999 ∷ 999 ∷ 999 ∷ 999 ∷ 999 ∷ 999 ∷ 999 ∷ 999 ∷ []) ∷
    (3 ∷ 3 ∷ 3 ∷ 3 ∷ 4 ∷ 5 ∷ 6 ∷ 3 ∷ 8 ∷ 9 ∷ 10 ∷ 3 ∷ 5 ∷ 13 ∷ 14 ∷ 15 ∷ 13 ∷ 16 ∷ 17 ∷ 998 ∷ 998 ∷ 998 ∷ 21 ∷ 23 ∷ 999 ∷ 3 ∷ 3 ∷ []) ∷
    (3 ∷ 3 ∷ 3 ∷ 3 ∷ 4 ∷ 5 ∷ 6 ∷ 3 ∷ 8 ∷ 9 ∷ 10 ∷ 3 ∷ 5 ∷ 13 ∷ 14 ∷ 15 ∷ 13 ∷ 16 ∷ 17 ∷ 998 ∷ 998 ∷ 998 ∷ 21 ∷ 23 ∷ 999 ∷ 3 ∷ 3 ∷ []) ∷ []) ≡ []
unfolding standard_sequence steps_between steps_of_reference steps_by_relation steps_of_unrelated steps_of_related related related_kinds steps_of_value steps_by_kinds steps_to_class steps_to_scalar class_step value_step steps_of_kinds steps_of_pointer steps_of_enumeration steps_of_arithmetic is_text step_of_enumeration steps_of_pointers pointer_to_other pointer_to_class is_derived is_pending promoted built_in_result unary_result unary_family_result unary_by follow is_stepped steps_to before after binary_result family_result compound_result compound compound_on binary_by subscripted added added_to subtracted distance beside_integer compared_by compared_pointers assigned usual common_pointer common_other common_class both_ready is_complete_object is_complete_class conditional arms_of arms_of_arithmetic arms_of_enumeration arms_of_pointer arms_of_void shared_pointers
binary_PLUS = refl

-- -, a line for each left operand
binary_MINUS : binary_of punct.MINUS (
    (3 ∷ 3 ∷ 3 ∷ 3 ∷ 4 ∷ 5 ∷ 6 ∷ 3 ∷ 8 ∷ 9 ∷ 10 ∷ 3 ∷ 5 ∷ 999 ∷ 999 ∷ 999 ∷ 999 ∷ 999 ∷ 999 ∷ 999 ∷ 999 ∷ 999 ∷ 999 ∷ 999 ∷ 999 ∷ 3 ∷ 3 ∷ []) ∷
    (3 ∷ 3 ∷ 3 ∷ 3 ∷ 4 ∷ 5 ∷ 6 ∷ 3 ∷ 8 ∷ 9 ∷ 10 ∷ 3 ∷ 5 ∷ 999 ∷ 999 ∷ 999 ∷ 999 ∷ 999 ∷ 999 ∷ 999 ∷ 999 ∷ 999 ∷ 999 ∷ 999 ∷ 999 ∷ 3 ∷ 3 ∷ []) ∷
    (3 ∷ 3 ∷ 3 ∷ 3 ∷ 4 ∷ 5 ∷ 6 ∷ 3 ∷ 8 ∷ 9 ∷ 10 ∷ 3 ∷ 5 ∷ 999 ∷ 999 ∷ 999 ∷ 999 ∷ 999 ∷ 999 ∷ 999 ∷ 999 ∷ 999 ∷ 999 ∷ 999 ∷ 999 ∷ 3 ∷ 3 ∷ []) ∷
    (3 ∷ 3 ∷ 3 ∷ 3 ∷ 4 ∷ 5 ∷ 6 ∷ 3 ∷ 8 ∷ 9 ∷ 10 ∷ 3 ∷ 5 ∷ 999 ∷ 999 ∷ 999 ∷ 999 ∷ 999 ∷ 999 ∷ 999 ∷ 999 ∷ 999 ∷ 999 ∷ 999 ∷ 999 ∷ 3 ∷ 3 ∷ []) ∷
    (4 ∷ 4 ∷ 4 ∷ 4 ∷ 4 ∷ 5 ∷ 6 ∷ 4 ∷ 8 ∷ 9 ∷ 10 ∷ 4 ∷ 5 ∷ 999 ∷ 999 ∷ 999 ∷ 999 ∷ 999 ∷ 999 ∷ 999 ∷ 999 ∷ 999 ∷ 999 ∷ 999 ∷ 999 ∷ 4 ∷ 4 ∷ []) ∷
    (5 ∷ 5 ∷ 5 ∷ 5 ∷ 5 ∷ 5 ∷ 6 ∷ 5 ∷ 8 ∷ 9 ∷ 10 ∷ 5 ∷ 5 ∷ 999 ∷ 999 ∷ 999 ∷ 999 ∷ 999 ∷ 999 ∷ 999 ∷ 999 ∷ 999 ∷ 999 ∷ 999 ∷ 999 ∷ 5 ∷ 5 ∷ []) ∷
    (6 ∷ 6 ∷ 6 ∷ 6 ∷ 6 ∷ 6 ∷ 6 ∷ 6 ∷ 8 ∷ 9 ∷ 10 ∷ 6 ∷ 6 ∷ 999 ∷ 999 ∷ 999 ∷ 999 ∷ 999 ∷ 999 ∷ 999 ∷ 999 ∷ 999 ∷ 999 ∷ 999 ∷ 999 ∷ 6 ∷ 6 ∷ []) ∷
    (3 ∷ 3 ∷ 3 ∷ 3 ∷ 4 ∷ 5 ∷ 6 ∷ 3 ∷ 8 ∷ 9 ∷ 10 ∷ 3 ∷ 5 ∷ 999 ∷ 999 ∷ 999 ∷ 999 ∷ 999 ∷ 999 ∷ 999 ∷ 999 ∷ 999 ∷ 999 ∷ 999 ∷ 999 ∷ 3 ∷ 3 ∷ []) ∷
    (8 ∷ 8 ∷ 8 ∷ 8 ∷ 8 ∷ 8 ∷ 8 ∷ 8 ∷ 8 ∷ 9 ∷ 10 ∷ 8 ∷ 8 ∷ 999 ∷ 999 ∷ 999 ∷ 999 ∷ 999 ∷ 999 ∷ 999 ∷ 999 ∷ 999 ∷ 999 ∷ 999 ∷ 999 ∷ 8 ∷ 8 ∷ []) ∷
    (9 ∷ 9 ∷ 9 ∷ 9 ∷ 9 ∷ 9 ∷ 9 ∷ 9 ∷ 9 ∷ 9 ∷ 10 ∷ 9 ∷ 9 ∷ 999 ∷ 999 ∷ 999 ∷ 999 ∷ 999 ∷ 999 ∷ 999 ∷ 999 ∷ 999 ∷ 999 ∷ 999 ∷ 999 ∷ 9 ∷ 9 ∷ []) ∷
    (10 ∷ 10 ∷ 10 ∷ 10 ∷ 10 ∷ 10 ∷ 10 ∷ 10 ∷ 10 ∷ 10 ∷ 10 ∷ 10 ∷ 10 ∷ 999 ∷ 999 ∷ 999 ∷ 999 ∷ 999 ∷ 999 ∷ 999 ∷ 999 ∷ 999 ∷ 999 ∷ 999 ∷ 999 ∷ 10 ∷ 10 ∷ []) ∷
    (3 ∷ 3 ∷ 3 ∷ 3 ∷ 4 ∷ 5 ∷ 6 ∷ 3 ∷ 8 ∷ 9 ∷ 10 ∷ 3 ∷ 5 ∷ 999 ∷ 999 ∷ 999 ∷ 999 ∷ 999 ∷ 999 ∷ 999 ∷ 999 ∷ 999 ∷ 999 ∷ 999 ∷ 999 ∷ 3 ∷ 3 ∷ []) ∷
    (5 ∷ 5 ∷ 5 ∷ 5 ∷ 5 ∷ 5 ∷ 6 ∷ 5 ∷ 8 ∷ 9 ∷ 10 ∷ 5 ∷ 5 ∷ 999 ∷ 999 ∷ 999 ∷ 999 ∷ 999 ∷ 999 ∷ 999 ∷ 999 ∷ 999 ∷ 999 ∷ 999 ∷ 999 ∷ 5 ∷ 5 ∷ []) ∷
    (13 ∷ 13 ∷ 13 ∷ 13 ∷ 13 ∷ 13 ∷ 13 ∷ 13 ∷ 999 ∷ 999 ∷ 999 ∷ 13 ∷ 13 ∷ 5 ∷ 5 ∷ 5 ∷ 5 ∷ 999 ∷ 999 ∷ 999 ∷ 999 ∷ 999 ∷ 999 ∷ 999 ∷ 999 ∷ 13 ∷ 13 ∷ []) ∷
    (14 ∷ 14 ∷ 14 ∷ 14 ∷ 14 ∷ 14 ∷ 14 ∷ 14 ∷ 999 ∷ 999 ∷ 999 ∷ 14 ∷ 14 ∷ 5 ∷ 5 ∷ 5 ∷ 5 ∷ 999 ∷ 999 ∷ 999 ∷ 999 ∷ 999 ∷ 999 ∷ 999 ∷ 999 ∷ 14 ∷ 14 ∷ []) ∷
    (15 ∷ 15 ∷ 15 ∷ 15 ∷ 15 ∷ 15 ∷ 15 ∷ 15 ∷ 999 ∷ 999 ∷ 999 ∷ 15 ∷ 15 ∷ 5 ∷ 5 ∷ 5 ∷ 5 ∷ 999 ∷ 999 ∷ 999 ∷ 999 ∷ 999 ∷ 999 ∷ 999 ∷ 999 ∷ 15 ∷ 15 ∷ []) ∷
    (13 ∷ 13 ∷ 13 ∷ 13 ∷ 13 ∷ 13 ∷ 13 ∷ 13 ∷ 999 ∷ 999 ∷ 999 ∷ 13 ∷ 13 ∷ 5 ∷ 5 ∷ 5 ∷ 5 ∷ 999 ∷ 999 ∷ 999 ∷ 999 ∷ 999 ∷ 999 ∷ 999 ∷ 999 ∷ 13 ∷ 13 ∷ []) ∷
    (16 ∷ 16 ∷ 16 ∷ 16 ∷ 16 ∷ 16 ∷ 16 ∷ 16 ∷ 999 ∷ 999 ∷ 999 ∷ 16 ∷ 16 ∷ 999 ∷ 999 ∷ 999 ∷ 999 ∷ 5 ∷ 999 ∷ 999 ∷ 999 ∷ 999 ∷ 999 ∷ 999 ∷ 999 ∷ 16 ∷ 16 ∷ []) ∷
    (17 ∷ 17 ∷ 17 ∷ 17 ∷ 17 ∷ 17 ∷ 17 ∷ 17 ∷ 999 ∷ 999 ∷ 999 ∷ 17 ∷ 17 ∷ 999 ∷ 999 ∷ 999 ∷ 999 ∷ 999 ∷ 5 ∷ 999 ∷ 999 ∷ 999 ∷ 999 ∷ 999 ∷ 999 ∷ 17 ∷ 17 ∷ []) ∷
    (998 ∷ 998 ∷ 998 ∷ 998 ∷ 998 ∷ 998 ∷ 998 ∷ 998 ∷ 999 ∷ 999 ∷ 999 ∷ 999 ∷ 999 ∷ 999 ∷ 999 ∷ 999 ∷ 999 ∷ 999 ∷ 999 ∷ 999 ∷ 999 ∷ 999 ∷ 999 ∷ 999 ∷ 999 ∷ 998 ∷ 998 ∷ []) ∷
    (998 ∷ 998 ∷ 998 ∷ 998 ∷ 998 ∷ 998 ∷ 998 ∷ 998 ∷ 999 ∷ 999 ∷ 999 ∷ 999 ∷ 999 ∷ 999 ∷ 999 ∷ 999 ∷ 999 ∷ 999 ∷ 999 ∷ 999 ∷ 999 ∷ 999 ∷ 999 ∷ 999 ∷ 999 ∷ 998 ∷ 998 ∷ []) ∷
    (998 ∷ 998 ∷ 998 ∷ 998 ∷ 998 ∷ 998 ∷ 998 ∷ 998 ∷ 999 ∷ 999 ∷ 999 ∷ 999 ∷ 999 ∷ 999 ∷ 999 ∷ 999 ∷ 999 ∷ 999 ∷ 999 ∷ 999 ∷ 999 ∷ 999 ∷ 999 ∷ 999 ∷ 999 ∷ 998 ∷ 998 ∷ []) ∷
    (21 ∷ 21 ∷ 21 ∷ 21 ∷ 21 ∷ 21 ∷ 21 ∷ 21 ∷ 999 ∷ 999 ∷ 999 ∷ 21 ∷ 21 ∷ 999 ∷ 999 ∷ 999 ∷ 999 ∷ 999 ∷ 999 ∷ 999 ∷ 999 ∷ 999 ∷ 5 ∷ 999 ∷ 999 ∷ 21 ∷ 21 ∷ []) ∷
    (23 ∷ 23 ∷ 23 ∷ 23 ∷ 23 ∷ 23 ∷ 23 ∷ 23 ∷ 999 ∷ 999 ∷ 999 ∷ 23 ∷ 23 ∷ 999 ∷ 999 ∷ 999 ∷ 999 ∷ 999 ∷ 999 ∷ 999 ∷ 999 ∷ 999 ∷ 999 ∷ 5 ∷ 999 ∷ 23 ∷ 23 ∷ []) ∷
    (999 ∷ 999 ∷ 999 ∷ 999 ∷ 999 ∷ 999 ∷ 999 ∷ 999 ∷ 999 ∷ 999 ∷ 999 ∷ 999 ∷ 999 ∷ 999 ∷ 999 ∷ 999 ∷ 999 ∷ 999 ∷ 999 ∷ 999 ∷ 999 ∷ 999 ∷ 999 ∷ 999 ∷ 999 ∷ 999 ∷ 999 ∷ []) ∷
    (3 ∷ 3 ∷ 3 ∷ 3 ∷ 4 ∷ 5 ∷ 6 ∷ 3 ∷ 8 ∷ 9 ∷ 10 ∷ 3 ∷ 5 ∷ 999 ∷ 999 ∷ 999 ∷ 999 ∷ 999 ∷ 999 ∷ 999 ∷ 999 ∷ 999 ∷ 999 ∷ 999 ∷ 999 ∷ 3 ∷ 3 ∷ []) ∷
    (3 ∷ 3 ∷ 3 ∷ 3 ∷ 4 ∷ 5 ∷ 6 ∷ 3 ∷ 8 ∷ 9 ∷ 10 ∷ 3 ∷ 5 ∷ 999 ∷ 999 ∷ 999 ∷ 999 ∷ 999 ∷ 999 ∷ 999 ∷ 999 ∷ 999 ∷ 999 ∷ 999 ∷ 999 ∷ 3 ∷ 3 ∷ []) ∷ []) ≡ []
unfolding standard_sequence steps_between steps_of_reference steps_by_relation steps_of_unrelated steps_of_related related related_kinds steps_of_value steps_by_kinds steps_to_class steps_to_scalar class_step value_step steps_of_kinds steps_of_pointer steps_of_enumeration steps_of_arithmetic is_text step_of_enumeration steps_of_pointers pointer_to_other pointer_to_class is_derived is_pending promoted built_in_result unary_result unary_family_result unary_by follow is_stepped steps_to before after binary_result family_result compound_result compound compound_on binary_by subscripted added added_to subtracted distance beside_integer compared_by compared_pointers assigned usual common_pointer common_other common_class both_ready is_complete_object is_complete_class conditional arms_of arms_of_arithmetic arms_of_enumeration arms_of_pointer arms_of_void shared_pointers
binary_MINUS = refl

-- <<, a line for each left operand
binary_SHIFT_LEFT : binary_of punct.SHIFT_LEFT (
    (3 ∷ 3 ∷ 3 ∷ 3 ∷ 3 ∷ 3 ∷ 3 ∷ 3 ∷ 999 ∷ 999 ∷ 999 ∷ 3 ∷ 3 ∷ 999 ∷ 999 ∷ 999 ∷ 999 ∷ 999 ∷ 999 ∷ 999 ∷ 999 ∷ 999 ∷ 999 ∷ 999 ∷ 999 ∷ 3 ∷ 3 ∷ []) ∷
    (3 ∷ 3 ∷ 3 ∷ 3 ∷ 3 ∷ 3 ∷ 3 ∷ 3 ∷ 999 ∷ 999 ∷ 999 ∷ 3 ∷ 3 ∷ 999 ∷ 999 ∷ 999 ∷ 999 ∷ 999 ∷ 999 ∷ 999 ∷ 999 ∷ 999 ∷ 999 ∷ 999 ∷ 999 ∷ 3 ∷ 3 ∷ []) ∷
    (3 ∷ 3 ∷ 3 ∷ 3 ∷ 3 ∷ 3 ∷ 3 ∷ 3 ∷ 999 ∷ 999 ∷ 999 ∷ 3 ∷ 3 ∷ 999 ∷ 999 ∷ 999 ∷ 999 ∷ 999 ∷ 999 ∷ 999 ∷ 999 ∷ 999 ∷ 999 ∷ 999 ∷ 999 ∷ 3 ∷ 3 ∷ []) ∷
    (3 ∷ 3 ∷ 3 ∷ 3 ∷ 3 ∷ 3 ∷ 3 ∷ 3 ∷ 999 ∷ 999 ∷ 999 ∷ 3 ∷ 3 ∷ 999 ∷ 999 ∷ 999 ∷ 999 ∷ 999 ∷ 999 ∷ 999 ∷ 999 ∷ 999 ∷ 999 ∷ 999 ∷ 999 ∷ 3 ∷ 3 ∷ []) ∷
    (4 ∷ 4 ∷ 4 ∷ 4 ∷ 4 ∷ 4 ∷ 4 ∷ 4 ∷ 999 ∷ 999 ∷ 999 ∷ 4 ∷ 4 ∷ 999 ∷ 999 ∷ 999 ∷ 999 ∷ 999 ∷ 999 ∷ 999 ∷ 999 ∷ 999 ∷ 999 ∷ 999 ∷ 999 ∷ 4 ∷ 4 ∷ []) ∷
    (5 ∷ 5 ∷ 5 ∷ 5 ∷ 5 ∷ 5 ∷ 5 ∷ 5 ∷ 999 ∷ 999 ∷ 999 ∷ 5 ∷ 5 ∷ 999 ∷ 999 ∷ 999 ∷ 999 ∷ 999 ∷ 999 ∷ 999 ∷ 999 ∷ 999 ∷ 999 ∷ 999 ∷ 999 ∷ 5 ∷ 5 ∷ []) ∷
    (6 ∷ 6 ∷ 6 ∷ 6 ∷ 6 ∷ 6 ∷ 6 ∷ 6 ∷ 999 ∷ 999 ∷ 999 ∷ 6 ∷ 6 ∷ 999 ∷ 999 ∷ 999 ∷ 999 ∷ 999 ∷ 999 ∷ 999 ∷ 999 ∷ 999 ∷ 999 ∷ 999 ∷ 999 ∷ 6 ∷ 6 ∷ []) ∷
    (3 ∷ 3 ∷ 3 ∷ 3 ∷ 3 ∷ 3 ∷ 3 ∷ 3 ∷ 999 ∷ 999 ∷ 999 ∷ 3 ∷ 3 ∷ 999 ∷ 999 ∷ 999 ∷ 999 ∷ 999 ∷ 999 ∷ 999 ∷ 999 ∷ 999 ∷ 999 ∷ 999 ∷ 999 ∷ 3 ∷ 3 ∷ []) ∷
    (999 ∷ 999 ∷ 999 ∷ 999 ∷ 999 ∷ 999 ∷ 999 ∷ 999 ∷ 999 ∷ 999 ∷ 999 ∷ 999 ∷ 999 ∷ 999 ∷ 999 ∷ 999 ∷ 999 ∷ 999 ∷ 999 ∷ 999 ∷ 999 ∷ 999 ∷ 999 ∷ 999 ∷ 999 ∷ 999 ∷ 999 ∷ []) ∷
    (999 ∷ 999 ∷ 999 ∷ 999 ∷ 999 ∷ 999 ∷ 999 ∷ 999 ∷ 999 ∷ 999 ∷ 999 ∷ 999 ∷ 999 ∷ 999 ∷ 999 ∷ 999 ∷ 999 ∷ 999 ∷ 999 ∷ 999 ∷ 999 ∷ 999 ∷ 999 ∷ 999 ∷ 999 ∷ 999 ∷ 999 ∷ []) ∷
    (999 ∷ 999 ∷ 999 ∷ 999 ∷ 999 ∷ 999 ∷ 999 ∷ 999 ∷ 999 ∷ 999 ∷ 999 ∷ 999 ∷ 999 ∷ 999 ∷ 999 ∷ 999 ∷ 999 ∷ 999 ∷ 999 ∷ 999 ∷ 999 ∷ 999 ∷ 999 ∷ 999 ∷ 999 ∷ 999 ∷ 999 ∷ []) ∷
    (3 ∷ 3 ∷ 3 ∷ 3 ∷ 3 ∷ 3 ∷ 3 ∷ 3 ∷ 999 ∷ 999 ∷ 999 ∷ 3 ∷ 3 ∷ 999 ∷ 999 ∷ 999 ∷ 999 ∷ 999 ∷ 999 ∷ 999 ∷ 999 ∷ 999 ∷ 999 ∷ 999 ∷ 999 ∷ 3 ∷ 3 ∷ []) ∷
    (5 ∷ 5 ∷ 5 ∷ 5 ∷ 5 ∷ 5 ∷ 5 ∷ 5 ∷ 999 ∷ 999 ∷ 999 ∷ 5 ∷ 5 ∷ 999 ∷ 999 ∷ 999 ∷ 999 ∷ 999 ∷ 999 ∷ 999 ∷ 999 ∷ 999 ∷ 999 ∷ 999 ∷ 999 ∷ 5 ∷ 5 ∷ []) ∷
    (999 ∷ 999 ∷ 999 ∷ 999 ∷ 999 ∷ 999 ∷ 999 ∷ 999 ∷ 999 ∷ 999 ∷ 999 ∷ 999 ∷ 999 ∷ 999 ∷ 999 ∷ 999 ∷ 999 ∷ 999 ∷ 999 ∷ 999 ∷ 999 ∷ 999 ∷ 999 ∷ 999 ∷ 999 ∷ 999 ∷ 999 ∷ []) ∷
    (999 ∷ 999 ∷ 999 ∷ 999 ∷ 999 ∷ 999 ∷ 999 ∷ 999 ∷ 999 ∷ 999 ∷ 999 ∷ 999 ∷ 999 ∷ 999 ∷ 999 ∷ 999 ∷ 999 ∷ 999 ∷ 999 ∷ 999 ∷ 999 ∷ 999 ∷ 999 ∷ 999 ∷ 999 ∷ 999 ∷ 999 ∷ []) ∷
    (999 ∷ 999 ∷ 999 ∷ 999 ∷ 999 ∷ 999 ∷ 999 ∷ 999 ∷ 999 ∷ 999 ∷ 999 ∷ 999 ∷ 999 ∷ 999 ∷ 999 ∷ 999 ∷ 999 ∷ 999 ∷ 999 ∷ 999 ∷ 999 ∷ 999 ∷ 999 ∷ 999 ∷ 999 ∷ 999 ∷ 999 ∷ []) ∷
    (999 ∷ 999 ∷ 999 ∷ 999 ∷ 999 ∷ 999 ∷ 999 ∷ 999 ∷ 999 ∷ 999 ∷ 999 ∷ 999 ∷ 999 ∷ 999 ∷ 999 ∷ 999 ∷ 999 ∷ 999 ∷ 999 ∷ 999 ∷ 999 ∷ 999 ∷ 999 ∷ 999 ∷ 999 ∷ 999 ∷ 999 ∷ []) ∷
    (999 ∷ 999 ∷ 999 ∷ 999 ∷ 999 ∷ 999 ∷ 999 ∷ 999 ∷ 999 ∷ 999 ∷ 999 ∷ 999 ∷ 999 ∷ 999 ∷ 999 ∷ 999 ∷ 999 ∷ 999 ∷ 999 ∷ 999 ∷ 999 ∷ 999 ∷ 999 ∷ 999 ∷ 999 ∷ 999 ∷ 999 ∷ []) ∷
    (999 ∷ 999 ∷ 999 ∷ 999 ∷ 999 ∷ 999 ∷ 999 ∷ 999 ∷ 999 ∷ 999 ∷ 999 ∷ 999 ∷ 999 ∷ 999 ∷ 999 ∷ 999 ∷ 999 ∷ 999 ∷ 999 ∷ 999 ∷ 999 ∷ 999 ∷ 999 ∷ 999 ∷ 999 ∷ 999 ∷ 999 ∷ []) ∷
    (999 ∷ 999 ∷ 999 ∷ 999 ∷ 999 ∷ 999 ∷ 999 ∷ 999 ∷ 999 ∷ 999 ∷ 999 ∷ 999 ∷ 999 ∷ 999 ∷ 999 ∷ 999 ∷ 999 ∷ 999 ∷ 999 ∷ 999 ∷ 999 ∷ 999 ∷ 999 ∷ 999 ∷ 999 ∷ 999 ∷ 999 ∷ []) ∷
    (999 ∷ 999 ∷ 999 ∷ 999 ∷ 999 ∷ 999 ∷ 999 ∷ 999 ∷ 999 ∷ 999 ∷ 999 ∷ 999 ∷ 999 ∷ 999 ∷ 999 ∷ 999 ∷ 999 ∷ 999 ∷ 999 ∷ 999 ∷ 999 ∷ 999 ∷ 999 ∷ 999 ∷ 999 ∷ 999 ∷ 999 ∷ []) ∷
    (999 ∷ 999 ∷ 999 ∷ 999 ∷ 999 ∷ 999 ∷ 999 ∷ 999 ∷ 999 ∷ 999 ∷ 999 ∷ 999 ∷ 999 ∷ 999 ∷ 999 ∷ 999 ∷ 999 ∷ 999 ∷ 999 ∷ 999 ∷ 999 ∷ 999 ∷ 999 ∷ 999 ∷ 999 ∷ 999 ∷ 999 ∷ []) ∷
    (999 ∷ 999 ∷ 999 ∷ 999 ∷ 999 ∷ 999 ∷ 999 ∷ 999 ∷ 999 ∷ 999 ∷ 999 ∷ 999 ∷ 999 ∷ 999 ∷ 999 ∷ 999 ∷ 999 ∷ 999 ∷ 999 ∷ 999 ∷ 999 ∷ 999 ∷ 999 ∷ 999 ∷ 999 ∷ 999 ∷ 999 ∷ []) ∷
    (999 ∷ 999 ∷ 999 ∷ 999 ∷ 999 ∷ 999 ∷ 999 ∷ 999 ∷ 999 ∷ 999 ∷ 999 ∷ 999 ∷ 999 ∷ 999 ∷ 999 ∷ 999 ∷ 999 ∷ 999 ∷ 999 ∷ 999 ∷ 999 ∷ 999 ∷ 999 ∷ 999 ∷ 999 ∷ 999 ∷ 999 ∷ []) ∷
    (999 ∷ 999 ∷ 999 ∷ 999 ∷ 999 ∷ 999 ∷ 999 ∷ 999 ∷ 999 ∷ 999 ∷ 999 ∷ 999 ∷ 999 ∷ 999 ∷ 999 ∷ 999 ∷ 999 ∷ 999 ∷ 999 ∷ 999 ∷ 999 ∷ 999 ∷ 999 ∷ 999 ∷ 999 ∷ 999 ∷ 999 ∷ []) ∷
    (3 ∷ 3 ∷ 3 ∷ 3 ∷ 3 ∷ 3 ∷ 3 ∷ 3 ∷ 999 ∷ 999 ∷ 999 ∷ 3 ∷ 3 ∷ 999 ∷ 999 ∷ 999 ∷ 999 ∷ 999 ∷ 999 ∷ 999 ∷ 999 ∷ 999 ∷ 999 ∷ 999 ∷ 999 ∷ 3 ∷ 3 ∷ []) ∷
    (3 ∷ 3 ∷ 3 ∷ 3 ∷ 3 ∷ 3 ∷ 3 ∷ 3 ∷ 999 ∷ 999 ∷ 999 ∷ 3 ∷ 3 ∷ 999 ∷ 999 ∷ 999 ∷ 999 ∷ 999 ∷ 999 ∷ 999 ∷ 999 ∷ 999 ∷ 999 ∷ 999 ∷ 999 ∷ 3 ∷ 3 ∷ []) ∷ []) ≡ []
unfolding standard_sequence steps_between steps_of_reference steps_by_relation steps_of_unrelated steps_of_related related related_kinds steps_of_value steps_by_kinds steps_to_class steps_to_scalar class_step value_step steps_of_kinds steps_of_pointer steps_of_enumeration steps_of_arithmetic is_text step_of_enumeration steps_of_pointers pointer_to_other pointer_to_class is_derived is_pending promoted built_in_result unary_result unary_family_result unary_by follow is_stepped steps_to before after binary_result family_result compound_result compound compound_on binary_by subscripted added added_to subtracted distance beside_integer compared_by compared_pointers assigned usual common_pointer common_other common_class both_ready is_complete_object is_complete_class conditional arms_of arms_of_arithmetic arms_of_enumeration arms_of_pointer arms_of_void shared_pointers
binary_SHIFT_LEFT = refl

-- <, a line for each left operand
binary_LESS : binary_of punct.LESS (
    (0 ∷ 0 ∷ 0 ∷ 0 ∷ 0 ∷ 0 ∷ 0 ∷ 0 ∷ 0 ∷ 0 ∷ 0 ∷ 0 ∷ 0 ∷ 999 ∷ 999 ∷ 999 ∷ 999 ∷ 999 ∷ 999 ∷ 999 ∷ 999 ∷ 999 ∷ 999 ∷ 999 ∷ 999 ∷ 0 ∷ 0 ∷ []) ∷
    (0 ∷ 0 ∷ 0 ∷ 0 ∷ 0 ∷ 0 ∷ 0 ∷ 0 ∷ 0 ∷ 0 ∷ 0 ∷ 0 ∷ 0 ∷ 999 ∷ 999 ∷ 999 ∷ 999 ∷ 999 ∷ 999 ∷ 999 ∷ 999 ∷ 999 ∷ 999 ∷ 999 ∷ 999 ∷ 0 ∷ 0 ∷ []) ∷
    (0 ∷ 0 ∷ 0 ∷ 0 ∷ 0 ∷ 0 ∷ 0 ∷ 0 ∷ 0 ∷ 0 ∷ 0 ∷ 0 ∷ 0 ∷ 999 ∷ 999 ∷ 999 ∷ 999 ∷ 999 ∷ 999 ∷ 999 ∷ 999 ∷ 999 ∷ 999 ∷ 999 ∷ 999 ∷ 0 ∷ 0 ∷ []) ∷
    (0 ∷ 0 ∷ 0 ∷ 0 ∷ 0 ∷ 0 ∷ 0 ∷ 0 ∷ 0 ∷ 0 ∷ 0 ∷ 0 ∷ 0 ∷ 999 ∷ 999 ∷ 999 ∷ 999 ∷ 999 ∷ 999 ∷ 999 ∷ 999 ∷ 999 ∷ 999 ∷ 999 ∷ 999 ∷ 0 ∷ 0 ∷ []) ∷
    (0 ∷ 0 ∷ 0 ∷ 0 ∷ 0 ∷ 0 ∷ 0 ∷ 0 ∷ 0 ∷ 0 ∷ 0 ∷ 0 ∷ 0 ∷ 999 ∷ 999 ∷ 999 ∷ 999 ∷ 999 ∷ 999 ∷ 999 ∷ 999 ∷ 999 ∷ 999 ∷ 999 ∷ 999 ∷ 0 ∷ 0 ∷ []) ∷
    (0 ∷ 0 ∷ 0 ∷ 0 ∷ 0 ∷ 0 ∷ 0 ∷ 0 ∷ 0 ∷ 0 ∷ 0 ∷ 0 ∷ 0 ∷ 999 ∷ 999 ∷ 999 ∷ 999 ∷ 999 ∷ 999 ∷ 999 ∷ 999 ∷ 999 ∷ 999 ∷ 999 ∷ 999 ∷ 0 ∷ 0 ∷ []) ∷
    (0 ∷ 0 ∷ 0 ∷ 0 ∷ 0 ∷ 0 ∷ 0 ∷ 0 ∷ 0 ∷ 0 ∷ 0 ∷ 0 ∷ 0 ∷ 999 ∷ 999 ∷ 999 ∷ 999 ∷ 999 ∷ 999 ∷ 999 ∷ 999 ∷ 999 ∷ 999 ∷ 999 ∷ 999 ∷ 0 ∷ 0 ∷ []) ∷
    (0 ∷ 0 ∷ 0 ∷ 0 ∷ 0 ∷ 0 ∷ 0 ∷ 0 ∷ 0 ∷ 0 ∷ 0 ∷ 0 ∷ 0 ∷ 999 ∷ 999 ∷ 999 ∷ 999 ∷ 999 ∷ 999 ∷ 999 ∷ 999 ∷ 999 ∷ 999 ∷ 999 ∷ 999 ∷ 0 ∷ 0 ∷ []) ∷
    (0 ∷ 0 ∷ 0 ∷ 0 ∷ 0 ∷ 0 ∷ 0 ∷ 0 ∷ 0 ∷ 0 ∷ 0 ∷ 0 ∷ 0 ∷ 999 ∷ 999 ∷ 999 ∷ 999 ∷ 999 ∷ 999 ∷ 999 ∷ 999 ∷ 999 ∷ 999 ∷ 999 ∷ 999 ∷ 0 ∷ 0 ∷ []) ∷
    (0 ∷ 0 ∷ 0 ∷ 0 ∷ 0 ∷ 0 ∷ 0 ∷ 0 ∷ 0 ∷ 0 ∷ 0 ∷ 0 ∷ 0 ∷ 999 ∷ 999 ∷ 999 ∷ 999 ∷ 999 ∷ 999 ∷ 999 ∷ 999 ∷ 999 ∷ 999 ∷ 999 ∷ 999 ∷ 0 ∷ 0 ∷ []) ∷
    (0 ∷ 0 ∷ 0 ∷ 0 ∷ 0 ∷ 0 ∷ 0 ∷ 0 ∷ 0 ∷ 0 ∷ 0 ∷ 0 ∷ 0 ∷ 999 ∷ 999 ∷ 999 ∷ 999 ∷ 999 ∷ 999 ∷ 999 ∷ 999 ∷ 999 ∷ 999 ∷ 999 ∷ 999 ∷ 0 ∷ 0 ∷ []) ∷
    (0 ∷ 0 ∷ 0 ∷ 0 ∷ 0 ∷ 0 ∷ 0 ∷ 0 ∷ 0 ∷ 0 ∷ 0 ∷ 0 ∷ 0 ∷ 999 ∷ 999 ∷ 999 ∷ 999 ∷ 999 ∷ 999 ∷ 999 ∷ 999 ∷ 999 ∷ 999 ∷ 999 ∷ 999 ∷ 0 ∷ 0 ∷ []) ∷
    (0 ∷ 0 ∷ 0 ∷ 0 ∷ 0 ∷ 0 ∷ 0 ∷ 0 ∷ 0 ∷ 0 ∷ 0 ∷ 0 ∷ 0 ∷ 999 ∷ 999 ∷ 999 ∷ 999 ∷ 999 ∷ 999 ∷ 999 ∷ 999 ∷ 999 ∷ 999 ∷ 999 ∷ 999 ∷ 0 ∷ 0 ∷ []) ∷
    (999 ∷ 999 ∷ 999 ∷ 999 ∷ 999 ∷ 999 ∷ 999 ∷ 999 ∷ 999 ∷ 999 ∷ 999 ∷ 999 ∷ 999 ∷ 0 ∷ 0 ∷ 0 ∷ 0 ∷ 999 ∷ 999 ∷ 0 ∷ 0 ∷ 999 ∷ 999 ∷ 999 ∷ 999 ∷ 998 ∷ 999 ∷ []) ∷
    (999 ∷ 999 ∷ 999 ∷ 999 ∷ 999 ∷ 999 ∷ 999 ∷ 999 ∷ 999 ∷ 999 ∷ 999 ∷ 999 ∷ 999 ∷ 0 ∷ 0 ∷ 0 ∷ 0 ∷ 999 ∷ 999 ∷ 0 ∷ 0 ∷ 999 ∷ 999 ∷ 999 ∷ 999 ∷ 998 ∷ 999 ∷ []) ∷
    (999 ∷ 999 ∷ 999 ∷ 999 ∷ 999 ∷ 999 ∷ 999 ∷ 999 ∷ 999 ∷ 999 ∷ 999 ∷ 999 ∷ 999 ∷ 0 ∷ 0 ∷ 0 ∷ 0 ∷ 999 ∷ 999 ∷ 0 ∷ 0 ∷ 999 ∷ 999 ∷ 999 ∷ 999 ∷ 998 ∷ 999 ∷ []) ∷
    (999 ∷ 999 ∷ 999 ∷ 999 ∷ 999 ∷ 999 ∷ 999 ∷ 999 ∷ 999 ∷ 999 ∷ 999 ∷ 999 ∷ 999 ∷ 0 ∷ 0 ∷ 0 ∷ 0 ∷ 999 ∷ 999 ∷ 0 ∷ 0 ∷ 999 ∷ 999 ∷ 999 ∷ 999 ∷ 998 ∷ 999 ∷ []) ∷
    (999 ∷ 999 ∷ 999 ∷ 999 ∷ 999 ∷ 999 ∷ 999 ∷ 999 ∷ 999 ∷ 999 ∷ 999 ∷ 999 ∷ 999 ∷ 999 ∷ 999 ∷ 999 ∷ 999 ∷ 0 ∷ 0 ∷ 0 ∷ 0 ∷ 999 ∷ 999 ∷ 999 ∷ 999 ∷ 998 ∷ 999 ∷ []) ∷
    (999 ∷ 999 ∷ 999 ∷ 999 ∷ 999 ∷ 999 ∷ 999 ∷ 999 ∷ 999 ∷ 999 ∷ 999 ∷ 999 ∷ 999 ∷ 999 ∷ 999 ∷ 999 ∷ 999 ∷ 0 ∷ 0 ∷ 0 ∷ 0 ∷ 999 ∷ 999 ∷ 999 ∷ 999 ∷ 998 ∷ 999 ∷ []) ∷
    (999 ∷ 999 ∷ 999 ∷ 999 ∷ 999 ∷ 999 ∷ 999 ∷ 999 ∷ 999 ∷ 999 ∷ 999 ∷ 999 ∷ 999 ∷ 0 ∷ 0 ∷ 0 ∷ 0 ∷ 0 ∷ 0 ∷ 0 ∷ 0 ∷ 998 ∷ 0 ∷ 0 ∷ 0 ∷ 998 ∷ 999 ∷ []) ∷
    (999 ∷ 999 ∷ 999 ∷ 999 ∷ 999 ∷ 999 ∷ 999 ∷ 999 ∷ 999 ∷ 999 ∷ 999 ∷ 999 ∷ 999 ∷ 0 ∷ 0 ∷ 0 ∷ 0 ∷ 0 ∷ 0 ∷ 0 ∷ 0 ∷ 998 ∷ 0 ∷ 0 ∷ 0 ∷ 998 ∷ 999 ∷ []) ∷
    (999 ∷ 999 ∷ 999 ∷ 999 ∷ 999 ∷ 999 ∷ 999 ∷ 999 ∷ 999 ∷ 999 ∷ 999 ∷ 999 ∷ 999 ∷ 999 ∷ 999 ∷ 999 ∷ 999 ∷ 999 ∷ 999 ∷ 998 ∷ 998 ∷ 0 ∷ 999 ∷ 999 ∷ 999 ∷ 998 ∷ 999 ∷ []) ∷
    (999 ∷ 999 ∷ 999 ∷ 999 ∷ 999 ∷ 999 ∷ 999 ∷ 999 ∷ 999 ∷ 999 ∷ 999 ∷ 999 ∷ 999 ∷ 999 ∷ 999 ∷ 999 ∷ 999 ∷ 999 ∷ 999 ∷ 0 ∷ 0 ∷ 999 ∷ 0 ∷ 0 ∷ 999 ∷ 998 ∷ 999 ∷ []) ∷
    (999 ∷ 999 ∷ 999 ∷ 999 ∷ 999 ∷ 999 ∷ 999 ∷ 999 ∷ 999 ∷ 999 ∷ 999 ∷ 999 ∷ 999 ∷ 999 ∷ 999 ∷ 999 ∷ 999 ∷ 999 ∷ 999 ∷ 0 ∷ 0 ∷ 999 ∷ 0 ∷ 0 ∷ 999 ∷ 998 ∷ 999 ∷ []) ∷
    (999 ∷ 999 ∷ 999 ∷ 999 ∷ 999 ∷ 999 ∷ 999 ∷ 999 ∷ 999 ∷ 999 ∷ 999 ∷ 999 ∷ 999 ∷ 999 ∷ 999 ∷ 999 ∷ 999 ∷ 999 ∷ 999 ∷ 0 ∷ 0 ∷ 999 ∷ 999 ∷ 999 ∷ 0 ∷ 998 ∷ 999 ∷ []) ∷
    (0 ∷ 0 ∷ 0 ∷ 0 ∷ 0 ∷ 0 ∷ 0 ∷ 0 ∷ 0 ∷ 0 ∷ 0 ∷ 0 ∷ 0 ∷ 998 ∷ 998 ∷ 998 ∷ 998 ∷ 998 ∷ 998 ∷ 998 ∷ 998 ∷ 998 ∷ 998 ∷ 998 ∷ 998 ∷ 0 ∷ 0 ∷ []) ∷
    (0 ∷ 0 ∷ 0 ∷ 0 ∷ 0 ∷ 0 ∷ 0 ∷ 0 ∷ 0 ∷ 0 ∷ 0 ∷ 0 ∷ 0 ∷ 999 ∷ 999 ∷ 999 ∷ 999 ∷ 999 ∷ 999 ∷ 999 ∷ 999 ∷ 999 ∷ 999 ∷ 999 ∷ 999 ∷ 0 ∷ 0 ∷ []) ∷ []) ≡ []
unfolding standard_sequence steps_between steps_of_reference steps_by_relation steps_of_unrelated steps_of_related related related_kinds steps_of_value steps_by_kinds steps_to_class steps_to_scalar class_step value_step steps_of_kinds steps_of_pointer steps_of_enumeration steps_of_arithmetic is_text step_of_enumeration steps_of_pointers pointer_to_other pointer_to_class is_derived is_pending promoted built_in_result unary_result unary_family_result unary_by follow is_stepped steps_to before after binary_result family_result compound_result compound compound_on binary_by subscripted added added_to subtracted distance beside_integer compared_by compared_pointers assigned usual common_pointer common_other common_class both_ready is_complete_object is_complete_class conditional arms_of arms_of_arithmetic arms_of_enumeration arms_of_pointer arms_of_void shared_pointers
binary_LESS = refl

-- ==, a line for each left operand
binary_EQUAL_TO : binary_of punct.EQUAL_TO (
    (0 ∷ 0 ∷ 0 ∷ 0 ∷ 0 ∷ 0 ∷ 0 ∷ 0 ∷ 0 ∷ 0 ∷ 0 ∷ 0 ∷ 0 ∷ 999 ∷ 999 ∷ 999 ∷ 999 ∷ 999 ∷ 999 ∷ 999 ∷ 999 ∷ 999 ∷ 999 ∷ 999 ∷ 999 ∷ 0 ∷ 0 ∷ []) ∷
    (0 ∷ 0 ∷ 0 ∷ 0 ∷ 0 ∷ 0 ∷ 0 ∷ 0 ∷ 0 ∷ 0 ∷ 0 ∷ 0 ∷ 0 ∷ 999 ∷ 999 ∷ 999 ∷ 999 ∷ 999 ∷ 999 ∷ 999 ∷ 999 ∷ 999 ∷ 999 ∷ 999 ∷ 999 ∷ 0 ∷ 0 ∷ []) ∷
    (0 ∷ 0 ∷ 0 ∷ 0 ∷ 0 ∷ 0 ∷ 0 ∷ 0 ∷ 0 ∷ 0 ∷ 0 ∷ 0 ∷ 0 ∷ 999 ∷ 999 ∷ 999 ∷ 999 ∷ 999 ∷ 999 ∷ 999 ∷ 999 ∷ 999 ∷ 999 ∷ 999 ∷ 999 ∷ 0 ∷ 0 ∷ []) ∷
    (0 ∷ 0 ∷ 0 ∷ 0 ∷ 0 ∷ 0 ∷ 0 ∷ 0 ∷ 0 ∷ 0 ∷ 0 ∷ 0 ∷ 0 ∷ 999 ∷ 999 ∷ 999 ∷ 999 ∷ 999 ∷ 999 ∷ 999 ∷ 999 ∷ 999 ∷ 999 ∷ 999 ∷ 999 ∷ 0 ∷ 0 ∷ []) ∷
    (0 ∷ 0 ∷ 0 ∷ 0 ∷ 0 ∷ 0 ∷ 0 ∷ 0 ∷ 0 ∷ 0 ∷ 0 ∷ 0 ∷ 0 ∷ 999 ∷ 999 ∷ 999 ∷ 999 ∷ 999 ∷ 999 ∷ 999 ∷ 999 ∷ 999 ∷ 999 ∷ 999 ∷ 999 ∷ 0 ∷ 0 ∷ []) ∷
    (0 ∷ 0 ∷ 0 ∷ 0 ∷ 0 ∷ 0 ∷ 0 ∷ 0 ∷ 0 ∷ 0 ∷ 0 ∷ 0 ∷ 0 ∷ 999 ∷ 999 ∷ 999 ∷ 999 ∷ 999 ∷ 999 ∷ 999 ∷ 999 ∷ 999 ∷ 999 ∷ 999 ∷ 999 ∷ 0 ∷ 0 ∷ []) ∷
    (0 ∷ 0 ∷ 0 ∷ 0 ∷ 0 ∷ 0 ∷ 0 ∷ 0 ∷ 0 ∷ 0 ∷ 0 ∷ 0 ∷ 0 ∷ 999 ∷ 999 ∷ 999 ∷ 999 ∷ 999 ∷ 999 ∷ 999 ∷ 999 ∷ 999 ∷ 999 ∷ 999 ∷ 999 ∷ 0 ∷ 0 ∷ []) ∷
    (0 ∷ 0 ∷ 0 ∷ 0 ∷ 0 ∷ 0 ∷ 0 ∷ 0 ∷ 0 ∷ 0 ∷ 0 ∷ 0 ∷ 0 ∷ 999 ∷ 999 ∷ 999 ∷ 999 ∷ 999 ∷ 999 ∷ 999 ∷ 999 ∷ 999 ∷ 999 ∷ 999 ∷ 999 ∷ 0 ∷ 0 ∷ []) ∷
    (0 ∷ 0 ∷ 0 ∷ 0 ∷ 0 ∷ 0 ∷ 0 ∷ 0 ∷ 0 ∷ 0 ∷ 0 ∷ 0 ∷ 0 ∷ 999 ∷ 999 ∷ 999 ∷ 999 ∷ 999 ∷ 999 ∷ 999 ∷ 999 ∷ 999 ∷ 999 ∷ 999 ∷ 999 ∷ 0 ∷ 0 ∷ []) ∷
    (0 ∷ 0 ∷ 0 ∷ 0 ∷ 0 ∷ 0 ∷ 0 ∷ 0 ∷ 0 ∷ 0 ∷ 0 ∷ 0 ∷ 0 ∷ 999 ∷ 999 ∷ 999 ∷ 999 ∷ 999 ∷ 999 ∷ 999 ∷ 999 ∷ 999 ∷ 999 ∷ 999 ∷ 999 ∷ 0 ∷ 0 ∷ []) ∷
    (0 ∷ 0 ∷ 0 ∷ 0 ∷ 0 ∷ 0 ∷ 0 ∷ 0 ∷ 0 ∷ 0 ∷ 0 ∷ 0 ∷ 0 ∷ 999 ∷ 999 ∷ 999 ∷ 999 ∷ 999 ∷ 999 ∷ 999 ∷ 999 ∷ 999 ∷ 999 ∷ 999 ∷ 999 ∷ 0 ∷ 0 ∷ []) ∷
    (0 ∷ 0 ∷ 0 ∷ 0 ∷ 0 ∷ 0 ∷ 0 ∷ 0 ∷ 0 ∷ 0 ∷ 0 ∷ 0 ∷ 0 ∷ 999 ∷ 999 ∷ 999 ∷ 999 ∷ 999 ∷ 999 ∷ 999 ∷ 999 ∷ 999 ∷ 999 ∷ 999 ∷ 999 ∷ 0 ∷ 0 ∷ []) ∷
    (0 ∷ 0 ∷ 0 ∷ 0 ∷ 0 ∷ 0 ∷ 0 ∷ 0 ∷ 0 ∷ 0 ∷ 0 ∷ 0 ∷ 0 ∷ 999 ∷ 999 ∷ 999 ∷ 999 ∷ 999 ∷ 999 ∷ 999 ∷ 999 ∷ 999 ∷ 999 ∷ 999 ∷ 999 ∷ 0 ∷ 0 ∷ []) ∷
    (999 ∷ 999 ∷ 999 ∷ 999 ∷ 999 ∷ 999 ∷ 999 ∷ 999 ∷ 999 ∷ 999 ∷ 999 ∷ 999 ∷ 999 ∷ 0 ∷ 0 ∷ 0 ∷ 0 ∷ 999 ∷ 999 ∷ 0 ∷ 0 ∷ 999 ∷ 999 ∷ 999 ∷ 999 ∷ 0 ∷ 999 ∷ []) ∷
    (999 ∷ 999 ∷ 999 ∷ 999 ∷ 999 ∷ 999 ∷ 999 ∷ 999 ∷ 999 ∷ 999 ∷ 999 ∷ 999 ∷ 999 ∷ 0 ∷ 0 ∷ 0 ∷ 0 ∷ 999 ∷ 999 ∷ 0 ∷ 0 ∷ 999 ∷ 999 ∷ 999 ∷ 999 ∷ 0 ∷ 999 ∷ []) ∷
    (999 ∷ 999 ∷ 999 ∷ 999 ∷ 999 ∷ 999 ∷ 999 ∷ 999 ∷ 999 ∷ 999 ∷ 999 ∷ 999 ∷ 999 ∷ 0 ∷ 0 ∷ 0 ∷ 0 ∷ 999 ∷ 999 ∷ 0 ∷ 0 ∷ 999 ∷ 999 ∷ 999 ∷ 999 ∷ 0 ∷ 999 ∷ []) ∷
    (999 ∷ 999 ∷ 999 ∷ 999 ∷ 999 ∷ 999 ∷ 999 ∷ 999 ∷ 999 ∷ 999 ∷ 999 ∷ 999 ∷ 999 ∷ 0 ∷ 0 ∷ 0 ∷ 0 ∷ 999 ∷ 999 ∷ 0 ∷ 0 ∷ 999 ∷ 999 ∷ 999 ∷ 999 ∷ 0 ∷ 999 ∷ []) ∷
    (999 ∷ 999 ∷ 999 ∷ 999 ∷ 999 ∷ 999 ∷ 999 ∷ 999 ∷ 999 ∷ 999 ∷ 999 ∷ 999 ∷ 999 ∷ 999 ∷ 999 ∷ 999 ∷ 999 ∷ 0 ∷ 0 ∷ 0 ∷ 0 ∷ 999 ∷ 999 ∷ 999 ∷ 999 ∷ 0 ∷ 999 ∷ []) ∷
    (999 ∷ 999 ∷ 999 ∷ 999 ∷ 999 ∷ 999 ∷ 999 ∷ 999 ∷ 999 ∷ 999 ∷ 999 ∷ 999 ∷ 999 ∷ 999 ∷ 999 ∷ 999 ∷ 999 ∷ 0 ∷ 0 ∷ 0 ∷ 0 ∷ 999 ∷ 999 ∷ 999 ∷ 999 ∷ 0 ∷ 999 ∷ []) ∷
    (999 ∷ 999 ∷ 999 ∷ 999 ∷ 999 ∷ 999 ∷ 999 ∷ 999 ∷ 999 ∷ 999 ∷ 999 ∷ 999 ∷ 999 ∷ 0 ∷ 0 ∷ 0 ∷ 0 ∷ 0 ∷ 0 ∷ 0 ∷ 0 ∷ 998 ∷ 0 ∷ 0 ∷ 0 ∷ 0 ∷ 999 ∷ []) ∷
    (999 ∷ 999 ∷ 999 ∷ 999 ∷ 999 ∷ 999 ∷ 999 ∷ 999 ∷ 999 ∷ 999 ∷ 999 ∷ 999 ∷ 999 ∷ 0 ∷ 0 ∷ 0 ∷ 0 ∷ 0 ∷ 0 ∷ 0 ∷ 0 ∷ 998 ∷ 0 ∷ 0 ∷ 0 ∷ 0 ∷ 999 ∷ []) ∷
    (999 ∷ 999 ∷ 999 ∷ 999 ∷ 999 ∷ 999 ∷ 999 ∷ 999 ∷ 999 ∷ 999 ∷ 999 ∷ 999 ∷ 999 ∷ 999 ∷ 999 ∷ 999 ∷ 999 ∷ 999 ∷ 999 ∷ 998 ∷ 998 ∷ 0 ∷ 999 ∷ 999 ∷ 999 ∷ 0 ∷ 999 ∷ []) ∷
    (999 ∷ 999 ∷ 999 ∷ 999 ∷ 999 ∷ 999 ∷ 999 ∷ 999 ∷ 999 ∷ 999 ∷ 999 ∷ 999 ∷ 999 ∷ 999 ∷ 999 ∷ 999 ∷ 999 ∷ 999 ∷ 999 ∷ 0 ∷ 0 ∷ 999 ∷ 0 ∷ 0 ∷ 999 ∷ 0 ∷ 999 ∷ []) ∷
    (999 ∷ 999 ∷ 999 ∷ 999 ∷ 999 ∷ 999 ∷ 999 ∷ 999 ∷ 999 ∷ 999 ∷ 999 ∷ 999 ∷ 999 ∷ 999 ∷ 999 ∷ 999 ∷ 999 ∷ 999 ∷ 999 ∷ 0 ∷ 0 ∷ 999 ∷ 0 ∷ 0 ∷ 999 ∷ 0 ∷ 999 ∷ []) ∷
    (999 ∷ 999 ∷ 999 ∷ 999 ∷ 999 ∷ 999 ∷ 999 ∷ 999 ∷ 999 ∷ 999 ∷ 999 ∷ 999 ∷ 999 ∷ 999 ∷ 999 ∷ 999 ∷ 999 ∷ 999 ∷ 999 ∷ 0 ∷ 0 ∷ 999 ∷ 999 ∷ 999 ∷ 0 ∷ 0 ∷ 999 ∷ []) ∷
    (0 ∷ 0 ∷ 0 ∷ 0 ∷ 0 ∷ 0 ∷ 0 ∷ 0 ∷ 0 ∷ 0 ∷ 0 ∷ 0 ∷ 0 ∷ 0 ∷ 0 ∷ 0 ∷ 0 ∷ 0 ∷ 0 ∷ 0 ∷ 0 ∷ 0 ∷ 0 ∷ 0 ∷ 0 ∷ 0 ∷ 0 ∷ []) ∷
    (0 ∷ 0 ∷ 0 ∷ 0 ∷ 0 ∷ 0 ∷ 0 ∷ 0 ∷ 0 ∷ 0 ∷ 0 ∷ 0 ∷ 0 ∷ 999 ∷ 999 ∷ 999 ∷ 999 ∷ 999 ∷ 999 ∷ 999 ∷ 999 ∷ 999 ∷ 999 ∷ 999 ∷ 999 ∷ 0 ∷ 0 ∷ []) ∷ []) ≡ []
unfolding standard_sequence steps_between steps_of_reference steps_by_relation steps_of_unrelated steps_of_related related related_kinds steps_of_value steps_by_kinds steps_to_class steps_to_scalar class_step value_step steps_of_kinds steps_of_pointer steps_of_enumeration steps_of_arithmetic is_text step_of_enumeration steps_of_pointers pointer_to_other pointer_to_class is_derived is_pending promoted built_in_result unary_result unary_family_result unary_by follow is_stepped steps_to before after binary_result family_result compound_result compound compound_on binary_by subscripted added added_to subtracted distance beside_integer compared_by compared_pointers assigned usual common_pointer common_other common_class both_ready is_complete_object is_complete_class conditional arms_of arms_of_arithmetic arms_of_enumeration arms_of_pointer arms_of_void shared_pointers
binary_EQUAL_TO = refl

-- &, a line for each left operand
binary_AMPERSAND : binary_of punct.AMPERSAND (
    (3 ∷ 3 ∷ 3 ∷ 3 ∷ 4 ∷ 5 ∷ 6 ∷ 3 ∷ 999 ∷ 999 ∷ 999 ∷ 3 ∷ 5 ∷ 999 ∷ 999 ∷ 999 ∷ 999 ∷ 999 ∷ 999 ∷ 999 ∷ 999 ∷ 999 ∷ 999 ∷ 999 ∷ 999 ∷ 3 ∷ 3 ∷ []) ∷
    (3 ∷ 3 ∷ 3 ∷ 3 ∷ 4 ∷ 5 ∷ 6 ∷ 3 ∷ 999 ∷ 999 ∷ 999 ∷ 3 ∷ 5 ∷ 999 ∷ 999 ∷ 999 ∷ 999 ∷ 999 ∷ 999 ∷ 999 ∷ 999 ∷ 999 ∷ 999 ∷ 999 ∷ 999 ∷ 3 ∷ 3 ∷ []) ∷
    (3 ∷ 3 ∷ 3 ∷ 3 ∷ 4 ∷ 5 ∷ 6 ∷ 3 ∷ 999 ∷ 999 ∷ 999 ∷ 3 ∷ 5 ∷ 999 ∷ 999 ∷ 999 ∷ 999 ∷ 999 ∷ 999 ∷ 999 ∷ 999 ∷ 999 ∷ 999 ∷ 999 ∷ 999 ∷ 3 ∷ 3 ∷ []) ∷
    (3 ∷ 3 ∷ 3 ∷ 3 ∷ 4 ∷ 5 ∷ 6 ∷ 3 ∷ 999 ∷ 999 ∷ 999 ∷ 3 ∷ 5 ∷ 999 ∷ 999 ∷ 999 ∷ 999 ∷ 999 ∷ 999 ∷ 999 ∷ 999 ∷ 999 ∷ 999 ∷ 999 ∷ 999 ∷ 3 ∷ 3 ∷ []) ∷
    (4 ∷ 4 ∷ 4 ∷ 4 ∷ 4 ∷ 5 ∷ 6 ∷ 4 ∷ 999 ∷ 999 ∷ 999 ∷ 4 ∷ 5 ∷ 999 ∷ 999 ∷ 999 ∷ 999 ∷ 999 ∷ 999 ∷ 999 ∷ 999 ∷ 999 ∷ 999 ∷ 999 ∷ 999 ∷ 4 ∷ 4 ∷ []) ∷
    (5 ∷ 5 ∷ 5 ∷ 5 ∷ 5 ∷ 5 ∷ 6 ∷ 5 ∷ 999 ∷ 999 ∷ 999 ∷ 5 ∷ 5 ∷ 999 ∷ 999 ∷ 999 ∷ 999 ∷ 999 ∷ 999 ∷ 999 ∷ 999 ∷ 999 ∷ 999 ∷ 999 ∷ 999 ∷ 5 ∷ 5 ∷ []) ∷
    (6 ∷ 6 ∷ 6 ∷ 6 ∷ 6 ∷ 6 ∷ 6 ∷ 6 ∷ 999 ∷ 999 ∷ 999 ∷ 6 ∷ 6 ∷ 999 ∷ 999 ∷ 999 ∷ 999 ∷ 999 ∷ 999 ∷ 999 ∷ 999 ∷ 999 ∷ 999 ∷ 999 ∷ 999 ∷ 6 ∷ 6 ∷ []) ∷
    (3 ∷ 3 ∷ 3 ∷ 3 ∷ 4 ∷ 5 ∷ 6 ∷ 3 ∷ 999 ∷ 999 ∷ 999 ∷ 3 ∷ 5 ∷ 999 ∷ 999 ∷ 999 ∷ 999 ∷ 999 ∷ 999 ∷ 999 ∷ 999 ∷ 999 ∷ 999 ∷ 999 ∷ 999 ∷ 3 ∷ 3 ∷ []) ∷
    (999 ∷ 999 ∷ 999 ∷ 999 ∷ 999 ∷ 999 ∷ 999 ∷ 999 ∷ 999 ∷ 999 ∷ 999 ∷ 999 ∷ 999 ∷ 999 ∷ 999 ∷ 999 ∷ 999 ∷ 999 ∷ 999 ∷ 999 ∷ 999 ∷ 999 ∷ 999 ∷ 999 ∷ 999 ∷ 999 ∷ 999 ∷ []) ∷
    (999 ∷ 999 ∷ 999 ∷ 999 ∷ 999 ∷ 999 ∷ 999 ∷ 999 ∷ 999 ∷ 999 ∷ 999 ∷ 999 ∷ 999 ∷ 999 ∷ 999 ∷ 999 ∷ 999 ∷ 999 ∷ 999 ∷ 999 ∷ 999 ∷ 999 ∷ 999 ∷ 999 ∷ 999 ∷ 999 ∷ 999 ∷ []) ∷
    (999 ∷ 999 ∷ 999 ∷ 999 ∷ 999 ∷ 999 ∷ 999 ∷ 999 ∷ 999 ∷ 999 ∷ 999 ∷ 999 ∷ 999 ∷ 999 ∷ 999 ∷ 999 ∷ 999 ∷ 999 ∷ 999 ∷ 999 ∷ 999 ∷ 999 ∷ 999 ∷ 999 ∷ 999 ∷ 999 ∷ 999 ∷ []) ∷
    (3 ∷ 3 ∷ 3 ∷ 3 ∷ 4 ∷ 5 ∷ 6 ∷ 3 ∷ 999 ∷ 999 ∷ 999 ∷ 3 ∷ 5 ∷ 999 ∷ 999 ∷ 999 ∷ 999 ∷ 999 ∷ 999 ∷ 999 ∷ 999 ∷ 999 ∷ 999 ∷ 999 ∷ 999 ∷ 3 ∷ 3 ∷ []) ∷
    (5 ∷ 5 ∷ 5 ∷ 5 ∷ 5 ∷ 5 ∷ 6 ∷ 5 ∷ 999 ∷ 999 ∷ 999 ∷ 5 ∷ 5 ∷ 999 ∷ 999 ∷ 999 ∷ 999 ∷ 999 ∷ 999 ∷ 999 ∷ 999 ∷ 999 ∷ 999 ∷ 999 ∷ 999 ∷ 5 ∷ 5 ∷ []) ∷
    (999 ∷ 999 ∷ 999 ∷ 999 ∷ 999 ∷ 999 ∷ 999 ∷ 999 ∷ 999 ∷ 999 ∷ 999 ∷ 999 ∷ 999 ∷ 999 ∷ 999 ∷ 999 ∷ 999 ∷ 999 ∷ 999 ∷ 999 ∷ 999 ∷ 999 ∷ 999 ∷ 999 ∷ 999 ∷ 999 ∷ 999 ∷ []) ∷
    (999 ∷ 999 ∷ 999 ∷ 999 ∷ 999 ∷ 999 ∷ 999 ∷ 999 ∷ 999 ∷ 999 ∷ 999 ∷ 999 ∷ 999 ∷ 999 ∷ 999 ∷ 999 ∷ 999 ∷ 999 ∷ 999 ∷ 999 ∷ 999 ∷ 999 ∷ 999 ∷ 999 ∷ 999 ∷ 999 ∷ 999 ∷ []) ∷
    (999 ∷ 999 ∷ 999 ∷ 999 ∷ 999 ∷ 999 ∷ 999 ∷ 999 ∷ 999 ∷ 999 ∷ 999 ∷ 999 ∷ 999 ∷ 999 ∷ 999 ∷ 999 ∷ 999 ∷ 999 ∷ 999 ∷ 999 ∷ 999 ∷ 999 ∷ 999 ∷ 999 ∷ 999 ∷ 999 ∷ 999 ∷ []) ∷
    (999 ∷ 999 ∷ 999 ∷ 999 ∷ 999 ∷ 999 ∷ 999 ∷ 999 ∷ 999 ∷ 999 ∷ 999 ∷ 999 ∷ 999 ∷ 999 ∷ 999 ∷ 999 ∷ 999 ∷ 999 ∷ 999 ∷ 999 ∷ 999 ∷ 999 ∷ 999 ∷ 999 ∷ 999 ∷ 999 ∷ 999 ∷ []) ∷
    (999 ∷ 999 ∷ 999 ∷ 999 ∷ 999 ∷ 999 ∷ 999 ∷ 999 ∷ 999 ∷ 999 ∷ 999 ∷ 999 ∷ 999 ∷ 999 ∷ 999 ∷ 999 ∷ 999 ∷ 999 ∷ 999 ∷ 999 ∷ 999 ∷ 999 ∷ 999 ∷ 999 ∷ 999 ∷ 999 ∷ 999 ∷ []) ∷
    (999 ∷ 999 ∷ 999 ∷ 999 ∷ 999 ∷ 999 ∷ 999 ∷ 999 ∷ 999 ∷ 999 ∷ 999 ∷ 999 ∷ 999 ∷ 999 ∷ 999 ∷ 999 ∷ 999 ∷ 999 ∷ 999 ∷ 999 ∷ 999 ∷ 999 ∷ 999 ∷ 999 ∷ 999 ∷ 999 ∷ 999 ∷ []) ∷
    (999 ∷ 999 ∷ 999 ∷ 999 ∷ 999 ∷ 999 ∷ 999 ∷ 999 ∷ 999 ∷ 999 ∷ 999 ∷ 999 ∷ 999 ∷ 999 ∷ 999 ∷ 999 ∷ 999 ∷ 999 ∷ 999 ∷ 999 ∷ 999 ∷ 999 ∷ 999 ∷ 999 ∷ 999 ∷ 999 ∷ 999 ∷ []) ∷
    (999 ∷ 999 ∷ 999 ∷ 999 ∷ 999 ∷ 999 ∷ 999 ∷ 999 ∷ 999 ∷ 999 ∷ 999 ∷ 999 ∷ 999 ∷ 999 ∷ 999 ∷ 999 ∷ 999 ∷ 999 ∷ 999 ∷ 999 ∷ 999 ∷ 999 ∷ 999 ∷ 999 ∷ 999 ∷ 999 ∷ 999 ∷ []) ∷
    (999 ∷ 999 ∷ 999 ∷ 999 ∷ 999 ∷ 999 ∷ 999 ∷ 999 ∷ 999 ∷ 999 ∷ 999 ∷ 999 ∷ 999 ∷ 999 ∷ 999 ∷ 999 ∷ 999 ∷ 999 ∷ 999 ∷ 999 ∷ 999 ∷ 999 ∷ 999 ∷ 999 ∷ 999 ∷ 999 ∷ 999 ∷ []) ∷
    (999 ∷ 999 ∷ 999 ∷ 999 ∷ 999 ∷ 999 ∷ 999 ∷ 999 ∷ 999 ∷ 999 ∷ 999 ∷ 999 ∷ 999 ∷ 999 ∷ 999 ∷ 999 ∷ 999 ∷ 999 ∷ 999 ∷ 999 ∷ 999 ∷ 999 ∷ 999 ∷ 999 ∷ 999 ∷ 999 ∷ 999 ∷ []) ∷
    (999 ∷ 999 ∷ 999 ∷ 999 ∷ 999 ∷ 999 ∷ 999 ∷ 999 ∷ 999 ∷ 999 ∷ 999 ∷ 999 ∷ 999 ∷ 999 ∷ 999 ∷ 999 ∷ 999 ∷ 999 ∷ 999 ∷ 999 ∷ 999 ∷ 999 ∷ 999 ∷ 999 ∷ 999 ∷ 999 ∷ 999 ∷ []) ∷
    (999 ∷ 999 ∷ 999 ∷ 999 ∷ 999 ∷ 999 ∷ 999 ∷ 999 ∷ 999 ∷ 999 ∷ 999 ∷ 999 ∷ 999 ∷ 999 ∷ 999 ∷ 999 ∷ 999 ∷ 999 ∷ 999 ∷ 999 ∷ 999 ∷ 999 ∷ 999 ∷ 999 ∷ 999 ∷ 999 ∷ 999 ∷ []) ∷
    (3 ∷ 3 ∷ 3 ∷ 3 ∷ 4 ∷ 5 ∷ 6 ∷ 3 ∷ 999 ∷ 999 ∷ 999 ∷ 3 ∷ 5 ∷ 999 ∷ 999 ∷ 999 ∷ 999 ∷ 999 ∷ 999 ∷ 999 ∷ 999 ∷ 999 ∷ 999 ∷ 999 ∷ 999 ∷ 3 ∷ 3 ∷ []) ∷
    (3 ∷ 3 ∷ 3 ∷ 3 ∷ 4 ∷ 5 ∷ 6 ∷ 3 ∷ 999 ∷ 999 ∷ 999 ∷ 3 ∷ 5 ∷ 999 ∷ 999 ∷ 999 ∷ 999 ∷ 999 ∷ 999 ∷ 999 ∷ 999 ∷ 999 ∷ 999 ∷ 999 ∷ 999 ∷ 3 ∷ 3 ∷ []) ∷ []) ≡ []
unfolding standard_sequence steps_between steps_of_reference steps_by_relation steps_of_unrelated steps_of_related related related_kinds steps_of_value steps_by_kinds steps_to_class steps_to_scalar class_step value_step steps_of_kinds steps_of_pointer steps_of_enumeration steps_of_arithmetic is_text step_of_enumeration steps_of_pointers pointer_to_other pointer_to_class is_derived is_pending promoted built_in_result unary_result unary_family_result unary_by follow is_stepped steps_to before after binary_result family_result compound_result compound compound_on binary_by subscripted added added_to subtracted distance beside_integer compared_by compared_pointers assigned usual common_pointer common_other common_class both_ready is_complete_object is_complete_class conditional arms_of arms_of_arithmetic arms_of_enumeration arms_of_pointer arms_of_void shared_pointers
binary_AMPERSAND = refl

-- &&, a line for each left operand
binary_LOGICAL_AND : binary_of punct.LOGICAL_AND (
    (0 ∷ 0 ∷ 0 ∷ 0 ∷ 0 ∷ 0 ∷ 0 ∷ 0 ∷ 0 ∷ 0 ∷ 0 ∷ 0 ∷ 0 ∷ 0 ∷ 0 ∷ 0 ∷ 0 ∷ 0 ∷ 0 ∷ 0 ∷ 0 ∷ 0 ∷ 0 ∷ 0 ∷ 0 ∷ 0 ∷ 0 ∷ []) ∷
    (0 ∷ 0 ∷ 0 ∷ 0 ∷ 0 ∷ 0 ∷ 0 ∷ 0 ∷ 0 ∷ 0 ∷ 0 ∷ 0 ∷ 0 ∷ 0 ∷ 0 ∷ 0 ∷ 0 ∷ 0 ∷ 0 ∷ 0 ∷ 0 ∷ 0 ∷ 0 ∷ 0 ∷ 0 ∷ 0 ∷ 0 ∷ []) ∷
    (0 ∷ 0 ∷ 0 ∷ 0 ∷ 0 ∷ 0 ∷ 0 ∷ 0 ∷ 0 ∷ 0 ∷ 0 ∷ 0 ∷ 0 ∷ 0 ∷ 0 ∷ 0 ∷ 0 ∷ 0 ∷ 0 ∷ 0 ∷ 0 ∷ 0 ∷ 0 ∷ 0 ∷ 0 ∷ 0 ∷ 0 ∷ []) ∷
    (0 ∷ 0 ∷ 0 ∷ 0 ∷ 0 ∷ 0 ∷ 0 ∷ 0 ∷ 0 ∷ 0 ∷ 0 ∷ 0 ∷ 0 ∷ 0 ∷ 0 ∷ 0 ∷ 0 ∷ 0 ∷ 0 ∷ 0 ∷ 0 ∷ 0 ∷ 0 ∷ 0 ∷ 0 ∷ 0 ∷ 0 ∷ []) ∷
    (0 ∷ 0 ∷ 0 ∷ 0 ∷ 0 ∷ 0 ∷ 0 ∷ 0 ∷ 0 ∷ 0 ∷ 0 ∷ 0 ∷ 0 ∷ 0 ∷ 0 ∷ 0 ∷ 0 ∷ 0 ∷ 0 ∷ 0 ∷ 0 ∷ 0 ∷ 0 ∷ 0 ∷ 0 ∷ 0 ∷ 0 ∷ []) ∷
    (0 ∷ 0 ∷ 0 ∷ 0 ∷ 0 ∷ 0 ∷ 0 ∷ 0 ∷ 0 ∷ 0 ∷ 0 ∷ 0 ∷ 0 ∷ 0 ∷ 0 ∷ 0 ∷ 0 ∷ 0 ∷ 0 ∷ 0 ∷ 0 ∷ 0 ∷ 0 ∷ 0 ∷ 0 ∷ 0 ∷ 0 ∷ []) ∷
    (0 ∷ 0 ∷ 0 ∷ 0 ∷ 0 ∷ 0 ∷ 0 ∷ 0 ∷ 0 ∷ 0 ∷ 0 ∷ 0 ∷ 0 ∷ 0 ∷ 0 ∷ 0 ∷ 0 ∷ 0 ∷ 0 ∷ 0 ∷ 0 ∷ 0 ∷ 0 ∷ 0 ∷ 0 ∷ 0 ∷ 0 ∷ []) ∷
    (0 ∷ 0 ∷ 0 ∷ 0 ∷ 0 ∷ 0 ∷ 0 ∷ 0 ∷ 0 ∷ 0 ∷ 0 ∷ 0 ∷ 0 ∷ 0 ∷ 0 ∷ 0 ∷ 0 ∷ 0 ∷ 0 ∷ 0 ∷ 0 ∷ 0 ∷ 0 ∷ 0 ∷ 0 ∷ 0 ∷ 0 ∷ []) ∷
    (0 ∷ 0 ∷ 0 ∷ 0 ∷ 0 ∷ 0 ∷ 0 ∷ 0 ∷ 0 ∷ 0 ∷ 0 ∷ 0 ∷ 0 ∷ 0 ∷ 0 ∷ 0 ∷ 0 ∷ 0 ∷ 0 ∷ 0 ∷ 0 ∷ 0 ∷ 0 ∷ 0 ∷ 0 ∷ 0 ∷ 0 ∷ []) ∷
    (0 ∷ 0 ∷ 0 ∷ 0 ∷ 0 ∷ 0 ∷ 0 ∷ 0 ∷ 0 ∷ 0 ∷ 0 ∷ 0 ∷ 0 ∷ 0 ∷ 0 ∷ 0 ∷ 0 ∷ 0 ∷ 0 ∷ 0 ∷ 0 ∷ 0 ∷ 0 ∷ 0 ∷ 0 ∷ 0 ∷ 0 ∷ []) ∷
    (0 ∷ 0 ∷ 0 ∷ 0 ∷ 0 ∷ 0 ∷ 0 ∷ 0 ∷ 0 ∷ 0 ∷ 0 ∷ 0 ∷ 0 ∷ 0 ∷ 0 ∷ 0 ∷ 0 ∷ 0 ∷ 0 ∷ 0 ∷ 0 ∷ 0 ∷ 0 ∷ 0 ∷ 0 ∷ 0 ∷ 0 ∷ []) ∷
    (0 ∷ 0 ∷ 0 ∷ 0 ∷ 0 ∷ 0 ∷ 0 ∷ 0 ∷ 0 ∷ 0 ∷ 0 ∷ 0 ∷ 0 ∷ 0 ∷ 0 ∷ 0 ∷ 0 ∷ 0 ∷ 0 ∷ 0 ∷ 0 ∷ 0 ∷ 0 ∷ 0 ∷ 0 ∷ 0 ∷ 0 ∷ []) ∷
    (0 ∷ 0 ∷ 0 ∷ 0 ∷ 0 ∷ 0 ∷ 0 ∷ 0 ∷ 0 ∷ 0 ∷ 0 ∷ 0 ∷ 0 ∷ 0 ∷ 0 ∷ 0 ∷ 0 ∷ 0 ∷ 0 ∷ 0 ∷ 0 ∷ 0 ∷ 0 ∷ 0 ∷ 0 ∷ 0 ∷ 0 ∷ []) ∷
    (0 ∷ 0 ∷ 0 ∷ 0 ∷ 0 ∷ 0 ∷ 0 ∷ 0 ∷ 0 ∷ 0 ∷ 0 ∷ 0 ∷ 0 ∷ 0 ∷ 0 ∷ 0 ∷ 0 ∷ 0 ∷ 0 ∷ 0 ∷ 0 ∷ 0 ∷ 0 ∷ 0 ∷ 0 ∷ 0 ∷ 0 ∷ []) ∷
    (0 ∷ 0 ∷ 0 ∷ 0 ∷ 0 ∷ 0 ∷ 0 ∷ 0 ∷ 0 ∷ 0 ∷ 0 ∷ 0 ∷ 0 ∷ 0 ∷ 0 ∷ 0 ∷ 0 ∷ 0 ∷ 0 ∷ 0 ∷ 0 ∷ 0 ∷ 0 ∷ 0 ∷ 0 ∷ 0 ∷ 0 ∷ []) ∷
    (0 ∷ 0 ∷ 0 ∷ 0 ∷ 0 ∷ 0 ∷ 0 ∷ 0 ∷ 0 ∷ 0 ∷ 0 ∷ 0 ∷ 0 ∷ 0 ∷ 0 ∷ 0 ∷ 0 ∷ 0 ∷ 0 ∷ 0 ∷ 0 ∷ 0 ∷ 0 ∷ 0 ∷ 0 ∷ 0 ∷ 0 ∷ []) ∷
    (0 ∷ 0 ∷ 0 ∷ 0 ∷ 0 ∷ 0 ∷ 0 ∷ 0 ∷ 0 ∷ 0 ∷ 0 ∷ 0 ∷ 0 ∷ 0 ∷ 0 ∷ 0 ∷ 0 ∷ 0 ∷ 0 ∷ 0 ∷ 0 ∷ 0 ∷ 0 ∷ 0 ∷ 0 ∷ 0 ∷ 0 ∷ []) ∷
    (0 ∷ 0 ∷ 0 ∷ 0 ∷ 0 ∷ 0 ∷ 0 ∷ 0 ∷ 0 ∷ 0 ∷ 0 ∷ 0 ∷ 0 ∷ 0 ∷ 0 ∷ 0 ∷ 0 ∷ 0 ∷ 0 ∷ 0 ∷ 0 ∷ 0 ∷ 0 ∷ 0 ∷ 0 ∷ 0 ∷ 0 ∷ []) ∷
    (0 ∷ 0 ∷ 0 ∷ 0 ∷ 0 ∷ 0 ∷ 0 ∷ 0 ∷ 0 ∷ 0 ∷ 0 ∷ 0 ∷ 0 ∷ 0 ∷ 0 ∷ 0 ∷ 0 ∷ 0 ∷ 0 ∷ 0 ∷ 0 ∷ 0 ∷ 0 ∷ 0 ∷ 0 ∷ 0 ∷ 0 ∷ []) ∷
    (0 ∷ 0 ∷ 0 ∷ 0 ∷ 0 ∷ 0 ∷ 0 ∷ 0 ∷ 0 ∷ 0 ∷ 0 ∷ 0 ∷ 0 ∷ 0 ∷ 0 ∷ 0 ∷ 0 ∷ 0 ∷ 0 ∷ 0 ∷ 0 ∷ 0 ∷ 0 ∷ 0 ∷ 0 ∷ 0 ∷ 0 ∷ []) ∷
    (0 ∷ 0 ∷ 0 ∷ 0 ∷ 0 ∷ 0 ∷ 0 ∷ 0 ∷ 0 ∷ 0 ∷ 0 ∷ 0 ∷ 0 ∷ 0 ∷ 0 ∷ 0 ∷ 0 ∷ 0 ∷ 0 ∷ 0 ∷ 0 ∷ 0 ∷ 0 ∷ 0 ∷ 0 ∷ 0 ∷ 0 ∷ []) ∷
    (0 ∷ 0 ∷ 0 ∷ 0 ∷ 0 ∷ 0 ∷ 0 ∷ 0 ∷ 0 ∷ 0 ∷ 0 ∷ 0 ∷ 0 ∷ 0 ∷ 0 ∷ 0 ∷ 0 ∷ 0 ∷ 0 ∷ 0 ∷ 0 ∷ 0 ∷ 0 ∷ 0 ∷ 0 ∷ 0 ∷ 0 ∷ []) ∷
    (0 ∷ 0 ∷ 0 ∷ 0 ∷ 0 ∷ 0 ∷ 0 ∷ 0 ∷ 0 ∷ 0 ∷ 0 ∷ 0 ∷ 0 ∷ 0 ∷ 0 ∷ 0 ∷ 0 ∷ 0 ∷ 0 ∷ 0 ∷ 0 ∷ 0 ∷ 0 ∷ 0 ∷ 0 ∷ 0 ∷ 0 ∷ []) ∷
    (0 ∷ 0 ∷ 0 ∷ 0 ∷ 0 ∷ 0 ∷ 0 ∷ 0 ∷ 0 ∷ 0 ∷ 0 ∷ 0 ∷ 0 ∷ 0 ∷ 0 ∷ 0 ∷ 0 ∷ 0 ∷ 0 ∷ 0 ∷ 0 ∷ 0 ∷ 0 ∷ 0 ∷ 0 ∷ 0 ∷ 0 ∷ []) ∷
    (0 ∷ 0 ∷ 0 ∷ 0 ∷ 0 ∷ 0 ∷ 0 ∷ 0 ∷ 0 ∷ 0 ∷ 0 ∷ 0 ∷ 0 ∷ 0 ∷ 0 ∷ 0 ∷ 0 ∷ 0 ∷ 0 ∷ 0 ∷ 0 ∷ 0 ∷ 0 ∷ 0 ∷ 0 ∷ 0 ∷ 0 ∷ []) ∷
    (0 ∷ 0 ∷ 0 ∷ 0 ∷ 0 ∷ 0 ∷ 0 ∷ 0 ∷ 0 ∷ 0 ∷ 0 ∷ 0 ∷ 0 ∷ 0 ∷ 0 ∷ 0 ∷ 0 ∷ 0 ∷ 0 ∷ 0 ∷ 0 ∷ 0 ∷ 0 ∷ 0 ∷ 0 ∷ 0 ∷ 0 ∷ []) ∷
    (0 ∷ 0 ∷ 0 ∷ 0 ∷ 0 ∷ 0 ∷ 0 ∷ 0 ∷ 0 ∷ 0 ∷ 0 ∷ 0 ∷ 0 ∷ 0 ∷ 0 ∷ 0 ∷ 0 ∷ 0 ∷ 0 ∷ 0 ∷ 0 ∷ 0 ∷ 0 ∷ 0 ∷ 0 ∷ 0 ∷ 0 ∷ []) ∷ []) ≡ []
unfolding standard_sequence steps_between steps_of_reference steps_by_relation steps_of_unrelated steps_of_related related related_kinds steps_of_value steps_by_kinds steps_to_class steps_to_scalar class_step value_step steps_of_kinds steps_of_pointer steps_of_enumeration steps_of_arithmetic is_text step_of_enumeration steps_of_pointers pointer_to_other pointer_to_class is_derived is_pending promoted built_in_result unary_result unary_family_result unary_by follow is_stepped steps_to before after binary_result family_result compound_result compound compound_on binary_by subscripted added added_to subtracted distance beside_integer compared_by compared_pointers assigned usual common_pointer common_other common_class both_ready is_complete_object is_complete_class conditional arms_of arms_of_arithmetic arms_of_enumeration arms_of_pointer arms_of_void shared_pointers
binary_LOGICAL_AND = refl

-- =, a line for each left operand
binary_EQUALS : binary_of punct.EQUALS (
    (103 ∷ 103 ∷ 103 ∷ 103 ∷ 103 ∷ 103 ∷ 103 ∷ 103 ∷ 103 ∷ 103 ∷ 103 ∷ 103 ∷ 103 ∷ 999 ∷ 999 ∷ 999 ∷ 999 ∷ 999 ∷ 999 ∷ 999 ∷ 999 ∷ 999 ∷ 999 ∷ 999 ∷ 999 ∷ 103 ∷ 103 ∷ []) ∷
    (999 ∷ 999 ∷ 999 ∷ 999 ∷ 999 ∷ 999 ∷ 999 ∷ 999 ∷ 999 ∷ 999 ∷ 999 ∷ 999 ∷ 999 ∷ 999 ∷ 999 ∷ 999 ∷ 999 ∷ 999 ∷ 999 ∷ 999 ∷ 999 ∷ 999 ∷ 999 ∷ 999 ∷ 999 ∷ 999 ∷ 999 ∷ []) ∷
    (101 ∷ 101 ∷ 101 ∷ 101 ∷ 101 ∷ 101 ∷ 101 ∷ 101 ∷ 101 ∷ 101 ∷ 101 ∷ 101 ∷ 101 ∷ 999 ∷ 999 ∷ 999 ∷ 999 ∷ 999 ∷ 999 ∷ 999 ∷ 999 ∷ 999 ∷ 999 ∷ 999 ∷ 999 ∷ 101 ∷ 101 ∷ []) ∷
    (100 ∷ 100 ∷ 100 ∷ 100 ∷ 100 ∷ 100 ∷ 100 ∷ 100 ∷ 100 ∷ 100 ∷ 100 ∷ 100 ∷ 100 ∷ 100 ∷ 100 ∷ 100 ∷ 100 ∷ 100 ∷ 100 ∷ 100 ∷ 100 ∷ 100 ∷ 100 ∷ 100 ∷ 100 ∷ 100 ∷ 100 ∷ []) ∷
    (104 ∷ 104 ∷ 104 ∷ 104 ∷ 104 ∷ 104 ∷ 104 ∷ 104 ∷ 104 ∷ 104 ∷ 104 ∷ 104 ∷ 104 ∷ 999 ∷ 999 ∷ 999 ∷ 999 ∷ 999 ∷ 999 ∷ 999 ∷ 999 ∷ 999 ∷ 999 ∷ 999 ∷ 999 ∷ 104 ∷ 104 ∷ []) ∷
    (105 ∷ 105 ∷ 105 ∷ 105 ∷ 105 ∷ 105 ∷ 105 ∷ 105 ∷ 105 ∷ 105 ∷ 105 ∷ 105 ∷ 105 ∷ 999 ∷ 999 ∷ 999 ∷ 999 ∷ 999 ∷ 999 ∷ 999 ∷ 999 ∷ 999 ∷ 999 ∷ 999 ∷ 999 ∷ 105 ∷ 105 ∷ []) ∷
    (106 ∷ 106 ∷ 106 ∷ 106 ∷ 106 ∷ 106 ∷ 106 ∷ 106 ∷ 106 ∷ 106 ∷ 106 ∷ 106 ∷ 106 ∷ 999 ∷ 999 ∷ 999 ∷ 999 ∷ 999 ∷ 999 ∷ 999 ∷ 999 ∷ 999 ∷ 999 ∷ 999 ∷ 999 ∷ 106 ∷ 106 ∷ []) ∷
    (107 ∷ 107 ∷ 107 ∷ 107 ∷ 107 ∷ 107 ∷ 107 ∷ 107 ∷ 107 ∷ 107 ∷ 107 ∷ 107 ∷ 107 ∷ 999 ∷ 999 ∷ 999 ∷ 999 ∷ 999 ∷ 999 ∷ 999 ∷ 999 ∷ 999 ∷ 999 ∷ 999 ∷ 999 ∷ 107 ∷ 107 ∷ []) ∷
    (108 ∷ 108 ∷ 108 ∷ 108 ∷ 108 ∷ 108 ∷ 108 ∷ 108 ∷ 108 ∷ 108 ∷ 108 ∷ 108 ∷ 108 ∷ 999 ∷ 999 ∷ 999 ∷ 999 ∷ 999 ∷ 999 ∷ 999 ∷ 999 ∷ 999 ∷ 999 ∷ 999 ∷ 999 ∷ 108 ∷ 108 ∷ []) ∷
    (109 ∷ 109 ∷ 109 ∷ 109 ∷ 109 ∷ 109 ∷ 109 ∷ 109 ∷ 109 ∷ 109 ∷ 109 ∷ 109 ∷ 109 ∷ 999 ∷ 999 ∷ 999 ∷ 999 ∷ 999 ∷ 999 ∷ 999 ∷ 999 ∷ 999 ∷ 999 ∷ 999 ∷ 999 ∷ 109 ∷ 109 ∷ []) ∷
    (110 ∷ 110 ∷ 110 ∷ 110 ∷ 110 ∷ 110 ∷ 110 ∷ 110 ∷ 110 ∷ 110 ∷ 110 ∷ 110 ∷ 110 ∷ 999 ∷ 999 ∷ 999 ∷ 999 ∷ 999 ∷ 999 ∷ 999 ∷ 999 ∷ 999 ∷ 999 ∷ 999 ∷ 999 ∷ 110 ∷ 110 ∷ []) ∷
    (999 ∷ 999 ∷ 999 ∷ 999 ∷ 999 ∷ 999 ∷ 999 ∷ 999 ∷ 999 ∷ 999 ∷ 999 ∷ 111 ∷ 999 ∷ 999 ∷ 999 ∷ 999 ∷ 999 ∷ 999 ∷ 999 ∷ 999 ∷ 999 ∷ 999 ∷ 999 ∷ 999 ∷ 999 ∷ 999 ∷ 999 ∷ []) ∷
    (999 ∷ 999 ∷ 999 ∷ 999 ∷ 999 ∷ 999 ∷ 999 ∷ 999 ∷ 999 ∷ 999 ∷ 999 ∷ 999 ∷ 112 ∷ 999 ∷ 999 ∷ 999 ∷ 999 ∷ 999 ∷ 999 ∷ 999 ∷ 999 ∷ 999 ∷ 999 ∷ 999 ∷ 999 ∷ 999 ∷ 999 ∷ []) ∷
    (999 ∷ 999 ∷ 999 ∷ 999 ∷ 999 ∷ 999 ∷ 999 ∷ 999 ∷ 999 ∷ 999 ∷ 999 ∷ 999 ∷ 999 ∷ 113 ∷ 999 ∷ 999 ∷ 113 ∷ 999 ∷ 999 ∷ 999 ∷ 999 ∷ 999 ∷ 999 ∷ 999 ∷ 999 ∷ 113 ∷ 999 ∷ []) ∷
    (999 ∷ 999 ∷ 999 ∷ 999 ∷ 999 ∷ 999 ∷ 999 ∷ 999 ∷ 999 ∷ 999 ∷ 999 ∷ 999 ∷ 999 ∷ 114 ∷ 114 ∷ 999 ∷ 114 ∷ 999 ∷ 999 ∷ 999 ∷ 999 ∷ 999 ∷ 999 ∷ 999 ∷ 999 ∷ 114 ∷ 999 ∷ []) ∷
    (999 ∷ 999 ∷ 999 ∷ 999 ∷ 999 ∷ 999 ∷ 999 ∷ 999 ∷ 999 ∷ 999 ∷ 999 ∷ 999 ∷ 999 ∷ 999 ∷ 999 ∷ 999 ∷ 999 ∷ 999 ∷ 999 ∷ 999 ∷ 999 ∷ 999 ∷ 999 ∷ 999 ∷ 999 ∷ 999 ∷ 999 ∷ []) ∷
    (999 ∷ 999 ∷ 999 ∷ 999 ∷ 999 ∷ 999 ∷ 999 ∷ 999 ∷ 999 ∷ 999 ∷ 999 ∷ 999 ∷ 999 ∷ 999 ∷ 999 ∷ 999 ∷ 999 ∷ 999 ∷ 999 ∷ 999 ∷ 999 ∷ 999 ∷ 999 ∷ 999 ∷ 999 ∷ 999 ∷ 999 ∷ []) ∷
    (999 ∷ 999 ∷ 999 ∷ 999 ∷ 999 ∷ 999 ∷ 999 ∷ 999 ∷ 999 ∷ 999 ∷ 999 ∷ 999 ∷ 999 ∷ 999 ∷ 999 ∷ 999 ∷ 999 ∷ 116 ∷ 999 ∷ 999 ∷ 999 ∷ 999 ∷ 999 ∷ 999 ∷ 999 ∷ 116 ∷ 999 ∷ []) ∷
    (999 ∷ 999 ∷ 999 ∷ 999 ∷ 999 ∷ 999 ∷ 999 ∷ 999 ∷ 999 ∷ 999 ∷ 999 ∷ 999 ∷ 999 ∷ 999 ∷ 999 ∷ 999 ∷ 999 ∷ 999 ∷ 117 ∷ 999 ∷ 999 ∷ 999 ∷ 999 ∷ 999 ∷ 999 ∷ 117 ∷ 999 ∷ []) ∷
    (999 ∷ 999 ∷ 999 ∷ 999 ∷ 999 ∷ 999 ∷ 999 ∷ 999 ∷ 999 ∷ 999 ∷ 999 ∷ 999 ∷ 999 ∷ 119 ∷ 999 ∷ 999 ∷ 119 ∷ 119 ∷ 119 ∷ 119 ∷ 999 ∷ 999 ∷ 119 ∷ 999 ∷ 119 ∷ 119 ∷ 999 ∷ []) ∷
    (999 ∷ 999 ∷ 999 ∷ 999 ∷ 999 ∷ 999 ∷ 999 ∷ 999 ∷ 999 ∷ 999 ∷ 999 ∷ 999 ∷ 999 ∷ 120 ∷ 120 ∷ 999 ∷ 120 ∷ 120 ∷ 120 ∷ 120 ∷ 120 ∷ 999 ∷ 120 ∷ 120 ∷ 120 ∷ 120 ∷ 999 ∷ []) ∷
    (999 ∷ 999 ∷ 999 ∷ 999 ∷ 999 ∷ 999 ∷ 999 ∷ 999 ∷ 999 ∷ 999 ∷ 999 ∷ 999 ∷ 999 ∷ 999 ∷ 999 ∷ 999 ∷ 999 ∷ 999 ∷ 999 ∷ 999 ∷ 999 ∷ 135 ∷ 999 ∷ 999 ∷ 999 ∷ 135 ∷ 999 ∷ []) ∷
    (999 ∷ 999 ∷ 999 ∷ 999 ∷ 999 ∷ 999 ∷ 999 ∷ 999 ∷ 999 ∷ 999 ∷ 999 ∷ 999 ∷ 999 ∷ 999 ∷ 999 ∷ 999 ∷ 999 ∷ 999 ∷ 999 ∷ 999 ∷ 999 ∷ 999 ∷ 121 ∷ 999 ∷ 999 ∷ 121 ∷ 999 ∷ []) ∷
    (999 ∷ 999 ∷ 999 ∷ 999 ∷ 999 ∷ 999 ∷ 999 ∷ 999 ∷ 999 ∷ 999 ∷ 999 ∷ 999 ∷ 999 ∷ 999 ∷ 999 ∷ 999 ∷ 999 ∷ 999 ∷ 999 ∷ 999 ∷ 999 ∷ 999 ∷ 999 ∷ 123 ∷ 999 ∷ 123 ∷ 999 ∷ []) ∷
    (999 ∷ 999 ∷ 999 ∷ 999 ∷ 999 ∷ 999 ∷ 999 ∷ 999 ∷ 999 ∷ 999 ∷ 999 ∷ 999 ∷ 999 ∷ 999 ∷ 999 ∷ 999 ∷ 999 ∷ 999 ∷ 999 ∷ 999 ∷ 999 ∷ 999 ∷ 999 ∷ 999 ∷ 124 ∷ 124 ∷ 999 ∷ []) ∷
    (999 ∷ 999 ∷ 999 ∷ 999 ∷ 999 ∷ 999 ∷ 999 ∷ 999 ∷ 999 ∷ 999 ∷ 999 ∷ 999 ∷ 999 ∷ 999 ∷ 999 ∷ 999 ∷ 999 ∷ 999 ∷ 999 ∷ 999 ∷ 999 ∷ 999 ∷ 999 ∷ 999 ∷ 999 ∷ 999 ∷ 999 ∷ []) ∷
    (999 ∷ 999 ∷ 999 ∷ 999 ∷ 999 ∷ 999 ∷ 999 ∷ 999 ∷ 999 ∷ 999 ∷ 999 ∷ 999 ∷ 999 ∷ 999 ∷ 999 ∷ 999 ∷ 999 ∷ 999 ∷ 999 ∷ 999 ∷ 999 ∷ 999 ∷ 999 ∷ 999 ∷ 999 ∷ 999 ∷ 999 ∷ []) ∷ []) ≡ []
unfolding standard_sequence steps_between steps_of_reference steps_by_relation steps_of_unrelated steps_of_related related related_kinds steps_of_value steps_by_kinds steps_to_class steps_to_scalar class_step value_step steps_of_kinds steps_of_pointer steps_of_enumeration steps_of_arithmetic is_text step_of_enumeration steps_of_pointers pointer_to_other pointer_to_class is_derived is_pending promoted built_in_result unary_result unary_family_result unary_by follow is_stepped steps_to before after binary_result family_result compound_result compound compound_on binary_by subscripted added added_to subtracted distance beside_integer compared_by compared_pointers assigned usual common_pointer common_other common_class both_ready is_complete_object is_complete_class conditional arms_of arms_of_arithmetic arms_of_enumeration arms_of_pointer arms_of_void shared_pointers
binary_EQUALS = refl

-- *=, a line for each left operand
binary_STAR_EQUALS : binary_of punct.STAR_EQUALS (
    (103 ∷ 103 ∷ 103 ∷ 103 ∷ 103 ∷ 103 ∷ 103 ∷ 103 ∷ 103 ∷ 103 ∷ 103 ∷ 103 ∷ 103 ∷ 999 ∷ 999 ∷ 999 ∷ 999 ∷ 999 ∷ 999 ∷ 999 ∷ 999 ∷ 999 ∷ 999 ∷ 999 ∷ 999 ∷ 103 ∷ 103 ∷ []) ∷
    (999 ∷ 999 ∷ 999 ∷ 999 ∷ 999 ∷ 999 ∷ 999 ∷ 999 ∷ 999 ∷ 999 ∷ 999 ∷ 999 ∷ 999 ∷ 999 ∷ 999 ∷ 999 ∷ 999 ∷ 999 ∷ 999 ∷ 999 ∷ 999 ∷ 999 ∷ 999 ∷ 999 ∷ 999 ∷ 999 ∷ 999 ∷ []) ∷
    (101 ∷ 101 ∷ 101 ∷ 101 ∷ 101 ∷ 101 ∷ 101 ∷ 101 ∷ 101 ∷ 101 ∷ 101 ∷ 101 ∷ 101 ∷ 999 ∷ 999 ∷ 999 ∷ 999 ∷ 999 ∷ 999 ∷ 999 ∷ 999 ∷ 999 ∷ 999 ∷ 999 ∷ 999 ∷ 101 ∷ 101 ∷ []) ∷
    (100 ∷ 100 ∷ 100 ∷ 100 ∷ 100 ∷ 100 ∷ 100 ∷ 100 ∷ 100 ∷ 100 ∷ 100 ∷ 100 ∷ 100 ∷ 999 ∷ 999 ∷ 999 ∷ 999 ∷ 999 ∷ 999 ∷ 999 ∷ 999 ∷ 999 ∷ 999 ∷ 999 ∷ 999 ∷ 100 ∷ 100 ∷ []) ∷
    (104 ∷ 104 ∷ 104 ∷ 104 ∷ 104 ∷ 104 ∷ 104 ∷ 104 ∷ 104 ∷ 104 ∷ 104 ∷ 104 ∷ 104 ∷ 999 ∷ 999 ∷ 999 ∷ 999 ∷ 999 ∷ 999 ∷ 999 ∷ 999 ∷ 999 ∷ 999 ∷ 999 ∷ 999 ∷ 104 ∷ 104 ∷ []) ∷
    (105 ∷ 105 ∷ 105 ∷ 105 ∷ 105 ∷ 105 ∷ 105 ∷ 105 ∷ 105 ∷ 105 ∷ 105 ∷ 105 ∷ 105 ∷ 999 ∷ 999 ∷ 999 ∷ 999 ∷ 999 ∷ 999 ∷ 999 ∷ 999 ∷ 999 ∷ 999 ∷ 999 ∷ 999 ∷ 105 ∷ 105 ∷ []) ∷
    (106 ∷ 106 ∷ 106 ∷ 106 ∷ 106 ∷ 106 ∷ 106 ∷ 106 ∷ 106 ∷ 106 ∷ 106 ∷ 106 ∷ 106 ∷ 999 ∷ 999 ∷ 999 ∷ 999 ∷ 999 ∷ 999 ∷ 999 ∷ 999 ∷ 999 ∷ 999 ∷ 999 ∷ 999 ∷ 106 ∷ 106 ∷ []) ∷
    (107 ∷ 107 ∷ 107 ∷ 107 ∷ 107 ∷ 107 ∷ 107 ∷ 107 ∷ 107 ∷ 107 ∷ 107 ∷ 107 ∷ 107 ∷ 999 ∷ 999 ∷ 999 ∷ 999 ∷ 999 ∷ 999 ∷ 999 ∷ 999 ∷ 999 ∷ 999 ∷ 999 ∷ 999 ∷ 107 ∷ 107 ∷ []) ∷
    (108 ∷ 108 ∷ 108 ∷ 108 ∷ 108 ∷ 108 ∷ 108 ∷ 108 ∷ 108 ∷ 108 ∷ 108 ∷ 108 ∷ 108 ∷ 999 ∷ 999 ∷ 999 ∷ 999 ∷ 999 ∷ 999 ∷ 999 ∷ 999 ∷ 999 ∷ 999 ∷ 999 ∷ 999 ∷ 108 ∷ 108 ∷ []) ∷
    (109 ∷ 109 ∷ 109 ∷ 109 ∷ 109 ∷ 109 ∷ 109 ∷ 109 ∷ 109 ∷ 109 ∷ 109 ∷ 109 ∷ 109 ∷ 999 ∷ 999 ∷ 999 ∷ 999 ∷ 999 ∷ 999 ∷ 999 ∷ 999 ∷ 999 ∷ 999 ∷ 999 ∷ 999 ∷ 109 ∷ 109 ∷ []) ∷
    (110 ∷ 110 ∷ 110 ∷ 110 ∷ 110 ∷ 110 ∷ 110 ∷ 110 ∷ 110 ∷ 110 ∷ 110 ∷ 110 ∷ 110 ∷ 999 ∷ 999 ∷ 999 ∷ 999 ∷ 999 ∷ 999 ∷ 999 ∷ 999 ∷ 999 ∷ 999 ∷ 999 ∷ 999 ∷ 110 ∷ 110 ∷ []) ∷
    (999 ∷ 999 ∷ 999 ∷ 999 ∷ 999 ∷ 999 ∷ 999 ∷ 999 ∷ 999 ∷ 999 ∷ 999 ∷ 999 ∷ 999 ∷ 999 ∷ 999 ∷ 999 ∷ 999 ∷ 999 ∷ 999 ∷ 999 ∷ 999 ∷ 999 ∷ 999 ∷ 999 ∷ 999 ∷ 999 ∷ 999 ∷ []) ∷
    (999 ∷ 999 ∷ 999 ∷ 999 ∷ 999 ∷ 999 ∷ 999 ∷ 999 ∷ 999 ∷ 999 ∷ 999 ∷ 999 ∷ 999 ∷ 999 ∷ 999 ∷ 999 ∷ 999 ∷ 999 ∷ 999 ∷ 999 ∷ 999 ∷ 999 ∷ 999 ∷ 999 ∷ 999 ∷ 999 ∷ 999 ∷ []) ∷
    (999 ∷ 999 ∷ 999 ∷ 999 ∷ 999 ∷ 999 ∷ 999 ∷ 999 ∷ 999 ∷ 999 ∷ 999 ∷ 999 ∷ 999 ∷ 999 ∷ 999 ∷ 999 ∷ 999 ∷ 999 ∷ 999 ∷ 999 ∷ 999 ∷ 999 ∷ 999 ∷ 999 ∷ 999 ∷ 999 ∷ 999 ∷ []) ∷
    (999 ∷ 999 ∷ 999 ∷ 999 ∷ 999 ∷ 999 ∷ 999 ∷ 999 ∷ 999 ∷ 999 ∷ 999 ∷ 999 ∷ 999 ∷ 999 ∷ 999 ∷ 999 ∷ 999 ∷ 999 ∷ 999 ∷ 999 ∷ 999 ∷ 999 ∷ 999 ∷ 999 ∷ 999 ∷ 999 ∷ 999 ∷ []) ∷
    (999 ∷ 999 ∷ 999 ∷ 999 ∷ 999 ∷ 999 ∷ 999 ∷ 999 ∷ 999 ∷ 999 ∷ 999 ∷ 999 ∷ 999 ∷ 999 ∷ 999 ∷ 999 ∷ 999 ∷ 999 ∷ 999 ∷ 999 ∷ 999 ∷ 999 ∷ 999 ∷ 999 ∷ 999 ∷ 999 ∷ 999 ∷ []) ∷
    (999 ∷ 999 ∷ 999 ∷ 999 ∷ 999 ∷ 999 ∷ 999 ∷ 999 ∷ 999 ∷ 999 ∷ 999 ∷ 999 ∷ 999 ∷ 999 ∷ 999 ∷ 999 ∷ 999 ∷ 999 ∷ 999 ∷ 999 ∷ 999 ∷ 999 ∷ 999 ∷ 999 ∷ 999 ∷ 999 ∷ 999 ∷ []) ∷
    (999 ∷ 999 ∷ 999 ∷ 999 ∷ 999 ∷ 999 ∷ 999 ∷ 999 ∷ 999 ∷ 999 ∷ 999 ∷ 999 ∷ 999 ∷ 999 ∷ 999 ∷ 999 ∷ 999 ∷ 999 ∷ 999 ∷ 999 ∷ 999 ∷ 999 ∷ 999 ∷ 999 ∷ 999 ∷ 999 ∷ 999 ∷ []) ∷
    (999 ∷ 999 ∷ 999 ∷ 999 ∷ 999 ∷ 999 ∷ 999 ∷ 999 ∷ 999 ∷ 999 ∷ 999 ∷ 999 ∷ 999 ∷ 999 ∷ 999 ∷ 999 ∷ 999 ∷ 999 ∷ 999 ∷ 999 ∷ 999 ∷ 999 ∷ 999 ∷ 999 ∷ 999 ∷ 999 ∷ 999 ∷ []) ∷
    (999 ∷ 999 ∷ 999 ∷ 999 ∷ 999 ∷ 999 ∷ 999 ∷ 999 ∷ 999 ∷ 999 ∷ 999 ∷ 999 ∷ 999 ∷ 999 ∷ 999 ∷ 999 ∷ 999 ∷ 999 ∷ 999 ∷ 999 ∷ 999 ∷ 999 ∷ 999 ∷ 999 ∷ 999 ∷ 999 ∷ 999 ∷ []) ∷
    (999 ∷ 999 ∷ 999 ∷ 999 ∷ 999 ∷ 999 ∷ 999 ∷ 999 ∷ 999 ∷ 999 ∷ 999 ∷ 999 ∷ 999 ∷ 999 ∷ 999 ∷ 999 ∷ 999 ∷ 999 ∷ 999 ∷ 999 ∷ 999 ∷ 999 ∷ 999 ∷ 999 ∷ 999 ∷ 999 ∷ 999 ∷ []) ∷
    (999 ∷ 999 ∷ 999 ∷ 999 ∷ 999 ∷ 999 ∷ 999 ∷ 999 ∷ 999 ∷ 999 ∷ 999 ∷ 999 ∷ 999 ∷ 999 ∷ 999 ∷ 999 ∷ 999 ∷ 999 ∷ 999 ∷ 999 ∷ 999 ∷ 999 ∷ 999 ∷ 999 ∷ 999 ∷ 999 ∷ 999 ∷ []) ∷
    (999 ∷ 999 ∷ 999 ∷ 999 ∷ 999 ∷ 999 ∷ 999 ∷ 999 ∷ 999 ∷ 999 ∷ 999 ∷ 999 ∷ 999 ∷ 999 ∷ 999 ∷ 999 ∷ 999 ∷ 999 ∷ 999 ∷ 999 ∷ 999 ∷ 999 ∷ 999 ∷ 999 ∷ 999 ∷ 999 ∷ 999 ∷ []) ∷
    (999 ∷ 999 ∷ 999 ∷ 999 ∷ 999 ∷ 999 ∷ 999 ∷ 999 ∷ 999 ∷ 999 ∷ 999 ∷ 999 ∷ 999 ∷ 999 ∷ 999 ∷ 999 ∷ 999 ∷ 999 ∷ 999 ∷ 999 ∷ 999 ∷ 999 ∷ 999 ∷ 999 ∷ 999 ∷ 999 ∷ 999 ∷ []) ∷
    (999 ∷ 999 ∷ 999 ∷ 999 ∷ 999 ∷ 999 ∷ 999 ∷ 999 ∷ 999 ∷ 999 ∷ 999 ∷ 999 ∷ 999 ∷ 999 ∷ 999 ∷ 999 ∷ 999 ∷ 999 ∷ 999 ∷ 999 ∷ 999 ∷ 999 ∷ 999 ∷ 999 ∷ 999 ∷ 999 ∷ 999 ∷ []) ∷
    (999 ∷ 999 ∷ 999 ∷ 999 ∷ 999 ∷ 999 ∷ 999 ∷ 999 ∷ 999 ∷ 999 ∷ 999 ∷ 999 ∷ 999 ∷ 999 ∷ 999 ∷ 999 ∷ 999 ∷ 999 ∷ 999 ∷ 999 ∷ 999 ∷ 999 ∷ 999 ∷ 999 ∷ 999 ∷ 999 ∷ 999 ∷ []) ∷
    (999 ∷ 999 ∷ 999 ∷ 999 ∷ 999 ∷ 999 ∷ 999 ∷ 999 ∷ 999 ∷ 999 ∷ 999 ∷ 999 ∷ 999 ∷ 999 ∷ 999 ∷ 999 ∷ 999 ∷ 999 ∷ 999 ∷ 999 ∷ 999 ∷ 999 ∷ 999 ∷ 999 ∷ 999 ∷ 999 ∷ 999 ∷ []) ∷ []) ≡ []
unfolding standard_sequence steps_between steps_of_reference steps_by_relation steps_of_unrelated steps_of_related related related_kinds steps_of_value steps_by_kinds steps_to_class steps_to_scalar class_step value_step steps_of_kinds steps_of_pointer steps_of_enumeration steps_of_arithmetic is_text step_of_enumeration steps_of_pointers pointer_to_other pointer_to_class is_derived is_pending promoted built_in_result unary_result unary_family_result unary_by follow is_stepped steps_to before after binary_result family_result compound_result compound compound_on binary_by subscripted added added_to subtracted distance beside_integer compared_by compared_pointers assigned usual common_pointer common_other common_class both_ready is_complete_object is_complete_class conditional arms_of arms_of_arithmetic arms_of_enumeration arms_of_pointer arms_of_void shared_pointers
binary_STAR_EQUALS = refl

-- %=, a line for each left operand
binary_PERCENT_EQUALS : binary_of punct.PERCENT_EQUALS (
    (103 ∷ 103 ∷ 103 ∷ 103 ∷ 103 ∷ 103 ∷ 103 ∷ 103 ∷ 999 ∷ 999 ∷ 999 ∷ 103 ∷ 103 ∷ 999 ∷ 999 ∷ 999 ∷ 999 ∷ 999 ∷ 999 ∷ 999 ∷ 999 ∷ 999 ∷ 999 ∷ 999 ∷ 999 ∷ 103 ∷ 103 ∷ []) ∷
    (999 ∷ 999 ∷ 999 ∷ 999 ∷ 999 ∷ 999 ∷ 999 ∷ 999 ∷ 999 ∷ 999 ∷ 999 ∷ 999 ∷ 999 ∷ 999 ∷ 999 ∷ 999 ∷ 999 ∷ 999 ∷ 999 ∷ 999 ∷ 999 ∷ 999 ∷ 999 ∷ 999 ∷ 999 ∷ 999 ∷ 999 ∷ []) ∷
    (101 ∷ 101 ∷ 101 ∷ 101 ∷ 101 ∷ 101 ∷ 101 ∷ 101 ∷ 999 ∷ 999 ∷ 999 ∷ 101 ∷ 101 ∷ 999 ∷ 999 ∷ 999 ∷ 999 ∷ 999 ∷ 999 ∷ 999 ∷ 999 ∷ 999 ∷ 999 ∷ 999 ∷ 999 ∷ 101 ∷ 101 ∷ []) ∷
    (100 ∷ 100 ∷ 100 ∷ 100 ∷ 100 ∷ 100 ∷ 100 ∷ 100 ∷ 999 ∷ 999 ∷ 999 ∷ 100 ∷ 100 ∷ 999 ∷ 999 ∷ 999 ∷ 999 ∷ 999 ∷ 999 ∷ 999 ∷ 999 ∷ 999 ∷ 999 ∷ 999 ∷ 999 ∷ 100 ∷ 100 ∷ []) ∷
    (104 ∷ 104 ∷ 104 ∷ 104 ∷ 104 ∷ 104 ∷ 104 ∷ 104 ∷ 999 ∷ 999 ∷ 999 ∷ 104 ∷ 104 ∷ 999 ∷ 999 ∷ 999 ∷ 999 ∷ 999 ∷ 999 ∷ 999 ∷ 999 ∷ 999 ∷ 999 ∷ 999 ∷ 999 ∷ 104 ∷ 104 ∷ []) ∷
    (105 ∷ 105 ∷ 105 ∷ 105 ∷ 105 ∷ 105 ∷ 105 ∷ 105 ∷ 999 ∷ 999 ∷ 999 ∷ 105 ∷ 105 ∷ 999 ∷ 999 ∷ 999 ∷ 999 ∷ 999 ∷ 999 ∷ 999 ∷ 999 ∷ 999 ∷ 999 ∷ 999 ∷ 999 ∷ 105 ∷ 105 ∷ []) ∷
    (106 ∷ 106 ∷ 106 ∷ 106 ∷ 106 ∷ 106 ∷ 106 ∷ 106 ∷ 999 ∷ 999 ∷ 999 ∷ 106 ∷ 106 ∷ 999 ∷ 999 ∷ 999 ∷ 999 ∷ 999 ∷ 999 ∷ 999 ∷ 999 ∷ 999 ∷ 999 ∷ 999 ∷ 999 ∷ 106 ∷ 106 ∷ []) ∷
    (107 ∷ 107 ∷ 107 ∷ 107 ∷ 107 ∷ 107 ∷ 107 ∷ 107 ∷ 999 ∷ 999 ∷ 999 ∷ 107 ∷ 107 ∷ 999 ∷ 999 ∷ 999 ∷ 999 ∷ 999 ∷ 999 ∷ 999 ∷ 999 ∷ 999 ∷ 999 ∷ 999 ∷ 999 ∷ 107 ∷ 107 ∷ []) ∷
    (999 ∷ 999 ∷ 999 ∷ 999 ∷ 999 ∷ 999 ∷ 999 ∷ 999 ∷ 999 ∷ 999 ∷ 999 ∷ 999 ∷ 999 ∷ 999 ∷ 999 ∷ 999 ∷ 999 ∷ 999 ∷ 999 ∷ 999 ∷ 999 ∷ 999 ∷ 999 ∷ 999 ∷ 999 ∷ 999 ∷ 999 ∷ []) ∷
    (999 ∷ 999 ∷ 999 ∷ 999 ∷ 999 ∷ 999 ∷ 999 ∷ 999 ∷ 999 ∷ 999 ∷ 999 ∷ 999 ∷ 999 ∷ 999 ∷ 999 ∷ 999 ∷ 999 ∷ 999 ∷ 999 ∷ 999 ∷ 999 ∷ 999 ∷ 999 ∷ 999 ∷ 999 ∷ 999 ∷ 999 ∷ []) ∷
    (999 ∷ 999 ∷ 999 ∷ 999 ∷ 999 ∷ 999 ∷ 999 ∷ 999 ∷ 999 ∷ 999 ∷ 999 ∷ 999 ∷ 999 ∷ 999 ∷ 999 ∷ 999 ∷ 999 ∷ 999 ∷ 999 ∷ 999 ∷ 999 ∷ 999 ∷ 999 ∷ 999 ∷ 999 ∷ 999 ∷ 999 ∷ []) ∷
    (999 ∷ 999 ∷ 999 ∷ 999 ∷ 999 ∷ 999 ∷ 999 ∷ 999 ∷ 999 ∷ 999 ∷ 999 ∷ 999 ∷ 999 ∷ 999 ∷ 999 ∷ 999 ∷ 999 ∷ 999 ∷ 999 ∷ 999 ∷ 999 ∷ 999 ∷ 999 ∷ 999 ∷ 999 ∷ 999 ∷ 999 ∷ []) ∷
    (999 ∷ 999 ∷ 999 ∷ 999 ∷ 999 ∷ 999 ∷ 999 ∷ 999 ∷ 999 ∷ 999 ∷ 999 ∷ 999 ∷ 999 ∷ 999 ∷ 999 ∷ 999 ∷ 999 ∷ 999 ∷ 999 ∷ 999 ∷ 999 ∷ 999 ∷ 999 ∷ 999 ∷ 999 ∷ 999 ∷ 999 ∷ []) ∷
    (999 ∷ 999 ∷ 999 ∷ 999 ∷ 999 ∷ 999 ∷ 999 ∷ 999 ∷ 999 ∷ 999 ∷ 999 ∷ 999 ∷ 999 ∷ 999 ∷ 999 ∷ 999 ∷ 999 ∷ 999 ∷ 999 ∷ 999 ∷ 999 ∷ 999 ∷ 999 ∷ 999 ∷ 999 ∷ 999 ∷ 999 ∷ []) ∷
    (999 ∷ 999 ∷ 999 ∷ 999 ∷ 999 ∷ 999 ∷ 999 ∷ 999 ∷ 999 ∷ 999 ∷ 999 ∷ 999 ∷ 999 ∷ 999 ∷ 999 ∷ 999 ∷ 999 ∷ 999 ∷ 999 ∷ 999 ∷ 999 ∷ 999 ∷ 999 ∷ 999 ∷ 999 ∷ 999 ∷ 999 ∷ []) ∷
    (999 ∷ 999 ∷ 999 ∷ 999 ∷ 999 ∷ 999 ∷ 999 ∷ 999 ∷ 999 ∷ 999 ∷ 999 ∷ 999 ∷ 999 ∷ 999 ∷ 999 ∷ 999 ∷ 999 ∷ 999 ∷ 999 ∷ 999 ∷ 999 ∷ 999 ∷ 999 ∷ 999 ∷ 999 ∷ 999 ∷ 999 ∷ []) ∷
    (999 ∷ 999 ∷ 999 ∷ 999 ∷ 999 ∷ 999 ∷ 999 ∷ 999 ∷ 999 ∷ 999 ∷ 999 ∷ 999 ∷ 999 ∷ 999 ∷ 999 ∷ 999 ∷ 999 ∷ 999 ∷ 999 ∷ 999 ∷ 999 ∷ 999 ∷ 999 ∷ 999 ∷ 999 ∷ 999 ∷ 999 ∷ []) ∷
    (999 ∷ 999 ∷ 999 ∷ 999 ∷ 999 ∷ 999 ∷ 999 ∷ 999 ∷ 999 ∷ 999 ∷ 999 ∷ 999 ∷ 999 ∷ 999 ∷ 999 ∷ 999 ∷ 999 ∷ 999 ∷ 999 ∷ 999 ∷ 999 ∷ 999 ∷ 999 ∷ 999 ∷ 999 ∷ 999 ∷ 999 ∷ []) ∷
    (999 ∷ 999 ∷ 999 ∷ 999 ∷ 999 ∷ 999 ∷ 999 ∷ 999 ∷ 999 ∷ 999 ∷ 999 ∷ 999 ∷ 999 ∷ 999 ∷ 999 ∷ 999 ∷ 999 ∷ 999 ∷ 999 ∷ 999 ∷ 999 ∷ 999 ∷ 999 ∷ 999 ∷ 999 ∷ 999 ∷ 999 ∷ []) ∷
    (999 ∷ 999 ∷ 999 ∷ 999 ∷ 999 ∷ 999 ∷ 999 ∷ 999 ∷ 999 ∷ 999 ∷ 999 ∷ 999 ∷ 999 ∷ 999 ∷ 999 ∷ 999 ∷ 999 ∷ 999 ∷ 999 ∷ 999 ∷ 999 ∷ 999 ∷ 999 ∷ 999 ∷ 999 ∷ 999 ∷ 999 ∷ []) ∷
    (999 ∷ 999 ∷ 999 ∷ 999 ∷ 999 ∷ 999 ∷ 999 ∷ 999 ∷ 999 ∷ 999 ∷ 999 ∷ 999 ∷ 999 ∷ 999 ∷ 999 ∷ 999 ∷ 999 ∷ 999 ∷ 999 ∷ 999 ∷ 999 ∷ 999 ∷ 999 ∷ 999 ∷ 999 ∷ 999 ∷ 999 ∷ []) ∷
    (999 ∷ 999 ∷ 999 ∷ 999 ∷ 999 ∷ 999 ∷ 999 ∷ 999 ∷ 999 ∷ 999 ∷ 999 ∷ 999 ∷ 999 ∷ 999 ∷ 999 ∷ 999 ∷ 999 ∷ 999 ∷ 999 ∷ 999 ∷ 999 ∷ 999 ∷ 999 ∷ 999 ∷ 999 ∷ 999 ∷ 999 ∷ []) ∷
    (999 ∷ 999 ∷ 999 ∷ 999 ∷ 999 ∷ 999 ∷ 999 ∷ 999 ∷ 999 ∷ 999 ∷ 999 ∷ 999 ∷ 999 ∷ 999 ∷ 999 ∷ 999 ∷ 999 ∷ 999 ∷ 999 ∷ 999 ∷ 999 ∷ 999 ∷ 999 ∷ 999 ∷ 999 ∷ 999 ∷ 999 ∷ []) ∷
    (999 ∷ 999 ∷ 999 ∷ 999 ∷ 999 ∷ 999 ∷ 999 ∷ 999 ∷ 999 ∷ 999 ∷ 999 ∷ 999 ∷ 999 ∷ 999 ∷ 999 ∷ 999 ∷ 999 ∷ 999 ∷ 999 ∷ 999 ∷ 999 ∷ 999 ∷ 999 ∷ 999 ∷ 999 ∷ 999 ∷ 999 ∷ []) ∷
    (999 ∷ 999 ∷ 999 ∷ 999 ∷ 999 ∷ 999 ∷ 999 ∷ 999 ∷ 999 ∷ 999 ∷ 999 ∷ 999 ∷ 999 ∷ 999 ∷ 999 ∷ 999 ∷ 999 ∷ 999 ∷ 999 ∷ 999 ∷ 999 ∷ 999 ∷ 999 ∷ 999 ∷ 999 ∷ 999 ∷ 999 ∷ []) ∷
    (999 ∷ 999 ∷ 999 ∷ 999 ∷ 999 ∷ 999 ∷ 999 ∷ 999 ∷ 999 ∷ 999 ∷ 999 ∷ 999 ∷ 999 ∷ 999 ∷ 999 ∷ 999 ∷ 999 ∷ 999 ∷ 999 ∷ 999 ∷ 999 ∷ 999 ∷ 999 ∷ 999 ∷ 999 ∷ 999 ∷ 999 ∷ []) ∷
    (999 ∷ 999 ∷ 999 ∷ 999 ∷ 999 ∷ 999 ∷ 999 ∷ 999 ∷ 999 ∷ 999 ∷ 999 ∷ 999 ∷ 999 ∷ 999 ∷ 999 ∷ 999 ∷ 999 ∷ 999 ∷ 999 ∷ 999 ∷ 999 ∷ 999 ∷ 999 ∷ 999 ∷ 999 ∷ 999 ∷ 999 ∷ []) ∷ []) ≡ []
unfolding standard_sequence steps_between steps_of_reference steps_by_relation steps_of_unrelated steps_of_related related related_kinds steps_of_value steps_by_kinds steps_to_class steps_to_scalar class_step value_step steps_of_kinds steps_of_pointer steps_of_enumeration steps_of_arithmetic is_text step_of_enumeration steps_of_pointers pointer_to_other pointer_to_class is_derived is_pending promoted built_in_result unary_result unary_family_result unary_by follow is_stepped steps_to before after binary_result family_result compound_result compound compound_on binary_by subscripted added added_to subtracted distance beside_integer compared_by compared_pointers assigned usual common_pointer common_other common_class both_ready is_complete_object is_complete_class conditional arms_of arms_of_arithmetic arms_of_enumeration arms_of_pointer arms_of_void shared_pointers
binary_PERCENT_EQUALS = refl

-- +=, a line for each left operand
binary_PLUS_EQUALS : binary_of punct.PLUS_EQUALS (
    (103 ∷ 103 ∷ 103 ∷ 103 ∷ 103 ∷ 103 ∷ 103 ∷ 103 ∷ 103 ∷ 103 ∷ 103 ∷ 103 ∷ 103 ∷ 999 ∷ 999 ∷ 999 ∷ 999 ∷ 999 ∷ 999 ∷ 999 ∷ 999 ∷ 999 ∷ 999 ∷ 999 ∷ 999 ∷ 103 ∷ 103 ∷ []) ∷
    (999 ∷ 999 ∷ 999 ∷ 999 ∷ 999 ∷ 999 ∷ 999 ∷ 999 ∷ 999 ∷ 999 ∷ 999 ∷ 999 ∷ 999 ∷ 999 ∷ 999 ∷ 999 ∷ 999 ∷ 999 ∷ 999 ∷ 999 ∷ 999 ∷ 999 ∷ 999 ∷ 999 ∷ 999 ∷ 999 ∷ 999 ∷ []) ∷
    (101 ∷ 101 ∷ 101 ∷ 101 ∷ 101 ∷ 101 ∷ 101 ∷ 101 ∷ 101 ∷ 101 ∷ 101 ∷ 101 ∷ 101 ∷ 999 ∷ 999 ∷ 999 ∷ 999 ∷ 999 ∷ 999 ∷ 999 ∷ 999 ∷ 999 ∷ 999 ∷ 999 ∷ 999 ∷ 101 ∷ 101 ∷ []) ∷
    (100 ∷ 100 ∷ 100 ∷ 100 ∷ 100 ∷ 100 ∷ 100 ∷ 100 ∷ 100 ∷ 100 ∷ 100 ∷ 100 ∷ 100 ∷ 100 ∷ 100 ∷ 100 ∷ 100 ∷ 100 ∷ 100 ∷ 998 ∷ 998 ∷ 998 ∷ 100 ∷ 100 ∷ 999 ∷ 100 ∷ 100 ∷ []) ∷
    (104 ∷ 104 ∷ 104 ∷ 104 ∷ 104 ∷ 104 ∷ 104 ∷ 104 ∷ 104 ∷ 104 ∷ 104 ∷ 104 ∷ 104 ∷ 999 ∷ 999 ∷ 999 ∷ 999 ∷ 999 ∷ 999 ∷ 999 ∷ 999 ∷ 999 ∷ 999 ∷ 999 ∷ 999 ∷ 104 ∷ 104 ∷ []) ∷
    (105 ∷ 105 ∷ 105 ∷ 105 ∷ 105 ∷ 105 ∷ 105 ∷ 105 ∷ 105 ∷ 105 ∷ 105 ∷ 105 ∷ 105 ∷ 999 ∷ 999 ∷ 999 ∷ 999 ∷ 999 ∷ 999 ∷ 999 ∷ 999 ∷ 999 ∷ 999 ∷ 999 ∷ 999 ∷ 105 ∷ 105 ∷ []) ∷
    (106 ∷ 106 ∷ 106 ∷ 106 ∷ 106 ∷ 106 ∷ 106 ∷ 106 ∷ 106 ∷ 106 ∷ 106 ∷ 106 ∷ 106 ∷ 999 ∷ 999 ∷ 999 ∷ 999 ∷ 999 ∷ 999 ∷ 999 ∷ 999 ∷ 999 ∷ 999 ∷ 999 ∷ 999 ∷ 106 ∷ 106 ∷ []) ∷
    (107 ∷ 107 ∷ 107 ∷ 107 ∷ 107 ∷ 107 ∷ 107 ∷ 107 ∷ 107 ∷ 107 ∷ 107 ∷ 107 ∷ 107 ∷ 999 ∷ 999 ∷ 999 ∷ 999 ∷ 999 ∷ 999 ∷ 999 ∷ 999 ∷ 999 ∷ 999 ∷ 999 ∷ 999 ∷ 107 ∷ 107 ∷ []) ∷
    (108 ∷ 108 ∷ 108 ∷ 108 ∷ 108 ∷ 108 ∷ 108 ∷ 108 ∷ 108 ∷ 108 ∷ 108 ∷ 108 ∷ 108 ∷ 999 ∷ 999 ∷ 999 ∷ 999 ∷ 999 ∷ 999 ∷ 999 ∷ 999 ∷ 999 ∷ 999 ∷ 999 ∷ 999 ∷ 108 ∷ 108 ∷ []) ∷
    (109 ∷ 109 ∷ 109 ∷ 109 ∷ 109 ∷ 109 ∷ 109 ∷ 109 ∷ 109 ∷ 109 ∷ 109 ∷ 109 ∷ 109 ∷ 999 ∷ 999 ∷ 999 ∷ 999 ∷ 999 ∷ 999 ∷ 999 ∷ 999 ∷ 999 ∷ 999 ∷ 999 ∷ 999 ∷ 109 ∷ 109 ∷ []) ∷
    (110 ∷ 110 ∷ 110 ∷ 110 ∷ 110 ∷ 110 ∷ 110 ∷ 110 ∷ 110 ∷ 110 ∷ 110 ∷ 110 ∷ 110 ∷ 999 ∷ 999 ∷ 999 ∷ 999 ∷ 999 ∷ 999 ∷ 999 ∷ 999 ∷ 999 ∷ 999 ∷ 999 ∷ 999 ∷ 110 ∷ 110 ∷ []) ∷
    (999 ∷ 999 ∷ 999 ∷ 999 ∷ 999 ∷ 999 ∷ 999 ∷ 999 ∷ 999 ∷ 999 ∷ 999 ∷ 999 ∷ 999 ∷ 999 ∷ 999 ∷ 999 ∷ 999 ∷ 999 ∷ 999 ∷ 999 ∷ 999 ∷ 999 ∷ 999 ∷ 999 ∷ 999 ∷ 999 ∷ 999 ∷ []) ∷
    (999 ∷ 999 ∷ 999 ∷ 999 ∷ 999 ∷ 999 ∷ 999 ∷ 999 ∷ 999 ∷ 999 ∷ 999 ∷ 999 ∷ 999 ∷ 999 ∷ 999 ∷ 999 ∷ 999 ∷ 999 ∷ 999 ∷ 999 ∷ 999 ∷ 999 ∷ 999 ∷ 999 ∷ 999 ∷ 999 ∷ 999 ∷ []) ∷
    (113 ∷ 113 ∷ 113 ∷ 113 ∷ 113 ∷ 113 ∷ 113 ∷ 113 ∷ 999 ∷ 999 ∷ 999 ∷ 113 ∷ 113 ∷ 999 ∷ 999 ∷ 999 ∷ 999 ∷ 999 ∷ 999 ∷ 999 ∷ 999 ∷ 999 ∷ 999 ∷ 999 ∷ 999 ∷ 113 ∷ 113 ∷ []) ∷
    (114 ∷ 114 ∷ 114 ∷ 114 ∷ 114 ∷ 114 ∷ 114 ∷ 114 ∷ 999 ∷ 999 ∷ 999 ∷ 114 ∷ 114 ∷ 999 ∷ 999 ∷ 999 ∷ 999 ∷ 999 ∷ 999 ∷ 999 ∷ 999 ∷ 999 ∷ 999 ∷ 999 ∷ 999 ∷ 114 ∷ 114 ∷ []) ∷
    (999 ∷ 999 ∷ 999 ∷ 999 ∷ 999 ∷ 999 ∷ 999 ∷ 999 ∷ 999 ∷ 999 ∷ 999 ∷ 999 ∷ 999 ∷ 999 ∷ 999 ∷ 999 ∷ 999 ∷ 999 ∷ 999 ∷ 999 ∷ 999 ∷ 999 ∷ 999 ∷ 999 ∷ 999 ∷ 999 ∷ 999 ∷ []) ∷
    (999 ∷ 999 ∷ 999 ∷ 999 ∷ 999 ∷ 999 ∷ 999 ∷ 999 ∷ 999 ∷ 999 ∷ 999 ∷ 999 ∷ 999 ∷ 999 ∷ 999 ∷ 999 ∷ 999 ∷ 999 ∷ 999 ∷ 999 ∷ 999 ∷ 999 ∷ 999 ∷ 999 ∷ 999 ∷ 999 ∷ 999 ∷ []) ∷
    (116 ∷ 116 ∷ 116 ∷ 116 ∷ 116 ∷ 116 ∷ 116 ∷ 116 ∷ 999 ∷ 999 ∷ 999 ∷ 116 ∷ 116 ∷ 999 ∷ 999 ∷ 999 ∷ 999 ∷ 999 ∷ 999 ∷ 999 ∷ 999 ∷ 999 ∷ 999 ∷ 999 ∷ 999 ∷ 116 ∷ 116 ∷ []) ∷
    (117 ∷ 117 ∷ 117 ∷ 117 ∷ 117 ∷ 117 ∷ 117 ∷ 117 ∷ 999 ∷ 999 ∷ 999 ∷ 117 ∷ 117 ∷ 999 ∷ 999 ∷ 999 ∷ 999 ∷ 999 ∷ 999 ∷ 999 ∷ 999 ∷ 999 ∷ 999 ∷ 999 ∷ 999 ∷ 117 ∷ 117 ∷ []) ∷
    (998 ∷ 998 ∷ 998 ∷ 998 ∷ 998 ∷ 998 ∷ 998 ∷ 998 ∷ 999 ∷ 999 ∷ 999 ∷ 999 ∷ 999 ∷ 999 ∷ 999 ∷ 999 ∷ 999 ∷ 999 ∷ 999 ∷ 999 ∷ 999 ∷ 999 ∷ 999 ∷ 999 ∷ 999 ∷ 998 ∷ 998 ∷ []) ∷
    (998 ∷ 998 ∷ 998 ∷ 998 ∷ 998 ∷ 998 ∷ 998 ∷ 998 ∷ 999 ∷ 999 ∷ 999 ∷ 999 ∷ 999 ∷ 999 ∷ 999 ∷ 999 ∷ 999 ∷ 999 ∷ 999 ∷ 999 ∷ 999 ∷ 999 ∷ 999 ∷ 999 ∷ 999 ∷ 998 ∷ 998 ∷ []) ∷
    (998 ∷ 998 ∷ 998 ∷ 998 ∷ 998 ∷ 998 ∷ 998 ∷ 998 ∷ 999 ∷ 999 ∷ 999 ∷ 999 ∷ 999 ∷ 999 ∷ 999 ∷ 999 ∷ 999 ∷ 999 ∷ 999 ∷ 999 ∷ 999 ∷ 999 ∷ 999 ∷ 999 ∷ 999 ∷ 998 ∷ 998 ∷ []) ∷
    (121 ∷ 121 ∷ 121 ∷ 121 ∷ 121 ∷ 121 ∷ 121 ∷ 121 ∷ 999 ∷ 999 ∷ 999 ∷ 121 ∷ 121 ∷ 999 ∷ 999 ∷ 999 ∷ 999 ∷ 999 ∷ 999 ∷ 999 ∷ 999 ∷ 999 ∷ 999 ∷ 999 ∷ 999 ∷ 121 ∷ 121 ∷ []) ∷
    (123 ∷ 123 ∷ 123 ∷ 123 ∷ 123 ∷ 123 ∷ 123 ∷ 123 ∷ 999 ∷ 999 ∷ 999 ∷ 123 ∷ 123 ∷ 999 ∷ 999 ∷ 999 ∷ 999 ∷ 999 ∷ 999 ∷ 999 ∷ 999 ∷ 999 ∷ 999 ∷ 999 ∷ 999 ∷ 123 ∷ 123 ∷ []) ∷
    (999 ∷ 999 ∷ 999 ∷ 999 ∷ 999 ∷ 999 ∷ 999 ∷ 999 ∷ 999 ∷ 999 ∷ 999 ∷ 999 ∷ 999 ∷ 999 ∷ 999 ∷ 999 ∷ 999 ∷ 999 ∷ 999 ∷ 999 ∷ 999 ∷ 999 ∷ 999 ∷ 999 ∷ 999 ∷ 999 ∷ 999 ∷ []) ∷
    (999 ∷ 999 ∷ 999 ∷ 999 ∷ 999 ∷ 999 ∷ 999 ∷ 999 ∷ 999 ∷ 999 ∷ 999 ∷ 999 ∷ 999 ∷ 999 ∷ 999 ∷ 999 ∷ 999 ∷ 999 ∷ 999 ∷ 999 ∷ 999 ∷ 999 ∷ 999 ∷ 999 ∷ 999 ∷ 999 ∷ 999 ∷ []) ∷
    (999 ∷ 999 ∷ 999 ∷ 999 ∷ 999 ∷ 999 ∷ 999 ∷ 999 ∷ 999 ∷ 999 ∷ 999 ∷ 999 ∷ 999 ∷ 999 ∷ 999 ∷ 999 ∷ 999 ∷ 999 ∷ 999 ∷ 999 ∷ 999 ∷ 999 ∷ 999 ∷ 999 ∷ 999 ∷ 999 ∷ 999 ∷ []) ∷ []) ≡ []
unfolding standard_sequence steps_between steps_of_reference steps_by_relation steps_of_unrelated steps_of_related related related_kinds steps_of_value steps_by_kinds steps_to_class steps_to_scalar class_step value_step steps_of_kinds steps_of_pointer steps_of_enumeration steps_of_arithmetic is_text step_of_enumeration steps_of_pointers pointer_to_other pointer_to_class is_derived is_pending promoted built_in_result unary_result unary_family_result unary_by follow is_stepped steps_to before after binary_result family_result compound_result compound compound_on binary_by subscripted added added_to subtracted distance beside_integer compared_by compared_pointers assigned usual common_pointer common_other common_class both_ready is_complete_object is_complete_class conditional arms_of arms_of_arithmetic arms_of_enumeration arms_of_pointer arms_of_void shared_pointers
binary_PLUS_EQUALS = refl

-- -=, a line for each left operand
binary_MINUS_EQUALS : binary_of punct.MINUS_EQUALS (
    (103 ∷ 103 ∷ 103 ∷ 103 ∷ 103 ∷ 103 ∷ 103 ∷ 103 ∷ 103 ∷ 103 ∷ 103 ∷ 103 ∷ 103 ∷ 999 ∷ 999 ∷ 999 ∷ 999 ∷ 999 ∷ 999 ∷ 999 ∷ 999 ∷ 999 ∷ 999 ∷ 999 ∷ 999 ∷ 103 ∷ 103 ∷ []) ∷
    (999 ∷ 999 ∷ 999 ∷ 999 ∷ 999 ∷ 999 ∷ 999 ∷ 999 ∷ 999 ∷ 999 ∷ 999 ∷ 999 ∷ 999 ∷ 999 ∷ 999 ∷ 999 ∷ 999 ∷ 999 ∷ 999 ∷ 999 ∷ 999 ∷ 999 ∷ 999 ∷ 999 ∷ 999 ∷ 999 ∷ 999 ∷ []) ∷
    (101 ∷ 101 ∷ 101 ∷ 101 ∷ 101 ∷ 101 ∷ 101 ∷ 101 ∷ 101 ∷ 101 ∷ 101 ∷ 101 ∷ 101 ∷ 999 ∷ 999 ∷ 999 ∷ 999 ∷ 999 ∷ 999 ∷ 999 ∷ 999 ∷ 999 ∷ 999 ∷ 999 ∷ 999 ∷ 101 ∷ 101 ∷ []) ∷
    (100 ∷ 100 ∷ 100 ∷ 100 ∷ 100 ∷ 100 ∷ 100 ∷ 100 ∷ 100 ∷ 100 ∷ 100 ∷ 100 ∷ 100 ∷ 999 ∷ 999 ∷ 999 ∷ 999 ∷ 999 ∷ 999 ∷ 999 ∷ 999 ∷ 999 ∷ 999 ∷ 999 ∷ 999 ∷ 100 ∷ 100 ∷ []) ∷
    (104 ∷ 104 ∷ 104 ∷ 104 ∷ 104 ∷ 104 ∷ 104 ∷ 104 ∷ 104 ∷ 104 ∷ 104 ∷ 104 ∷ 104 ∷ 999 ∷ 999 ∷ 999 ∷ 999 ∷ 999 ∷ 999 ∷ 999 ∷ 999 ∷ 999 ∷ 999 ∷ 999 ∷ 999 ∷ 104 ∷ 104 ∷ []) ∷
    (105 ∷ 105 ∷ 105 ∷ 105 ∷ 105 ∷ 105 ∷ 105 ∷ 105 ∷ 105 ∷ 105 ∷ 105 ∷ 105 ∷ 105 ∷ 999 ∷ 999 ∷ 999 ∷ 999 ∷ 999 ∷ 999 ∷ 999 ∷ 999 ∷ 999 ∷ 999 ∷ 999 ∷ 999 ∷ 105 ∷ 105 ∷ []) ∷
    (106 ∷ 106 ∷ 106 ∷ 106 ∷ 106 ∷ 106 ∷ 106 ∷ 106 ∷ 106 ∷ 106 ∷ 106 ∷ 106 ∷ 106 ∷ 999 ∷ 999 ∷ 999 ∷ 999 ∷ 999 ∷ 999 ∷ 999 ∷ 999 ∷ 999 ∷ 999 ∷ 999 ∷ 999 ∷ 106 ∷ 106 ∷ []) ∷
    (107 ∷ 107 ∷ 107 ∷ 107 ∷ 107 ∷ 107 ∷ 107 ∷ 107 ∷ 107 ∷ 107 ∷ 107 ∷ 107 ∷ 107 ∷ 999 ∷ 999 ∷ 999 ∷ 999 ∷ 999 ∷ 999 ∷ 999 ∷ 999 ∷ 999 ∷ 999 ∷ 999 ∷ 999 ∷ 107 ∷ 107 ∷ []) ∷
    (108 ∷ 108 ∷ 108 ∷ 108 ∷ 108 ∷ 108 ∷ 108 ∷ 108 ∷ 108 ∷ 108 ∷ 108 ∷ 108 ∷ 108 ∷ 999 ∷ 999 ∷ 999 ∷ 999 ∷ 999 ∷ 999 ∷ 999 ∷ 999 ∷ 999 ∷ 999 ∷ 999 ∷ 999 ∷ 108 ∷ 108 ∷ []) ∷
    (109 ∷ 109 ∷ 109 ∷ 109 ∷ 109 ∷ 109 ∷ 109 ∷ 109 ∷ 109 ∷ 109 ∷ 109 ∷ 109 ∷ 109 ∷ 999 ∷ 999 ∷ 999 ∷ 999 ∷ 999 ∷ 999 ∷ 999 ∷ 999 ∷ 999 ∷ 999 ∷ 999 ∷ 999 ∷ 109 ∷ 109 ∷ []) ∷
    (110 ∷ 110 ∷ 110 ∷ 110 ∷ 110 ∷ 110 ∷ 110 ∷ 110 ∷ 110 ∷ 110 ∷ 110 ∷ 110 ∷ 110 ∷ 999 ∷ 999 ∷ 999 ∷ 999 ∷ 999 ∷ 999 ∷ 999 ∷ 999 ∷ 999 ∷ 999 ∷ 999 ∷ 999 ∷ 110 ∷ 110 ∷ []) ∷
    (999 ∷ 999 ∷ 999 ∷ 999 ∷ 999 ∷ 999 ∷ 999 ∷ 999 ∷ 999 ∷ 999 ∷ 999 ∷ 999 ∷ 999 ∷ 999 ∷ 999 ∷ 999 ∷ 999 ∷ 999 ∷ 999 ∷ 999 ∷ 999 ∷ 999 ∷ 999 ∷ 999 ∷ 999 ∷ 999 ∷ 999 ∷ []) ∷
    (999 ∷ 999 ∷ 999 ∷ 999 ∷ 999 ∷ 999 ∷ 999 ∷ 999 ∷ 999 ∷ 999 ∷ 999 ∷ 999 ∷ 999 ∷ 999 ∷ 999 ∷ 999 ∷ 999 ∷ 999 ∷ 999 ∷ 999 ∷ 999 ∷ 999 ∷ 999 ∷ 999 ∷ 999 ∷ 999 ∷ 999 ∷ []) ∷
    (113 ∷ 113 ∷ 113 ∷ 113 ∷ 113 ∷ 113 ∷ 113 ∷ 113 ∷ 999 ∷ 999 ∷ 999 ∷ 113 ∷ 113 ∷ 999 ∷ 999 ∷ 999 ∷ 999 ∷ 999 ∷ 999 ∷ 999 ∷ 999 ∷ 999 ∷ 999 ∷ 999 ∷ 999 ∷ 113 ∷ 113 ∷ []) ∷
    (114 ∷ 114 ∷ 114 ∷ 114 ∷ 114 ∷ 114 ∷ 114 ∷ 114 ∷ 999 ∷ 999 ∷ 999 ∷ 114 ∷ 114 ∷ 999 ∷ 999 ∷ 999 ∷ 999 ∷ 999 ∷ 999 ∷ 999 ∷ 999 ∷ 999 ∷ 999 ∷ 999 ∷ 999 ∷ 114 ∷ 114 ∷ []) ∷
    (999 ∷ 999 ∷ 999 ∷ 999 ∷ 999 ∷ 999 ∷ 999 ∷ 999 ∷ 999 ∷ 999 ∷ 999 ∷ 999 ∷ 999 ∷ 999 ∷ 999 ∷ 999 ∷ 999 ∷ 999 ∷ 999 ∷ 999 ∷ 999 ∷ 999 ∷ 999 ∷ 999 ∷ 999 ∷ 999 ∷ 999 ∷ []) ∷
    (999 ∷ 999 ∷ 999 ∷ 999 ∷ 999 ∷ 999 ∷ 999 ∷ 999 ∷ 999 ∷ 999 ∷ 999 ∷ 999 ∷ 999 ∷ 999 ∷ 999 ∷ 999 ∷ 999 ∷ 999 ∷ 999 ∷ 999 ∷ 999 ∷ 999 ∷ 999 ∷ 999 ∷ 999 ∷ 999 ∷ 999 ∷ []) ∷
    (116 ∷ 116 ∷ 116 ∷ 116 ∷ 116 ∷ 116 ∷ 116 ∷ 116 ∷ 999 ∷ 999 ∷ 999 ∷ 116 ∷ 116 ∷ 999 ∷ 999 ∷ 999 ∷ 999 ∷ 999 ∷ 999 ∷ 999 ∷ 999 ∷ 999 ∷ 999 ∷ 999 ∷ 999 ∷ 116 ∷ 116 ∷ []) ∷
    (117 ∷ 117 ∷ 117 ∷ 117 ∷ 117 ∷ 117 ∷ 117 ∷ 117 ∷ 999 ∷ 999 ∷ 999 ∷ 117 ∷ 117 ∷ 999 ∷ 999 ∷ 999 ∷ 999 ∷ 999 ∷ 999 ∷ 999 ∷ 999 ∷ 999 ∷ 999 ∷ 999 ∷ 999 ∷ 117 ∷ 117 ∷ []) ∷
    (998 ∷ 998 ∷ 998 ∷ 998 ∷ 998 ∷ 998 ∷ 998 ∷ 998 ∷ 999 ∷ 999 ∷ 999 ∷ 999 ∷ 999 ∷ 999 ∷ 999 ∷ 999 ∷ 999 ∷ 999 ∷ 999 ∷ 999 ∷ 999 ∷ 999 ∷ 999 ∷ 999 ∷ 999 ∷ 998 ∷ 998 ∷ []) ∷
    (998 ∷ 998 ∷ 998 ∷ 998 ∷ 998 ∷ 998 ∷ 998 ∷ 998 ∷ 999 ∷ 999 ∷ 999 ∷ 999 ∷ 999 ∷ 999 ∷ 999 ∷ 999 ∷ 999 ∷ 999 ∷ 999 ∷ 999 ∷ 999 ∷ 999 ∷ 999 ∷ 999 ∷ 999 ∷ 998 ∷ 998 ∷ []) ∷
    (998 ∷ 998 ∷ 998 ∷ 998 ∷ 998 ∷ 998 ∷ 998 ∷ 998 ∷ 999 ∷ 999 ∷ 999 ∷ 999 ∷ 999 ∷ 999 ∷ 999 ∷ 999 ∷ 999 ∷ 999 ∷ 999 ∷ 999 ∷ 999 ∷ 999 ∷ 999 ∷ 999 ∷ 999 ∷ 998 ∷ 998 ∷ []) ∷
    (121 ∷ 121 ∷ 121 ∷ 121 ∷ 121 ∷ 121 ∷ 121 ∷ 121 ∷ 999 ∷ 999 ∷ 999 ∷ 121 ∷ 121 ∷ 999 ∷ 999 ∷ 999 ∷ 999 ∷ 999 ∷ 999 ∷ 999 ∷ 999 ∷ 999 ∷ 999 ∷ 999 ∷ 999 ∷ 121 ∷ 121 ∷ []) ∷
    (123 ∷ 123 ∷ 123 ∷ 123 ∷ 123 ∷ 123 ∷ 123 ∷ 123 ∷ 999 ∷ 999 ∷ 999 ∷ 123 ∷ 123 ∷ 999 ∷ 999 ∷ 999 ∷ 999 ∷ 999 ∷ 999 ∷ 999 ∷ 999 ∷ 999 ∷ 999 ∷ 999 ∷ 999 ∷ 123 ∷ 123 ∷ []) ∷
    (999 ∷ 999 ∷ 999 ∷ 999 ∷ 999 ∷ 999 ∷ 999 ∷ 999 ∷ 999 ∷ 999 ∷ 999 ∷ 999 ∷ 999 ∷ 999 ∷ 999 ∷ 999 ∷ 999 ∷ 999 ∷ 999 ∷ 999 ∷ 999 ∷ 999 ∷ 999 ∷ 999 ∷ 999 ∷ 999 ∷ 999 ∷ []) ∷
    (999 ∷ 999 ∷ 999 ∷ 999 ∷ 999 ∷ 999 ∷ 999 ∷ 999 ∷ 999 ∷ 999 ∷ 999 ∷ 999 ∷ 999 ∷ 999 ∷ 999 ∷ 999 ∷ 999 ∷ 999 ∷ 999 ∷ 999 ∷ 999 ∷ 999 ∷ 999 ∷ 999 ∷ 999 ∷ 999 ∷ 999 ∷ []) ∷
    (999 ∷ 999 ∷ 999 ∷ 999 ∷ 999 ∷ 999 ∷ 999 ∷ 999 ∷ 999 ∷ 999 ∷ 999 ∷ 999 ∷ 999 ∷ 999 ∷ 999 ∷ 999 ∷ 999 ∷ 999 ∷ 999 ∷ 999 ∷ 999 ∷ 999 ∷ 999 ∷ 999 ∷ 999 ∷ 999 ∷ 999 ∷ []) ∷ []) ≡ []
unfolding standard_sequence steps_between steps_of_reference steps_by_relation steps_of_unrelated steps_of_related related related_kinds steps_of_value steps_by_kinds steps_to_class steps_to_scalar class_step value_step steps_of_kinds steps_of_pointer steps_of_enumeration steps_of_arithmetic is_text step_of_enumeration steps_of_pointers pointer_to_other pointer_to_class is_derived is_pending promoted built_in_result unary_result unary_family_result unary_by follow is_stepped steps_to before after binary_result family_result compound_result compound compound_on binary_by subscripted added added_to subtracted distance beside_integer compared_by compared_pointers assigned usual common_pointer common_other common_class both_ready is_complete_object is_complete_class conditional arms_of arms_of_arithmetic arms_of_enumeration arms_of_pointer arms_of_void shared_pointers
binary_MINUS_EQUALS = refl

-- >>=, a line for each left operand
binary_SHIFT_RIGHT_EQUALS : binary_of punct.SHIFT_RIGHT_EQUALS (
    (103 ∷ 103 ∷ 103 ∷ 103 ∷ 103 ∷ 103 ∷ 103 ∷ 103 ∷ 999 ∷ 999 ∷ 999 ∷ 103 ∷ 103 ∷ 999 ∷ 999 ∷ 999 ∷ 999 ∷ 999 ∷ 999 ∷ 999 ∷ 999 ∷ 999 ∷ 999 ∷ 999 ∷ 999 ∷ 103 ∷ 103 ∷ []) ∷
    (999 ∷ 999 ∷ 999 ∷ 999 ∷ 999 ∷ 999 ∷ 999 ∷ 999 ∷ 999 ∷ 999 ∷ 999 ∷ 999 ∷ 999 ∷ 999 ∷ 999 ∷ 999 ∷ 999 ∷ 999 ∷ 999 ∷ 999 ∷ 999 ∷ 999 ∷ 999 ∷ 999 ∷ 999 ∷ 999 ∷ 999 ∷ []) ∷
    (101 ∷ 101 ∷ 101 ∷ 101 ∷ 101 ∷ 101 ∷ 101 ∷ 101 ∷ 999 ∷ 999 ∷ 999 ∷ 101 ∷ 101 ∷ 999 ∷ 999 ∷ 999 ∷ 999 ∷ 999 ∷ 999 ∷ 999 ∷ 999 ∷ 999 ∷ 999 ∷ 999 ∷ 999 ∷ 101 ∷ 101 ∷ []) ∷
    (100 ∷ 100 ∷ 100 ∷ 100 ∷ 100 ∷ 100 ∷ 100 ∷ 100 ∷ 999 ∷ 999 ∷ 999 ∷ 100 ∷ 100 ∷ 999 ∷ 999 ∷ 999 ∷ 999 ∷ 999 ∷ 999 ∷ 999 ∷ 999 ∷ 999 ∷ 999 ∷ 999 ∷ 999 ∷ 100 ∷ 100 ∷ []) ∷
    (104 ∷ 104 ∷ 104 ∷ 104 ∷ 104 ∷ 104 ∷ 104 ∷ 104 ∷ 999 ∷ 999 ∷ 999 ∷ 104 ∷ 104 ∷ 999 ∷ 999 ∷ 999 ∷ 999 ∷ 999 ∷ 999 ∷ 999 ∷ 999 ∷ 999 ∷ 999 ∷ 999 ∷ 999 ∷ 104 ∷ 104 ∷ []) ∷
    (105 ∷ 105 ∷ 105 ∷ 105 ∷ 105 ∷ 105 ∷ 105 ∷ 105 ∷ 999 ∷ 999 ∷ 999 ∷ 105 ∷ 105 ∷ 999 ∷ 999 ∷ 999 ∷ 999 ∷ 999 ∷ 999 ∷ 999 ∷ 999 ∷ 999 ∷ 999 ∷ 999 ∷ 999 ∷ 105 ∷ 105 ∷ []) ∷
    (106 ∷ 106 ∷ 106 ∷ 106 ∷ 106 ∷ 106 ∷ 106 ∷ 106 ∷ 999 ∷ 999 ∷ 999 ∷ 106 ∷ 106 ∷ 999 ∷ 999 ∷ 999 ∷ 999 ∷ 999 ∷ 999 ∷ 999 ∷ 999 ∷ 999 ∷ 999 ∷ 999 ∷ 999 ∷ 106 ∷ 106 ∷ []) ∷
    (107 ∷ 107 ∷ 107 ∷ 107 ∷ 107 ∷ 107 ∷ 107 ∷ 107 ∷ 999 ∷ 999 ∷ 999 ∷ 107 ∷ 107 ∷ 999 ∷ 999 ∷ 999 ∷ 999 ∷ 999 ∷ 999 ∷ 999 ∷ 999 ∷ 999 ∷ 999 ∷ 999 ∷ 999 ∷ 107 ∷ 107 ∷ []) ∷
    (999 ∷ 999 ∷ 999 ∷ 999 ∷ 999 ∷ 999 ∷ 999 ∷ 999 ∷ 999 ∷ 999 ∷ 999 ∷ 999 ∷ 999 ∷ 999 ∷ 999 ∷ 999 ∷ 999 ∷ 999 ∷ 999 ∷ 999 ∷ 999 ∷ 999 ∷ 999 ∷ 999 ∷ 999 ∷ 999 ∷ 999 ∷ []) ∷
    (999 ∷ 999 ∷ 999 ∷ 999 ∷ 999 ∷ 999 ∷ 999 ∷ 999 ∷ 999 ∷ 999 ∷ 999 ∷ 999 ∷ 999 ∷ 999 ∷ 999 ∷ 999 ∷ 999 ∷ 999 ∷ 999 ∷ 999 ∷ 999 ∷ 999 ∷ 999 ∷ 999 ∷ 999 ∷ 999 ∷ 999 ∷ []) ∷
    (999 ∷ 999 ∷ 999 ∷ 999 ∷ 999 ∷ 999 ∷ 999 ∷ 999 ∷ 999 ∷ 999 ∷ 999 ∷ 999 ∷ 999 ∷ 999 ∷ 999 ∷ 999 ∷ 999 ∷ 999 ∷ 999 ∷ 999 ∷ 999 ∷ 999 ∷ 999 ∷ 999 ∷ 999 ∷ 999 ∷ 999 ∷ []) ∷
    (999 ∷ 999 ∷ 999 ∷ 999 ∷ 999 ∷ 999 ∷ 999 ∷ 999 ∷ 999 ∷ 999 ∷ 999 ∷ 999 ∷ 999 ∷ 999 ∷ 999 ∷ 999 ∷ 999 ∷ 999 ∷ 999 ∷ 999 ∷ 999 ∷ 999 ∷ 999 ∷ 999 ∷ 999 ∷ 999 ∷ 999 ∷ []) ∷
    (999 ∷ 999 ∷ 999 ∷ 999 ∷ 999 ∷ 999 ∷ 999 ∷ 999 ∷ 999 ∷ 999 ∷ 999 ∷ 999 ∷ 999 ∷ 999 ∷ 999 ∷ 999 ∷ 999 ∷ 999 ∷ 999 ∷ 999 ∷ 999 ∷ 999 ∷ 999 ∷ 999 ∷ 999 ∷ 999 ∷ 999 ∷ []) ∷
    (999 ∷ 999 ∷ 999 ∷ 999 ∷ 999 ∷ 999 ∷ 999 ∷ 999 ∷ 999 ∷ 999 ∷ 999 ∷ 999 ∷ 999 ∷ 999 ∷ 999 ∷ 999 ∷ 999 ∷ 999 ∷ 999 ∷ 999 ∷ 999 ∷ 999 ∷ 999 ∷ 999 ∷ 999 ∷ 999 ∷ 999 ∷ []) ∷
    (999 ∷ 999 ∷ 999 ∷ 999 ∷ 999 ∷ 999 ∷ 999 ∷ 999 ∷ 999 ∷ 999 ∷ 999 ∷ 999 ∷ 999 ∷ 999 ∷ 999 ∷ 999 ∷ 999 ∷ 999 ∷ 999 ∷ 999 ∷ 999 ∷ 999 ∷ 999 ∷ 999 ∷ 999 ∷ 999 ∷ 999 ∷ []) ∷
    (999 ∷ 999 ∷ 999 ∷ 999 ∷ 999 ∷ 999 ∷ 999 ∷ 999 ∷ 999 ∷ 999 ∷ 999 ∷ 999 ∷ 999 ∷ 999 ∷ 999 ∷ 999 ∷ 999 ∷ 999 ∷ 999 ∷ 999 ∷ 999 ∷ 999 ∷ 999 ∷ 999 ∷ 999 ∷ 999 ∷ 999 ∷ []) ∷
    (999 ∷ 999 ∷ 999 ∷ 999 ∷ 999 ∷ 999 ∷ 999 ∷ 999 ∷ 999 ∷ 999 ∷ 999 ∷ 999 ∷ 999 ∷ 999 ∷ 999 ∷ 999 ∷ 999 ∷ 999 ∷ 999 ∷ 999 ∷ 999 ∷ 999 ∷ 999 ∷ 999 ∷ 999 ∷ 999 ∷ 999 ∷ []) ∷
    (999 ∷ 999 ∷ 999 ∷ 999 ∷ 999 ∷ 999 ∷ 999 ∷ 999 ∷ 999 ∷ 999 ∷ 999 ∷ 999 ∷ 999 ∷ 999 ∷ 999 ∷ 999 ∷ 999 ∷ 999 ∷ 999 ∷ 999 ∷ 999 ∷ 999 ∷ 999 ∷ 999 ∷ 999 ∷ 999 ∷ 999 ∷ []) ∷
    (999 ∷ 999 ∷ 999 ∷ 999 ∷ 999 ∷ 999 ∷ 999 ∷ 999 ∷ 999 ∷ 999 ∷ 999 ∷ 999 ∷ 999 ∷ 999 ∷ 999 ∷ 999 ∷ 999 ∷ 999 ∷ 999 ∷ 999 ∷ 999 ∷ 999 ∷ 999 ∷ 999 ∷ 999 ∷ 999 ∷ 999 ∷ []) ∷
    (999 ∷ 999 ∷ 999 ∷ 999 ∷ 999 ∷ 999 ∷ 999 ∷ 999 ∷ 999 ∷ 999 ∷ 999 ∷ 999 ∷ 999 ∷ 999 ∷ 999 ∷ 999 ∷ 999 ∷ 999 ∷ 999 ∷ 999 ∷ 999 ∷ 999 ∷ 999 ∷ 999 ∷ 999 ∷ 999 ∷ 999 ∷ []) ∷
    (999 ∷ 999 ∷ 999 ∷ 999 ∷ 999 ∷ 999 ∷ 999 ∷ 999 ∷ 999 ∷ 999 ∷ 999 ∷ 999 ∷ 999 ∷ 999 ∷ 999 ∷ 999 ∷ 999 ∷ 999 ∷ 999 ∷ 999 ∷ 999 ∷ 999 ∷ 999 ∷ 999 ∷ 999 ∷ 999 ∷ 999 ∷ []) ∷
    (999 ∷ 999 ∷ 999 ∷ 999 ∷ 999 ∷ 999 ∷ 999 ∷ 999 ∷ 999 ∷ 999 ∷ 999 ∷ 999 ∷ 999 ∷ 999 ∷ 999 ∷ 999 ∷ 999 ∷ 999 ∷ 999 ∷ 999 ∷ 999 ∷ 999 ∷ 999 ∷ 999 ∷ 999 ∷ 999 ∷ 999 ∷ []) ∷
    (999 ∷ 999 ∷ 999 ∷ 999 ∷ 999 ∷ 999 ∷ 999 ∷ 999 ∷ 999 ∷ 999 ∷ 999 ∷ 999 ∷ 999 ∷ 999 ∷ 999 ∷ 999 ∷ 999 ∷ 999 ∷ 999 ∷ 999 ∷ 999 ∷ 999 ∷ 999 ∷ 999 ∷ 999 ∷ 999 ∷ 999 ∷ []) ∷
    (999 ∷ 999 ∷ 999 ∷ 999 ∷ 999 ∷ 999 ∷ 999 ∷ 999 ∷ 999 ∷ 999 ∷ 999 ∷ 999 ∷ 999 ∷ 999 ∷ 999 ∷ 999 ∷ 999 ∷ 999 ∷ 999 ∷ 999 ∷ 999 ∷ 999 ∷ 999 ∷ 999 ∷ 999 ∷ 999 ∷ 999 ∷ []) ∷
    (999 ∷ 999 ∷ 999 ∷ 999 ∷ 999 ∷ 999 ∷ 999 ∷ 999 ∷ 999 ∷ 999 ∷ 999 ∷ 999 ∷ 999 ∷ 999 ∷ 999 ∷ 999 ∷ 999 ∷ 999 ∷ 999 ∷ 999 ∷ 999 ∷ 999 ∷ 999 ∷ 999 ∷ 999 ∷ 999 ∷ 999 ∷ []) ∷
    (999 ∷ 999 ∷ 999 ∷ 999 ∷ 999 ∷ 999 ∷ 999 ∷ 999 ∷ 999 ∷ 999 ∷ 999 ∷ 999 ∷ 999 ∷ 999 ∷ 999 ∷ 999 ∷ 999 ∷ 999 ∷ 999 ∷ 999 ∷ 999 ∷ 999 ∷ 999 ∷ 999 ∷ 999 ∷ 999 ∷ 999 ∷ []) ∷
    (999 ∷ 999 ∷ 999 ∷ 999 ∷ 999 ∷ 999 ∷ 999 ∷ 999 ∷ 999 ∷ 999 ∷ 999 ∷ 999 ∷ 999 ∷ 999 ∷ 999 ∷ 999 ∷ 999 ∷ 999 ∷ 999 ∷ 999 ∷ 999 ∷ 999 ∷ 999 ∷ 999 ∷ 999 ∷ 999 ∷ 999 ∷ []) ∷ []) ≡ []
unfolding standard_sequence steps_between steps_of_reference steps_by_relation steps_of_unrelated steps_of_related related related_kinds steps_of_value steps_by_kinds steps_to_class steps_to_scalar class_step value_step steps_of_kinds steps_of_pointer steps_of_enumeration steps_of_arithmetic is_text step_of_enumeration steps_of_pointers pointer_to_other pointer_to_class is_derived is_pending promoted built_in_result unary_result unary_family_result unary_by follow is_stepped steps_to before after binary_result family_result compound_result compound compound_on binary_by subscripted added added_to subtracted distance beside_integer compared_by compared_pointers assigned usual common_pointer common_other common_class both_ready is_complete_object is_complete_class conditional arms_of arms_of_arithmetic arms_of_enumeration arms_of_pointer arms_of_void shared_pointers
binary_SHIFT_RIGHT_EQUALS = refl

-- |=, a line for each left operand
binary_BAR_EQUALS : binary_of punct.BAR_EQUALS (
    (103 ∷ 103 ∷ 103 ∷ 103 ∷ 103 ∷ 103 ∷ 103 ∷ 103 ∷ 999 ∷ 999 ∷ 999 ∷ 103 ∷ 103 ∷ 999 ∷ 999 ∷ 999 ∷ 999 ∷ 999 ∷ 999 ∷ 999 ∷ 999 ∷ 999 ∷ 999 ∷ 999 ∷ 999 ∷ 103 ∷ 103 ∷ []) ∷
    (999 ∷ 999 ∷ 999 ∷ 999 ∷ 999 ∷ 999 ∷ 999 ∷ 999 ∷ 999 ∷ 999 ∷ 999 ∷ 999 ∷ 999 ∷ 999 ∷ 999 ∷ 999 ∷ 999 ∷ 999 ∷ 999 ∷ 999 ∷ 999 ∷ 999 ∷ 999 ∷ 999 ∷ 999 ∷ 999 ∷ 999 ∷ []) ∷
    (101 ∷ 101 ∷ 101 ∷ 101 ∷ 101 ∷ 101 ∷ 101 ∷ 101 ∷ 999 ∷ 999 ∷ 999 ∷ 101 ∷ 101 ∷ 999 ∷ 999 ∷ 999 ∷ 999 ∷ 999 ∷ 999 ∷ 999 ∷ 999 ∷ 999 ∷ 999 ∷ 999 ∷ 999 ∷ 101 ∷ 101 ∷ []) ∷
    (100 ∷ 100 ∷ 100 ∷ 100 ∷ 100 ∷ 100 ∷ 100 ∷ 100 ∷ 999 ∷ 999 ∷ 999 ∷ 100 ∷ 100 ∷ 999 ∷ 999 ∷ 999 ∷ 999 ∷ 999 ∷ 999 ∷ 999 ∷ 999 ∷ 999 ∷ 999 ∷ 999 ∷ 999 ∷ 100 ∷ 100 ∷ []) ∷
    (104 ∷ 104 ∷ 104 ∷ 104 ∷ 104 ∷ 104 ∷ 104 ∷ 104 ∷ 999 ∷ 999 ∷ 999 ∷ 104 ∷ 104 ∷ 999 ∷ 999 ∷ 999 ∷ 999 ∷ 999 ∷ 999 ∷ 999 ∷ 999 ∷ 999 ∷ 999 ∷ 999 ∷ 999 ∷ 104 ∷ 104 ∷ []) ∷
    (105 ∷ 105 ∷ 105 ∷ 105 ∷ 105 ∷ 105 ∷ 105 ∷ 105 ∷ 999 ∷ 999 ∷ 999 ∷ 105 ∷ 105 ∷ 999 ∷ 999 ∷ 999 ∷ 999 ∷ 999 ∷ 999 ∷ 999 ∷ 999 ∷ 999 ∷ 999 ∷ 999 ∷ 999 ∷ 105 ∷ 105 ∷ []) ∷
    (106 ∷ 106 ∷ 106 ∷ 106 ∷ 106 ∷ 106 ∷ 106 ∷ 106 ∷ 999 ∷ 999 ∷ 999 ∷ 106 ∷ 106 ∷ 999 ∷ 999 ∷ 999 ∷ 999 ∷ 999 ∷ 999 ∷ 999 ∷ 999 ∷ 999 ∷ 999 ∷ 999 ∷ 999 ∷ 106 ∷ 106 ∷ []) ∷
    (107 ∷ 107 ∷ 107 ∷ 107 ∷ 107 ∷ 107 ∷ 107 ∷ 107 ∷ 999 ∷ 999 ∷ 999 ∷ 107 ∷ 107 ∷ 999 ∷ 999 ∷ 999 ∷ 999 ∷ 999 ∷ 999 ∷ 999 ∷ 999 ∷ 999 ∷ 999 ∷ 999 ∷ 999 ∷ 107 ∷ 107 ∷ []) ∷
    (999 ∷ 999 ∷ 999 ∷ 999 ∷ 999 ∷ 999 ∷ 999 ∷ 999 ∷ 999 ∷ 999 ∷ 999 ∷ 999 ∷ 999 ∷ 999 ∷ 999 ∷ 999 ∷ 999 ∷ 999 ∷ 999 ∷ 999 ∷ 999 ∷ 999 ∷ 999 ∷ 999 ∷ 999 ∷ 999 ∷ 999 ∷ []) ∷
    (999 ∷ 999 ∷ 999 ∷ 999 ∷ 999 ∷ 999 ∷ 999 ∷ 999 ∷ 999 ∷ 999 ∷ 999 ∷ 999 ∷ 999 ∷ 999 ∷ 999 ∷ 999 ∷ 999 ∷ 999 ∷ 999 ∷ 999 ∷ 999 ∷ 999 ∷ 999 ∷ 999 ∷ 999 ∷ 999 ∷ 999 ∷ []) ∷
    (999 ∷ 999 ∷ 999 ∷ 999 ∷ 999 ∷ 999 ∷ 999 ∷ 999 ∷ 999 ∷ 999 ∷ 999 ∷ 999 ∷ 999 ∷ 999 ∷ 999 ∷ 999 ∷ 999 ∷ 999 ∷ 999 ∷ 999 ∷ 999 ∷ 999 ∷ 999 ∷ 999 ∷ 999 ∷ 999 ∷ 999 ∷ []) ∷
    (999 ∷ 999 ∷ 999 ∷ 999 ∷ 999 ∷ 999 ∷ 999 ∷ 999 ∷ 999 ∷ 999 ∷ 999 ∷ 999 ∷ 999 ∷ 999 ∷ 999 ∷ 999 ∷ 999 ∷ 999 ∷ 999 ∷ 999 ∷ 999 ∷ 999 ∷ 999 ∷ 999 ∷ 999 ∷ 999 ∷ 999 ∷ []) ∷
    (999 ∷ 999 ∷ 999 ∷ 999 ∷ 999 ∷ 999 ∷ 999 ∷ 999 ∷ 999 ∷ 999 ∷ 999 ∷ 999 ∷ 999 ∷ 999 ∷ 999 ∷ 999 ∷ 999 ∷ 999 ∷ 999 ∷ 999 ∷ 999 ∷ 999 ∷ 999 ∷ 999 ∷ 999 ∷ 999 ∷ 999 ∷ []) ∷
    (999 ∷ 999 ∷ 999 ∷ 999 ∷ 999 ∷ 999 ∷ 999 ∷ 999 ∷ 999 ∷ 999 ∷ 999 ∷ 999 ∷ 999 ∷ 999 ∷ 999 ∷ 999 ∷ 999 ∷ 999 ∷ 999 ∷ 999 ∷ 999 ∷ 999 ∷ 999 ∷ 999 ∷ 999 ∷ 999 ∷ 999 ∷ []) ∷
    (999 ∷ 999 ∷ 999 ∷ 999 ∷ 999 ∷ 999 ∷ 999 ∷ 999 ∷ 999 ∷ 999 ∷ 999 ∷ 999 ∷ 999 ∷ 999 ∷ 999 ∷ 999 ∷ 999 ∷ 999 ∷ 999 ∷ 999 ∷ 999 ∷ 999 ∷ 999 ∷ 999 ∷ 999 ∷ 999 ∷ 999 ∷ []) ∷
    (999 ∷ 999 ∷ 999 ∷ 999 ∷ 999 ∷ 999 ∷ 999 ∷ 999 ∷ 999 ∷ 999 ∷ 999 ∷ 999 ∷ 999 ∷ 999 ∷ 999 ∷ 999 ∷ 999 ∷ 999 ∷ 999 ∷ 999 ∷ 999 ∷ 999 ∷ 999 ∷ 999 ∷ 999 ∷ 999 ∷ 999 ∷ []) ∷
    (999 ∷ 999 ∷ 999 ∷ 999 ∷ 999 ∷ 999 ∷ 999 ∷ 999 ∷ 999 ∷ 999 ∷ 999 ∷ 999 ∷ 999 ∷ 999 ∷ 999 ∷ 999 ∷ 999 ∷ 999 ∷ 999 ∷ 999 ∷ 999 ∷ 999 ∷ 999 ∷ 999 ∷ 999 ∷ 999 ∷ 999 ∷ []) ∷
    (999 ∷ 999 ∷ 999 ∷ 999 ∷ 999 ∷ 999 ∷ 999 ∷ 999 ∷ 999 ∷ 999 ∷ 999 ∷ 999 ∷ 999 ∷ 999 ∷ 999 ∷ 999 ∷ 999 ∷ 999 ∷ 999 ∷ 999 ∷ 999 ∷ 999 ∷ 999 ∷ 999 ∷ 999 ∷ 999 ∷ 999 ∷ []) ∷
    (999 ∷ 999 ∷ 999 ∷ 999 ∷ 999 ∷ 999 ∷ 999 ∷ 999 ∷ 999 ∷ 999 ∷ 999 ∷ 999 ∷ 999 ∷ 999 ∷ 999 ∷ 999 ∷ 999 ∷ 999 ∷ 999 ∷ 999 ∷ 999 ∷ 999 ∷ 999 ∷ 999 ∷ 999 ∷ 999 ∷ 999 ∷ []) ∷
    (999 ∷ 999 ∷ 999 ∷ 999 ∷ 999 ∷ 999 ∷ 999 ∷ 999 ∷ 999 ∷ 999 ∷ 999 ∷ 999 ∷ 999 ∷ 999 ∷ 999 ∷ 999 ∷ 999 ∷ 999 ∷ 999 ∷ 999 ∷ 999 ∷ 999 ∷ 999 ∷ 999 ∷ 999 ∷ 999 ∷ 999 ∷ []) ∷
    (999 ∷ 999 ∷ 999 ∷ 999 ∷ 999 ∷ 999 ∷ 999 ∷ 999 ∷ 999 ∷ 999 ∷ 999 ∷ 999 ∷ 999 ∷ 999 ∷ 999 ∷ 999 ∷ 999 ∷ 999 ∷ 999 ∷ 999 ∷ 999 ∷ 999 ∷ 999 ∷ 999 ∷ 999 ∷ 999 ∷ 999 ∷ []) ∷
    (999 ∷ 999 ∷ 999 ∷ 999 ∷ 999 ∷ 999 ∷ 999 ∷ 999 ∷ 999 ∷ 999 ∷ 999 ∷ 999 ∷ 999 ∷ 999 ∷ 999 ∷ 999 ∷ 999 ∷ 999 ∷ 999 ∷ 999 ∷ 999 ∷ 999 ∷ 999 ∷ 999 ∷ 999 ∷ 999 ∷ 999 ∷ []) ∷
    (999 ∷ 999 ∷ 999 ∷ 999 ∷ 999 ∷ 999 ∷ 999 ∷ 999 ∷ 999 ∷ 999 ∷ 999 ∷ 999 ∷ 999 ∷ 999 ∷ 999 ∷ 999 ∷ 999 ∷ 999 ∷ 999 ∷ 999 ∷ 999 ∷ 999 ∷ 999 ∷ 999 ∷ 999 ∷ 999 ∷ 999 ∷ []) ∷
    (999 ∷ 999 ∷ 999 ∷ 999 ∷ 999 ∷ 999 ∷ 999 ∷ 999 ∷ 999 ∷ 999 ∷ 999 ∷ 999 ∷ 999 ∷ 999 ∷ 999 ∷ 999 ∷ 999 ∷ 999 ∷ 999 ∷ 999 ∷ 999 ∷ 999 ∷ 999 ∷ 999 ∷ 999 ∷ 999 ∷ 999 ∷ []) ∷
    (999 ∷ 999 ∷ 999 ∷ 999 ∷ 999 ∷ 999 ∷ 999 ∷ 999 ∷ 999 ∷ 999 ∷ 999 ∷ 999 ∷ 999 ∷ 999 ∷ 999 ∷ 999 ∷ 999 ∷ 999 ∷ 999 ∷ 999 ∷ 999 ∷ 999 ∷ 999 ∷ 999 ∷ 999 ∷ 999 ∷ 999 ∷ []) ∷
    (999 ∷ 999 ∷ 999 ∷ 999 ∷ 999 ∷ 999 ∷ 999 ∷ 999 ∷ 999 ∷ 999 ∷ 999 ∷ 999 ∷ 999 ∷ 999 ∷ 999 ∷ 999 ∷ 999 ∷ 999 ∷ 999 ∷ 999 ∷ 999 ∷ 999 ∷ 999 ∷ 999 ∷ 999 ∷ 999 ∷ 999 ∷ []) ∷
    (999 ∷ 999 ∷ 999 ∷ 999 ∷ 999 ∷ 999 ∷ 999 ∷ 999 ∷ 999 ∷ 999 ∷ 999 ∷ 999 ∷ 999 ∷ 999 ∷ 999 ∷ 999 ∷ 999 ∷ 999 ∷ 999 ∷ 999 ∷ 999 ∷ 999 ∷ 999 ∷ 999 ∷ 999 ∷ 999 ∷ 999 ∷ []) ∷ []) ≡ []
unfolding standard_sequence steps_between steps_of_reference steps_by_relation steps_of_unrelated steps_of_related related related_kinds steps_of_value steps_by_kinds steps_to_class steps_to_scalar class_step value_step steps_of_kinds steps_of_pointer steps_of_enumeration steps_of_arithmetic is_text step_of_enumeration steps_of_pointers pointer_to_other pointer_to_class is_derived is_pending promoted built_in_result unary_result unary_family_result unary_by follow is_stepped steps_to before after binary_result family_result compound_result compound compound_on binary_by subscripted added added_to subtracted distance beside_integer compared_by compared_pointers assigned usual common_pointer common_other common_class both_ready is_complete_object is_complete_class conditional arms_of arms_of_arithmetic arms_of_enumeration arms_of_pointer arms_of_void shared_pointers
binary_BAR_EQUALS = refl

-- ,, a line for each left operand
binary_COMMA : binary_of punct.COMMA (
    (998 ∷ 998 ∷ 998 ∷ 998 ∷ 998 ∷ 998 ∷ 998 ∷ 998 ∷ 998 ∷ 998 ∷ 998 ∷ 998 ∷ 998 ∷ 998 ∷ 998 ∷ 998 ∷ 998 ∷ 998 ∷ 998 ∷ 998 ∷ 998 ∷ 998 ∷ 998 ∷ 998 ∷ 998 ∷ 998 ∷ 998 ∷ []) ∷
    (998 ∷ 998 ∷ 998 ∷ 998 ∷ 998 ∷ 998 ∷ 998 ∷ 998 ∷ 998 ∷ 998 ∷ 998 ∷ 998 ∷ 998 ∷ 998 ∷ 998 ∷ 998 ∷ 998 ∷ 998 ∷ 998 ∷ 998 ∷ 998 ∷ 998 ∷ 998 ∷ 998 ∷ 998 ∷ 998 ∷ 998 ∷ []) ∷
    (998 ∷ 998 ∷ 998 ∷ 998 ∷ 998 ∷ 998 ∷ 998 ∷ 998 ∷ 998 ∷ 998 ∷ 998 ∷ 998 ∷ 998 ∷ 998 ∷ 998 ∷ 998 ∷ 998 ∷ 998 ∷ 998 ∷ 998 ∷ 998 ∷ 998 ∷ 998 ∷ 998 ∷ 998 ∷ 998 ∷ 998 ∷ []) ∷
    (998 ∷ 998 ∷ 998 ∷ 998 ∷ 998 ∷ 998 ∷ 998 ∷ 998 ∷ 998 ∷ 998 ∷ 998 ∷ 998 ∷ 998 ∷ 998 ∷ 998 ∷ 998 ∷ 998 ∷ 998 ∷ 998 ∷ 998 ∷ 998 ∷ 998 ∷ 998 ∷ 998 ∷ 998 ∷ 998 ∷ 998 ∷ []) ∷
    (998 ∷ 998 ∷ 998 ∷ 998 ∷ 998 ∷ 998 ∷ 998 ∷ 998 ∷ 998 ∷ 998 ∷ 998 ∷ 998 ∷ 998 ∷ 998 ∷ 998 ∷ 998 ∷ 998 ∷ 998 ∷ 998 ∷ 998 ∷ 998 ∷ 998 ∷ 998 ∷ 998 ∷ 998 ∷ 998 ∷ 998 ∷ []) ∷
    (998 ∷ 998 ∷ 998 ∷ 998 ∷ 998 ∷ 998 ∷ 998 ∷ 998 ∷ 998 ∷ 998 ∷ 998 ∷ 998 ∷ 998 ∷ 998 ∷ 998 ∷ 998 ∷ 998 ∷ 998 ∷ 998 ∷ 998 ∷ 998 ∷ 998 ∷ 998 ∷ 998 ∷ 998 ∷ 998 ∷ 998 ∷ []) ∷
    (998 ∷ 998 ∷ 998 ∷ 998 ∷ 998 ∷ 998 ∷ 998 ∷ 998 ∷ 998 ∷ 998 ∷ 998 ∷ 998 ∷ 998 ∷ 998 ∷ 998 ∷ 998 ∷ 998 ∷ 998 ∷ 998 ∷ 998 ∷ 998 ∷ 998 ∷ 998 ∷ 998 ∷ 998 ∷ 998 ∷ 998 ∷ []) ∷
    (998 ∷ 998 ∷ 998 ∷ 998 ∷ 998 ∷ 998 ∷ 998 ∷ 998 ∷ 998 ∷ 998 ∷ 998 ∷ 998 ∷ 998 ∷ 998 ∷ 998 ∷ 998 ∷ 998 ∷ 998 ∷ 998 ∷ 998 ∷ 998 ∷ 998 ∷ 998 ∷ 998 ∷ 998 ∷ 998 ∷ 998 ∷ []) ∷
    (998 ∷ 998 ∷ 998 ∷ 998 ∷ 998 ∷ 998 ∷ 998 ∷ 998 ∷ 998 ∷ 998 ∷ 998 ∷ 998 ∷ 998 ∷ 998 ∷ 998 ∷ 998 ∷ 998 ∷ 998 ∷ 998 ∷ 998 ∷ 998 ∷ 998 ∷ 998 ∷ 998 ∷ 998 ∷ 998 ∷ 998 ∷ []) ∷
    (998 ∷ 998 ∷ 998 ∷ 998 ∷ 998 ∷ 998 ∷ 998 ∷ 998 ∷ 998 ∷ 998 ∷ 998 ∷ 998 ∷ 998 ∷ 998 ∷ 998 ∷ 998 ∷ 998 ∷ 998 ∷ 998 ∷ 998 ∷ 998 ∷ 998 ∷ 998 ∷ 998 ∷ 998 ∷ 998 ∷ 998 ∷ []) ∷
    (998 ∷ 998 ∷ 998 ∷ 998 ∷ 998 ∷ 998 ∷ 998 ∷ 998 ∷ 998 ∷ 998 ∷ 998 ∷ 998 ∷ 998 ∷ 998 ∷ 998 ∷ 998 ∷ 998 ∷ 998 ∷ 998 ∷ 998 ∷ 998 ∷ 998 ∷ 998 ∷ 998 ∷ 998 ∷ 998 ∷ 998 ∷ []) ∷
    (998 ∷ 998 ∷ 998 ∷ 998 ∷ 998 ∷ 998 ∷ 998 ∷ 998 ∷ 998 ∷ 998 ∷ 998 ∷ 998 ∷ 998 ∷ 998 ∷ 998 ∷ 998 ∷ 998 ∷ 998 ∷ 998 ∷ 998 ∷ 998 ∷ 998 ∷ 998 ∷ 998 ∷ 998 ∷ 998 ∷ 998 ∷ []) ∷
    (998 ∷ 998 ∷ 998 ∷ 998 ∷ 998 ∷ 998 ∷ 998 ∷ 998 ∷ 998 ∷ 998 ∷ 998 ∷ 998 ∷ 998 ∷ 998 ∷ 998 ∷ 998 ∷ 998 ∷ 998 ∷ 998 ∷ 998 ∷ 998 ∷ 998 ∷ 998 ∷ 998 ∷ 998 ∷ 998 ∷ 998 ∷ []) ∷
    (998 ∷ 998 ∷ 998 ∷ 998 ∷ 998 ∷ 998 ∷ 998 ∷ 998 ∷ 998 ∷ 998 ∷ 998 ∷ 998 ∷ 998 ∷ 998 ∷ 998 ∷ 998 ∷ 998 ∷ 998 ∷ 998 ∷ 998 ∷ 998 ∷ 998 ∷ 998 ∷ 998 ∷ 998 ∷ 998 ∷ 998 ∷ []) ∷
    (998 ∷ 998 ∷ 998 ∷ 998 ∷ 998 ∷ 998 ∷ 998 ∷ 998 ∷ 998 ∷ 998 ∷ 998 ∷ 998 ∷ 998 ∷ 998 ∷ 998 ∷ 998 ∷ 998 ∷ 998 ∷ 998 ∷ 998 ∷ 998 ∷ 998 ∷ 998 ∷ 998 ∷ 998 ∷ 998 ∷ 998 ∷ []) ∷
    (998 ∷ 998 ∷ 998 ∷ 998 ∷ 998 ∷ 998 ∷ 998 ∷ 998 ∷ 998 ∷ 998 ∷ 998 ∷ 998 ∷ 998 ∷ 998 ∷ 998 ∷ 998 ∷ 998 ∷ 998 ∷ 998 ∷ 998 ∷ 998 ∷ 998 ∷ 998 ∷ 998 ∷ 998 ∷ 998 ∷ 998 ∷ []) ∷
    (998 ∷ 998 ∷ 998 ∷ 998 ∷ 998 ∷ 998 ∷ 998 ∷ 998 ∷ 998 ∷ 998 ∷ 998 ∷ 998 ∷ 998 ∷ 998 ∷ 998 ∷ 998 ∷ 998 ∷ 998 ∷ 998 ∷ 998 ∷ 998 ∷ 998 ∷ 998 ∷ 998 ∷ 998 ∷ 998 ∷ 998 ∷ []) ∷
    (998 ∷ 998 ∷ 998 ∷ 998 ∷ 998 ∷ 998 ∷ 998 ∷ 998 ∷ 998 ∷ 998 ∷ 998 ∷ 998 ∷ 998 ∷ 998 ∷ 998 ∷ 998 ∷ 998 ∷ 998 ∷ 998 ∷ 998 ∷ 998 ∷ 998 ∷ 998 ∷ 998 ∷ 998 ∷ 998 ∷ 998 ∷ []) ∷
    (998 ∷ 998 ∷ 998 ∷ 998 ∷ 998 ∷ 998 ∷ 998 ∷ 998 ∷ 998 ∷ 998 ∷ 998 ∷ 998 ∷ 998 ∷ 998 ∷ 998 ∷ 998 ∷ 998 ∷ 998 ∷ 998 ∷ 998 ∷ 998 ∷ 998 ∷ 998 ∷ 998 ∷ 998 ∷ 998 ∷ 998 ∷ []) ∷
    (998 ∷ 998 ∷ 998 ∷ 998 ∷ 998 ∷ 998 ∷ 998 ∷ 998 ∷ 998 ∷ 998 ∷ 998 ∷ 998 ∷ 998 ∷ 998 ∷ 998 ∷ 998 ∷ 998 ∷ 998 ∷ 998 ∷ 998 ∷ 998 ∷ 998 ∷ 998 ∷ 998 ∷ 998 ∷ 998 ∷ 998 ∷ []) ∷
    (998 ∷ 998 ∷ 998 ∷ 998 ∷ 998 ∷ 998 ∷ 998 ∷ 998 ∷ 998 ∷ 998 ∷ 998 ∷ 998 ∷ 998 ∷ 998 ∷ 998 ∷ 998 ∷ 998 ∷ 998 ∷ 998 ∷ 998 ∷ 998 ∷ 998 ∷ 998 ∷ 998 ∷ 998 ∷ 998 ∷ 998 ∷ []) ∷
    (998 ∷ 998 ∷ 998 ∷ 998 ∷ 998 ∷ 998 ∷ 998 ∷ 998 ∷ 998 ∷ 998 ∷ 998 ∷ 998 ∷ 998 ∷ 998 ∷ 998 ∷ 998 ∷ 998 ∷ 998 ∷ 998 ∷ 998 ∷ 998 ∷ 998 ∷ 998 ∷ 998 ∷ 998 ∷ 998 ∷ 998 ∷ []) ∷
    (998 ∷ 998 ∷ 998 ∷ 998 ∷ 998 ∷ 998 ∷ 998 ∷ 998 ∷ 998 ∷ 998 ∷ 998 ∷ 998 ∷ 998 ∷ 998 ∷ 998 ∷ 998 ∷ 998 ∷ 998 ∷ 998 ∷ 998 ∷ 998 ∷ 998 ∷ 998 ∷ 998 ∷ 998 ∷ 998 ∷ 998 ∷ []) ∷
    (998 ∷ 998 ∷ 998 ∷ 998 ∷ 998 ∷ 998 ∷ 998 ∷ 998 ∷ 998 ∷ 998 ∷ 998 ∷ 998 ∷ 998 ∷ 998 ∷ 998 ∷ 998 ∷ 998 ∷ 998 ∷ 998 ∷ 998 ∷ 998 ∷ 998 ∷ 998 ∷ 998 ∷ 998 ∷ 998 ∷ 998 ∷ []) ∷
    (998 ∷ 998 ∷ 998 ∷ 998 ∷ 998 ∷ 998 ∷ 998 ∷ 998 ∷ 998 ∷ 998 ∷ 998 ∷ 998 ∷ 998 ∷ 998 ∷ 998 ∷ 998 ∷ 998 ∷ 998 ∷ 998 ∷ 998 ∷ 998 ∷ 998 ∷ 998 ∷ 998 ∷ 998 ∷ 998 ∷ 998 ∷ []) ∷
    (998 ∷ 998 ∷ 998 ∷ 998 ∷ 998 ∷ 998 ∷ 998 ∷ 998 ∷ 998 ∷ 998 ∷ 998 ∷ 998 ∷ 998 ∷ 998 ∷ 998 ∷ 998 ∷ 998 ∷ 998 ∷ 998 ∷ 998 ∷ 998 ∷ 998 ∷ 998 ∷ 998 ∷ 998 ∷ 998 ∷ 998 ∷ []) ∷
    (998 ∷ 998 ∷ 998 ∷ 998 ∷ 998 ∷ 998 ∷ 998 ∷ 998 ∷ 998 ∷ 998 ∷ 998 ∷ 998 ∷ 998 ∷ 998 ∷ 998 ∷ 998 ∷ 998 ∷ 998 ∷ 998 ∷ 998 ∷ 998 ∷ 998 ∷ 998 ∷ 998 ∷ 998 ∷ 998 ∷ 998 ∷ []) ∷ []) ≡ []
unfolding standard_sequence steps_between steps_of_reference steps_by_relation steps_of_unrelated steps_of_related related related_kinds steps_of_value steps_by_kinds steps_to_class steps_to_scalar class_step value_step steps_of_kinds steps_of_pointer steps_of_enumeration steps_of_arithmetic is_text step_of_enumeration steps_of_pointers pointer_to_other pointer_to_class is_derived is_pending promoted built_in_result unary_result unary_family_result unary_by follow is_stepped steps_to before after binary_result family_result compound_result compound compound_on binary_by subscripted added added_to subtracted distance beside_integer compared_by compared_pointers assigned usual common_pointer common_other common_class both_ready is_complete_object is_complete_class conditional arms_of arms_of_arithmetic arms_of_enumeration arms_of_pointer arms_of_void shared_pointers
binary_COMMA = refl

-- int as the second operand of ? :
arms_0 : arms_of_one (lvalue int) (103 ∷ 998 ∷ 3 ∷ 3 ∷ 4 ∷ 5 ∷ 6 ∷ 3 ∷ 8 ∷ 9 ∷ 10 ∷ 3 ∷ 5 ∷ 999 ∷ 999 ∷ 999 ∷ 999 ∷ 999 ∷ 999 ∷ 999 ∷ 999 ∷ 999 ∷ 999 ∷ 999 ∷ 999 ∷ 3 ∷ 3 ∷ []) ≡ []
unfolding is_derived is_pending promoted usual common_pointer common_other common_class both_ready conditional arms_of arms_of_arithmetic arms_of_enumeration arms_of_pointer arms_of_void shared_pointers
arms_0 = refl

-- const int as the second operand of ? :
arms_1 : arms_of_one (lvalue (const_of int)) (998 ∷ 103 ∷ 3 ∷ 3 ∷ 4 ∷ 5 ∷ 6 ∷ 3 ∷ 8 ∷ 9 ∷ 10 ∷ 3 ∷ 5 ∷ 999 ∷ 999 ∷ 999 ∷ 999 ∷ 999 ∷ 999 ∷ 999 ∷ 999 ∷ 999 ∷ 999 ∷ 999 ∷ 999 ∷ 3 ∷ 3 ∷ []) ≡ []
unfolding is_derived is_pending promoted usual common_pointer common_other common_class both_ready conditional arms_of arms_of_arithmetic arms_of_enumeration arms_of_pointer arms_of_void shared_pointers
arms_1 = refl

-- char as the second operand of ? :
arms_2 : arms_of_one (lvalue char) (3 ∷ 3 ∷ 101 ∷ 3 ∷ 4 ∷ 5 ∷ 6 ∷ 3 ∷ 8 ∷ 9 ∷ 10 ∷ 3 ∷ 5 ∷ 999 ∷ 999 ∷ 999 ∷ 999 ∷ 999 ∷ 999 ∷ 999 ∷ 999 ∷ 999 ∷ 999 ∷ 999 ∷ 999 ∷ 3 ∷ 3 ∷ []) ≡ []
unfolding is_derived is_pending promoted usual common_pointer common_other common_class both_ready conditional arms_of arms_of_arithmetic arms_of_enumeration arms_of_pointer arms_of_void shared_pointers
arms_2 = refl

-- bool as the second operand of ? :
arms_3 : arms_of_one (lvalue bool) (3 ∷ 3 ∷ 3 ∷ 100 ∷ 4 ∷ 5 ∷ 6 ∷ 3 ∷ 8 ∷ 9 ∷ 10 ∷ 3 ∷ 5 ∷ 999 ∷ 999 ∷ 999 ∷ 999 ∷ 999 ∷ 999 ∷ 999 ∷ 999 ∷ 999 ∷ 999 ∷ 999 ∷ 999 ∷ 3 ∷ 3 ∷ []) ≡ []
unfolding is_derived is_pending promoted usual common_pointer common_other common_class both_ready conditional arms_of arms_of_arithmetic arms_of_enumeration arms_of_pointer arms_of_void shared_pointers
arms_3 = refl

-- unsigned as the second operand of ? :
arms_4 : arms_of_one (lvalue (fundamental base.Unsigned)) (4 ∷ 4 ∷ 4 ∷ 4 ∷ 104 ∷ 5 ∷ 6 ∷ 4 ∷ 8 ∷ 9 ∷ 10 ∷ 4 ∷ 5 ∷ 999 ∷ 999 ∷ 999 ∷ 999 ∷ 999 ∷ 999 ∷ 999 ∷ 999 ∷ 999 ∷ 999 ∷ 999 ∷ 999 ∷ 4 ∷ 4 ∷ []) ≡ []
unfolding is_derived is_pending promoted usual common_pointer common_other common_class both_ready conditional arms_of arms_of_arithmetic arms_of_enumeration arms_of_pointer arms_of_void shared_pointers
arms_4 = refl

-- long as the second operand of ? :
arms_5 : arms_of_one (lvalue long) (5 ∷ 5 ∷ 5 ∷ 5 ∷ 5 ∷ 105 ∷ 6 ∷ 5 ∷ 8 ∷ 9 ∷ 10 ∷ 5 ∷ 5 ∷ 999 ∷ 999 ∷ 999 ∷ 999 ∷ 999 ∷ 999 ∷ 999 ∷ 999 ∷ 999 ∷ 999 ∷ 999 ∷ 999 ∷ 5 ∷ 5 ∷ []) ≡ []
unfolding is_derived is_pending promoted usual common_pointer common_other common_class both_ready conditional arms_of arms_of_arithmetic arms_of_enumeration arms_of_pointer arms_of_void shared_pointers
arms_5 = refl

-- unsigned long as the second operand of ? :
arms_6 : arms_of_one (lvalue (fundamental base.UnsignedLong)) (6 ∷ 6 ∷ 6 ∷ 6 ∷ 6 ∷ 6 ∷ 106 ∷ 6 ∷ 8 ∷ 9 ∷ 10 ∷ 6 ∷ 6 ∷ 999 ∷ 999 ∷ 999 ∷ 999 ∷ 999 ∷ 999 ∷ 999 ∷ 999 ∷ 999 ∷ 999 ∷ 999 ∷ 999 ∷ 6 ∷ 6 ∷ []) ≡ []
unfolding is_derived is_pending promoted usual common_pointer common_other common_class both_ready conditional arms_of arms_of_arithmetic arms_of_enumeration arms_of_pointer arms_of_void shared_pointers
arms_6 = refl

-- wchar_t as the second operand of ? :
arms_7 : arms_of_one (lvalue wide) (3 ∷ 3 ∷ 3 ∷ 3 ∷ 4 ∷ 5 ∷ 6 ∷ 107 ∷ 8 ∷ 9 ∷ 10 ∷ 3 ∷ 5 ∷ 999 ∷ 999 ∷ 999 ∷ 999 ∷ 999 ∷ 999 ∷ 999 ∷ 999 ∷ 999 ∷ 999 ∷ 999 ∷ 999 ∷ 3 ∷ 3 ∷ []) ≡ []
unfolding is_derived is_pending promoted usual common_pointer common_other common_class both_ready conditional arms_of arms_of_arithmetic arms_of_enumeration arms_of_pointer arms_of_void shared_pointers
arms_7 = refl

-- float as the second operand of ? :
arms_8 : arms_of_one (lvalue float) (8 ∷ 8 ∷ 8 ∷ 8 ∷ 8 ∷ 8 ∷ 8 ∷ 8 ∷ 108 ∷ 9 ∷ 10 ∷ 8 ∷ 8 ∷ 999 ∷ 999 ∷ 999 ∷ 999 ∷ 999 ∷ 999 ∷ 999 ∷ 999 ∷ 999 ∷ 999 ∷ 999 ∷ 999 ∷ 8 ∷ 8 ∷ []) ≡ []
unfolding is_derived is_pending promoted usual common_pointer common_other common_class both_ready conditional arms_of arms_of_arithmetic arms_of_enumeration arms_of_pointer arms_of_void shared_pointers
arms_8 = refl

-- double as the second operand of ? :
arms_9 : arms_of_one (lvalue double) (9 ∷ 9 ∷ 9 ∷ 9 ∷ 9 ∷ 9 ∷ 9 ∷ 9 ∷ 9 ∷ 109 ∷ 10 ∷ 9 ∷ 9 ∷ 999 ∷ 999 ∷ 999 ∷ 999 ∷ 999 ∷ 999 ∷ 999 ∷ 999 ∷ 999 ∷ 999 ∷ 999 ∷ 999 ∷ 9 ∷ 9 ∷ []) ≡ []
unfolding is_derived is_pending promoted usual common_pointer common_other common_class both_ready conditional arms_of arms_of_arithmetic arms_of_enumeration arms_of_pointer arms_of_void shared_pointers
arms_9 = refl

-- long double as the second operand of ? :
arms_10 : arms_of_one (lvalue (fundamental base.LongDouble)) (10 ∷ 10 ∷ 10 ∷ 10 ∷ 10 ∷ 10 ∷ 10 ∷ 10 ∷ 10 ∷ 10 ∷ 110 ∷ 10 ∷ 10 ∷ 999 ∷ 999 ∷ 999 ∷ 999 ∷ 999 ∷ 999 ∷ 999 ∷ 999 ∷ 999 ∷ 999 ∷ 999 ∷ 999 ∷ 10 ∷ 10 ∷ []) ≡ []
unfolding is_derived is_pending promoted usual common_pointer common_other common_class both_ready conditional arms_of arms_of_arithmetic arms_of_enumeration arms_of_pointer arms_of_void shared_pointers
arms_10 = refl

-- E as the second operand of ? :
arms_11 : arms_of_one (lvalue an_e) (3 ∷ 3 ∷ 3 ∷ 3 ∷ 4 ∷ 5 ∷ 6 ∷ 3 ∷ 8 ∷ 9 ∷ 10 ∷ 111 ∷ 5 ∷ 999 ∷ 999 ∷ 999 ∷ 999 ∷ 999 ∷ 999 ∷ 999 ∷ 999 ∷ 999 ∷ 999 ∷ 999 ∷ 999 ∷ 3 ∷ 3 ∷ []) ≡ []
unfolding is_derived is_pending promoted usual common_pointer common_other common_class both_ready conditional arms_of arms_of_arithmetic arms_of_enumeration arms_of_pointer arms_of_void shared_pointers
arms_11 = refl

-- L as the second operand of ? :
arms_12 : arms_of_one (lvalue an_l) (5 ∷ 5 ∷ 5 ∷ 5 ∷ 5 ∷ 5 ∷ 6 ∷ 5 ∷ 8 ∷ 9 ∷ 10 ∷ 5 ∷ 112 ∷ 999 ∷ 999 ∷ 999 ∷ 999 ∷ 999 ∷ 999 ∷ 999 ∷ 999 ∷ 999 ∷ 999 ∷ 999 ∷ 999 ∷ 5 ∷ 5 ∷ []) ≡ []
unfolding is_derived is_pending promoted usual common_pointer common_other common_class both_ready conditional arms_of arms_of_arithmetic arms_of_enumeration arms_of_pointer arms_of_void shared_pointers
arms_12 = refl

-- int * as the second operand of ? :
arms_13 : arms_of_one (lvalue (to int)) (999 ∷ 999 ∷ 999 ∷ 999 ∷ 999 ∷ 999 ∷ 999 ∷ 999 ∷ 999 ∷ 999 ∷ 999 ∷ 999 ∷ 999 ∷ 113 ∷ 14 ∷ 998 ∷ 13 ∷ 999 ∷ 999 ∷ 19 ∷ 20 ∷ 999 ∷ 999 ∷ 999 ∷ 999 ∷ 13 ∷ 999 ∷ []) ≡ []
unfolding is_derived is_pending promoted usual common_pointer common_other common_class both_ready conditional arms_of arms_of_arithmetic arms_of_enumeration arms_of_pointer arms_of_void shared_pointers
arms_13 = refl

-- const int * as the second operand of ? :
arms_14 : arms_of_one (lvalue (to (const_of int))) (999 ∷ 999 ∷ 999 ∷ 999 ∷ 999 ∷ 999 ∷ 999 ∷ 999 ∷ 999 ∷ 999 ∷ 999 ∷ 999 ∷ 999 ∷ 14 ∷ 114 ∷ 25 ∷ 14 ∷ 999 ∷ 999 ∷ 20 ∷ 20 ∷ 999 ∷ 999 ∷ 999 ∷ 999 ∷ 14 ∷ 999 ∷ []) ≡ []
unfolding is_derived is_pending promoted usual common_pointer common_other common_class both_ready conditional arms_of arms_of_arithmetic arms_of_enumeration arms_of_pointer arms_of_void shared_pointers
arms_14 = refl

-- volatile int * const as the second operand of ? :
arms_15 : arms_of_one (lvalue (const_of (to (volatile_of int)))) (999 ∷ 999 ∷ 999 ∷ 999 ∷ 999 ∷ 999 ∷ 999 ∷ 999 ∷ 999 ∷ 999 ∷ 999 ∷ 999 ∷ 999 ∷ 998 ∷ 25 ∷ 115 ∷ 15 ∷ 999 ∷ 999 ∷ 37 ∷ 38 ∷ 999 ∷ 999 ∷ 999 ∷ 999 ∷ 15 ∷ 999 ∷ []) ≡ []
unfolding is_derived is_pending promoted usual common_pointer common_other common_class both_ready conditional arms_of arms_of_arithmetic arms_of_enumeration arms_of_pointer arms_of_void shared_pointers
arms_15 = refl

-- int ()[3] as the second operand of ? :
arms_16 : arms_of_one (lvalue (three int)) (999 ∷ 999 ∷ 999 ∷ 999 ∷ 999 ∷ 999 ∷ 999 ∷ 999 ∷ 999 ∷ 999 ∷ 999 ∷ 999 ∷ 999 ∷ 13 ∷ 14 ∷ 15 ∷ 113 ∷ 999 ∷ 999 ∷ 19 ∷ 20 ∷ 999 ∷ 999 ∷ 999 ∷ 999 ∷ 13 ∷ 999 ∷ []) ≡ []
unfolding is_derived is_pending promoted usual common_pointer common_other common_class both_ready conditional arms_of arms_of_arithmetic arms_of_enumeration arms_of_pointer arms_of_void shared_pointers
arms_16 = refl

-- int ** as the second operand of ? :
arms_17 : arms_of_one (lvalue (to (to int))) (999 ∷ 999 ∷ 999 ∷ 999 ∷ 999 ∷ 999 ∷ 999 ∷ 999 ∷ 999 ∷ 999 ∷ 999 ∷ 999 ∷ 999 ∷ 999 ∷ 999 ∷ 999 ∷ 999 ∷ 116 ∷ 18 ∷ 19 ∷ 20 ∷ 999 ∷ 999 ∷ 999 ∷ 999 ∷ 16 ∷ 999 ∷ []) ≡ []
unfolding is_derived is_pending promoted usual common_pointer common_other common_class both_ready conditional arms_of arms_of_arithmetic arms_of_enumeration arms_of_pointer arms_of_void shared_pointers
arms_17 = refl

-- const int ** as the second operand of ? :
arms_18 : arms_of_one (lvalue (to (to (const_of int)))) (999 ∷ 999 ∷ 999 ∷ 999 ∷ 999 ∷ 999 ∷ 999 ∷ 999 ∷ 999 ∷ 999 ∷ 999 ∷ 999 ∷ 999 ∷ 999 ∷ 999 ∷ 999 ∷ 999 ∷ 18 ∷ 117 ∷ 19 ∷ 20 ∷ 999 ∷ 999 ∷ 999 ∷ 999 ∷ 17 ∷ 999 ∷ []) ≡ []
unfolding is_derived is_pending promoted usual common_pointer common_other common_class both_ready conditional arms_of arms_of_arithmetic arms_of_enumeration arms_of_pointer arms_of_void shared_pointers
arms_18 = refl

-- void * as the second operand of ? :
arms_19 : arms_of_one (lvalue (to void)) (999 ∷ 999 ∷ 999 ∷ 999 ∷ 999 ∷ 999 ∷ 999 ∷ 999 ∷ 999 ∷ 999 ∷ 999 ∷ 999 ∷ 999 ∷ 19 ∷ 20 ∷ 37 ∷ 19 ∷ 19 ∷ 19 ∷ 119 ∷ 20 ∷ 999 ∷ 19 ∷ 20 ∷ 19 ∷ 19 ∷ 999 ∷ []) ≡ []
unfolding is_derived is_pending promoted usual common_pointer common_other common_class both_ready conditional arms_of arms_of_arithmetic arms_of_enumeration arms_of_pointer arms_of_void shared_pointers
arms_19 = refl

-- const void * as the second operand of ? :
arms_20 : arms_of_one (lvalue (to (const_of void))) (999 ∷ 999 ∷ 999 ∷ 999 ∷ 999 ∷ 999 ∷ 999 ∷ 999 ∷ 999 ∷ 999 ∷ 999 ∷ 999 ∷ 999 ∷ 20 ∷ 20 ∷ 38 ∷ 20 ∷ 20 ∷ 20 ∷ 20 ∷ 120 ∷ 999 ∷ 20 ∷ 20 ∷ 20 ∷ 20 ∷ 999 ∷ []) ≡ []
unfolding is_derived is_pending promoted usual common_pointer common_other common_class both_ready conditional arms_of arms_of_arithmetic arms_of_enumeration arms_of_pointer arms_of_void shared_pointers
arms_20 = refl

-- F * as the second operand of ? :
arms_21 : arms_of_one (lvalue (to function)) (999 ∷ 999 ∷ 999 ∷ 999 ∷ 999 ∷ 999 ∷ 999 ∷ 999 ∷ 999 ∷ 999 ∷ 999 ∷ 999 ∷ 999 ∷ 999 ∷ 999 ∷ 999 ∷ 999 ∷ 999 ∷ 999 ∷ 999 ∷ 999 ∷ 135 ∷ 999 ∷ 999 ∷ 999 ∷ 35 ∷ 999 ∷ []) ≡ []
unfolding is_derived is_pending promoted usual common_pointer common_other common_class both_ready conditional arms_of arms_of_arithmetic arms_of_enumeration arms_of_pointer arms_of_void shared_pointers
arms_21 = refl

-- A * as the second operand of ? :
arms_22 : arms_of_one (lvalue (to a)) (999 ∷ 999 ∷ 999 ∷ 999 ∷ 999 ∷ 999 ∷ 999 ∷ 999 ∷ 999 ∷ 999 ∷ 999 ∷ 999 ∷ 999 ∷ 999 ∷ 999 ∷ 999 ∷ 999 ∷ 999 ∷ 999 ∷ 19 ∷ 20 ∷ 999 ∷ 121 ∷ 22 ∷ 999 ∷ 21 ∷ 999 ∷ []) ≡ []
unfolding is_derived is_pending promoted usual common_pointer common_other common_class both_ready conditional arms_of arms_of_arithmetic arms_of_enumeration arms_of_pointer arms_of_void shared_pointers
arms_22 = refl

-- const C * as the second operand of ? :
arms_23 : arms_of_one (lvalue (to (const_of c))) (999 ∷ 999 ∷ 999 ∷ 999 ∷ 999 ∷ 999 ∷ 999 ∷ 999 ∷ 999 ∷ 999 ∷ 999 ∷ 999 ∷ 999 ∷ 999 ∷ 999 ∷ 999 ∷ 999 ∷ 999 ∷ 999 ∷ 20 ∷ 20 ∷ 999 ∷ 22 ∷ 123 ∷ 999 ∷ 23 ∷ 999 ∷ []) ≡ []
unfolding is_derived is_pending promoted usual common_pointer common_other common_class both_ready conditional arms_of arms_of_arithmetic arms_of_enumeration arms_of_pointer arms_of_void shared_pointers
arms_23 = refl

-- X * as the second operand of ? :
arms_24 : arms_of_one (lvalue (to x)) (999 ∷ 999 ∷ 999 ∷ 999 ∷ 999 ∷ 999 ∷ 999 ∷ 999 ∷ 999 ∷ 999 ∷ 999 ∷ 999 ∷ 999 ∷ 999 ∷ 999 ∷ 999 ∷ 999 ∷ 999 ∷ 999 ∷ 19 ∷ 20 ∷ 999 ∷ 999 ∷ 999 ∷ 124 ∷ 24 ∷ 999 ∷ []) ≡ []
unfolding is_derived is_pending promoted usual common_pointer common_other common_class both_ready conditional arms_of arms_of_arithmetic arms_of_enumeration arms_of_pointer arms_of_void shared_pointers
arms_24 = refl

-- 0 as the second operand of ? :
arms_25 : arms_of_one (zero) (3 ∷ 3 ∷ 3 ∷ 3 ∷ 4 ∷ 5 ∷ 6 ∷ 3 ∷ 8 ∷ 9 ∷ 10 ∷ 3 ∷ 5 ∷ 13 ∷ 14 ∷ 15 ∷ 13 ∷ 16 ∷ 17 ∷ 19 ∷ 20 ∷ 35 ∷ 21 ∷ 23 ∷ 24 ∷ 3 ∷ 3 ∷ []) ≡ []
unfolding is_derived is_pending promoted usual common_pointer common_other common_class both_ready conditional arms_of arms_of_arithmetic arms_of_enumeration arms_of_pointer arms_of_void shared_pointers
arms_25 = refl

-- 1 as the second operand of ? :
arms_26 : arms_of_one (rvalue int) (3 ∷ 3 ∷ 3 ∷ 3 ∷ 4 ∷ 5 ∷ 6 ∷ 3 ∷ 8 ∷ 9 ∷ 10 ∷ 3 ∷ 5 ∷ 999 ∷ 999 ∷ 999 ∷ 999 ∷ 999 ∷ 999 ∷ 999 ∷ 999 ∷ 999 ∷ 999 ∷ 999 ∷ 999 ∷ 3 ∷ 3 ∷ []) ≡ []
unfolding is_derived is_pending promoted usual common_pointer common_other common_class both_ready conditional arms_of arms_of_arithmetic arms_of_enumeration arms_of_pointer arms_of_void shared_pointers
arms_26 = refl
