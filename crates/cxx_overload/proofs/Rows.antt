-- Worked calls: which function is meant, or what shows that none is.
use Rattle.std.specs.Prelude.{ℕ, suc, ◌≡◌, refl, pos, true, false, List, [], ◌∷◌, map, Option, Some, None, Ok, Err}
use Rattle.cxx_model.specs.declared.base.Base.TheVariants as base
use Rattle.cxx_model.specs.declared.evidence.Evidence.{Evidence}
use Rattle.cxx_model.specs.declared.evidence.Evidence.TheVariants.{DoesNotBeat, Refused}
use Rattle.cxx_model.specs.declared.evidence.Reason.{Reason}
use Rattle.cxx_model.specs.declared.evidence.Reason.TheVariants.{TooFewArguments, TooManyArguments, NoConversion, ObjectNoConversion}
use Rattle.cxx_model.specs.declared.evidence.Shown.TheVariants.{Declared as ShownAt}
use Rattle.cxx_model.specs.declared.facts.Access.TheVariants.{Public}
use Rattle.cxx_model.specs.declared.facts.MemberKind.{MemberKind}
use Rattle.cxx_model.specs.declared.facts.MemberKind.TheVariants as member
use Rattle.cxx_model.specs.declared.facts.ScopeKind.TheVariants as kind
use Rattle.cxx_model.specs.declared.fault.FaultText.{FaultText}
use Rattle.cxx_model.specs.declared.fault.FaultText.TheVariants as says
use Rattle.cxx_model.specs.declared.place.Place.{Place}
use Rattle.cxx_model.specs.declared.sequence.ConstantKind.TheVariants as constant
use Rattle.cxx_model.specs.declared.types.Cv.{Cv}
use Rattle.cxx_model.specs.declared.types.FactId.{FactId}
use Rattle.cxx_model.specs.Choice.Better.{is_better}
use Rattle.cxx_model.specs.Facts.Declarations as facts
use Rattle.cxx_model.specs.Facts.Declarations.{CxxFact, CxxGraph, Declares, unnamed}
use Rattle.cxx_model.specs.Stops.{Answer, Faulty, Limited}
use Rattle.cxx_model.specs.Types.Trees.{CxxType, CxxTypes, fundamental, class_type, enumeration, pointer_to, reference_to, array_of, function_of, qualified, no_types, type_then, number_bound}
use Rattle.cxx_meaning.specs.Conversions.Enumerations.{promoted}
use Rattle.cxx_meaning.specs.Conversions.Order.{is_proper_part, is_no_pointer_to_bool, way_of_pointers, way_of_classes, way_of, is_shorter, is_nearer, has_nearer_class, is_less_qualified, refers_to_less, is_bound_to_less, order_of}
use Rattle.cxx_meaning.specs.Conversions.Standard.{CxxOperand, standard_sequence, steps_between, steps_of_reference, steps_by_relation, steps_of_unrelated, steps_of_related, related, related_kinds, steps_of_value, steps_by_kinds, steps_to_class, steps_to_scalar, class_step, value_step, steps_of_kinds, steps_of_pointer, steps_of_enumeration, steps_of_arithmetic, is_text, step_of_enumeration, steps_of_pointers, pointer_to_other, pointer_to_class}
use Rattle.cxx_reading.specs.Seen.{Numbered}
use Rattle.cxx_overload.specs.Calls.{CxxDecision, decided}
use Rattle.cxx_overload.specs.Candidates.{candidates, candidates_within}
use Rattle.cxx_overload.specs.Choices.{chosen, refusals, ties, choice}
use Rattle.cxx_overload.specs.Viability.{rated_one, rated}

-- the chosen candidate by its position, or the fault of the call
data Row : Type 0 where
  Calls : ℕ → Row
  Broken : FaultText → List Evidence → Row
  Past : Row

abbrev row_by : Answer CxxDecision → Row
row_by (Ok decision) = Calls decision.meant.position
row_by (Err (Faulty fault)) = Broken fault.text fault.evidence
row_by (Err (Limited kind)) = Past

abbrev here : Place
here = record { line = 1; column = 1 }

abbrev put : Declares → CxxFact
put what = record { place = here; scope = 0; name = unnamed; access = Public; what = what }

-- enum E { e };
abbrev graph : CxxGraph
graph = record { classes = []; patterns = []; facts = map put (facts.scope None kind.Space ∷ facts.enumeration 0 ∷ facts.enumerator 0 (pos 0) ∷ []) }

-- ---- types and arguments

abbrev plain : Cv
plain = record { is_const = false; is_volatile = false }

abbrev int : CxxType
int = fundamental base.Int

abbrev char : CxxType
char = fundamental base.Char

abbrev short : CxxType
short = fundamental base.Short

abbrev long : CxxType
long = fundamental base.Long

abbrev bool : CxxType
bool = fundamental base.Bool

abbrev double : CxxType
double = fundamental base.Double

abbrev void : CxxType
void = fundamental base.Void

abbrev an_e : CxxType
an_e = enumeration 0

abbrev const_of : CxxType → CxxType
const_of t = qualified (record { is_const = true; is_volatile = false }) t

abbrev ptr : CxxType → CxxType
ptr t = pointer_to t

abbrev ref : CxxType → CxxType
ref t = reference_to t

abbrev lvalue : CxxType → CxxOperand
lvalue t = record { of = t; lvalue = true; constant = constant.No }

abbrev rvalue : CxxType → CxxOperand
rvalue t = record { of = t; lvalue = false; constant = constant.No }

abbrev zero : CxxOperand
zero = record { of = int; lvalue = false; constant = constant.Zero }

abbrev text : CxxOperand
text = record { of = array_of (const_of char) (number_bound 4); lvalue = true; constant = constant.NarrowText }

-- ---- declarations

abbrev declared_from : ℕ → List Declares → List Numbered
declared_from number [] = []
declared_from number (what ∷ others) = record { number = number; fact = put what } ∷ declared_from (suc number) others

abbrev types_of : List CxxType → CxxTypes
types_of [] = no_types
types_of (of ∷ others) = type_then of (types_of others)

-- `int f(..)`, with default arguments for so many parameters, and with its first declaration
abbrev again : List CxxType → ℕ → Option FactId → Declares
again parameters defaults first = facts.function (function_of int (types_of parameters) false plain) member.Free (record { is_virtual = false; is_pure = false; is_explicit = false; is_implicit = false }) defaults first

abbrev f : List CxxType → Declares
f parameters = again parameters 0 None

-- `int f(.., ...)`
abbrev open_f : List CxxType → Declares
open_f parameters = facts.function (function_of int (types_of parameters) true plain) member.Free (record { is_virtual = false; is_pure = false; is_explicit = false; is_implicit = false }) 0 None

-- ---- reports

abbrev loses : ℕ → ℕ → Evidence
loses one two = DoesNotBeat (ShownAt one here) (ShownAt two here)

abbrev is_refused : ℕ → Reason → Evidence
is_refused one reason = Refused (ShownAt one here) reason

abbrev Means : List Declares → List CxxOperand → Row → Type 0
Means declarations arguments row = row_by (decided here None arguments graph (declared_from 3 declarations)) ≡ row

-- 13.3.3: of two neither is better
abbrev Ties : List Declares → List CxxOperand → Type 0
Ties declarations arguments = Means declarations arguments (Broken says.AmbiguousCall (loses 1 2 ∷ loses 2 1 ∷ []))

abbrev NoneFits : List Declares → List CxxOperand → List Evidence → Type 0
NoneFits declarations arguments lines = Means declarations arguments (Broken says.NoViableFunction lines)

-- 13.3.3: `Fcn(&i, s)`, where the first argument speaks for the second function and the other for the first
row_1 : Ties (f (ptr (const_of int) ∷ short ∷ []) ∷ f (ptr int ∷ int ∷ []) ∷ []) (rvalue (ptr int) ∷ lvalue short ∷ [])
unfolding standard_sequence steps_between steps_of_reference steps_by_relation steps_of_unrelated steps_of_related related related_kinds steps_of_value steps_by_kinds steps_to_class steps_to_scalar class_step value_step steps_of_kinds steps_of_pointer steps_of_enumeration steps_of_arithmetic is_text step_of_enumeration steps_of_pointers pointer_to_other pointer_to_class promoted is_proper_part is_no_pointer_to_bool way_of_pointers way_of_classes way_of is_shorter is_nearer has_nearer_class is_less_qualified refers_to_less is_bound_to_less order_of is_better candidates candidates_within rated_one rated chosen refusals ties choice decided
row_1 = refl

-- 13.3.3: `Fcn(&i, 1L)`
row_2 : Means (f (ptr (const_of int) ∷ short ∷ []) ∷ f (ptr int ∷ int ∷ []) ∷ []) (rvalue (ptr int) ∷ rvalue long ∷ []) (Calls 2)
unfolding standard_sequence steps_between steps_of_reference steps_by_relation steps_of_unrelated steps_of_related related related_kinds steps_of_value steps_by_kinds steps_to_class steps_to_scalar class_step value_step steps_of_kinds steps_of_pointer steps_of_enumeration steps_of_arithmetic is_text step_of_enumeration steps_of_pointers pointer_to_other pointer_to_class promoted is_proper_part is_no_pointer_to_bool way_of_pointers way_of_classes way_of is_shorter is_nearer has_nearer_class is_less_qualified refers_to_less is_bound_to_less order_of is_better candidates candidates_within rated_one rated chosen refusals ties choice decided
row_2 = refl

-- 13.3.3: `Fcn(&i, 'c')`
row_3 : Means (f (ptr (const_of int) ∷ short ∷ []) ∷ f (ptr int ∷ int ∷ []) ∷ []) (rvalue (ptr int) ∷ rvalue char ∷ []) (Calls 2)
unfolding standard_sequence steps_between steps_of_reference steps_by_relation steps_of_unrelated steps_of_related related related_kinds steps_of_value steps_by_kinds steps_to_class steps_to_scalar class_step value_step steps_of_kinds steps_of_pointer steps_of_enumeration steps_of_arithmetic is_text step_of_enumeration steps_of_pointers pointer_to_other pointer_to_class promoted is_proper_part is_no_pointer_to_bool way_of_pointers way_of_classes way_of is_shorter is_nearer has_nearer_class is_less_qualified refers_to_less is_bound_to_less order_of is_better candidates candidates_within rated_one rated chosen refusals ties choice decided
row_3 = refl

-- 13.3.3.2: `int f(const int *); int f(int *);`
row_4 : Means (f (ptr (const_of int) ∷ []) ∷ f (ptr int ∷ []) ∷ []) (rvalue (ptr int) ∷ []) (Calls 2)
unfolding standard_sequence steps_between steps_of_reference steps_by_relation steps_of_unrelated steps_of_related related related_kinds steps_of_value steps_by_kinds steps_to_class steps_to_scalar class_step value_step steps_of_kinds steps_of_pointer steps_of_enumeration steps_of_arithmetic is_text step_of_enumeration steps_of_pointers pointer_to_other pointer_to_class promoted is_proper_part is_no_pointer_to_bool way_of_pointers way_of_classes way_of is_shorter is_nearer has_nearer_class is_less_qualified refers_to_less is_bound_to_less order_of is_better candidates candidates_within rated_one rated chosen refusals ties choice decided
row_4 = refl

-- 13.3.3.2: `int f(const int &); int f(int &);`
row_5 : Means (f (ref (const_of int) ∷ []) ∷ f (ref int ∷ []) ∷ []) (lvalue int ∷ []) (Calls 2)
unfolding standard_sequence steps_between steps_of_reference steps_by_relation steps_of_unrelated steps_of_related related related_kinds steps_of_value steps_by_kinds steps_to_class steps_to_scalar class_step value_step steps_of_kinds steps_of_pointer steps_of_enumeration steps_of_arithmetic is_text step_of_enumeration steps_of_pointers pointer_to_other pointer_to_class promoted is_proper_part is_no_pointer_to_bool way_of_pointers way_of_classes way_of is_shorter is_nearer has_nearer_class is_less_qualified refers_to_less is_bound_to_less order_of is_better candidates candidates_within rated_one rated chosen refusals ties choice decided
row_5 = refl

-- 8.5.3: a reference to a type that is not const is bound to no rvalue
row_6 : Means (f (ref (const_of int) ∷ []) ∷ f (ref int ∷ []) ∷ []) (rvalue int ∷ []) (Calls 1)
unfolding standard_sequence steps_between steps_of_reference steps_by_relation steps_of_unrelated steps_of_related related related_kinds steps_of_value steps_by_kinds steps_to_class steps_to_scalar class_step value_step steps_of_kinds steps_of_pointer steps_of_enumeration steps_of_arithmetic is_text step_of_enumeration steps_of_pointers pointer_to_other pointer_to_class promoted is_proper_part is_no_pointer_to_bool way_of_pointers way_of_classes way_of is_shorter is_nearer has_nearer_class is_less_qualified refers_to_less is_bound_to_less order_of is_better candidates candidates_within rated_one rated chosen refusals ties choice decided
row_6 = refl

-- 13.3.3.2: `int g(const int &); int g(int);`
row_7 : Ties (f (ref (const_of int) ∷ []) ∷ f (int ∷ []) ∷ []) (lvalue int ∷ [])
unfolding standard_sequence steps_between steps_of_reference steps_by_relation steps_of_unrelated steps_of_related related related_kinds steps_of_value steps_by_kinds steps_to_class steps_to_scalar class_step value_step steps_of_kinds steps_of_pointer steps_of_enumeration steps_of_arithmetic is_text step_of_enumeration steps_of_pointers pointer_to_other pointer_to_class promoted is_proper_part is_no_pointer_to_bool way_of_pointers way_of_classes way_of is_shorter is_nearer has_nearer_class is_less_qualified refers_to_less is_bound_to_less order_of is_better candidates candidates_within rated_one rated chosen refusals ties choice decided
row_7 = refl

-- 13.3.3.2: `int g(int &); int g(int);`
row_8 : Ties (f (ref int ∷ []) ∷ f (int ∷ []) ∷ []) (lvalue int ∷ [])
unfolding standard_sequence steps_between steps_of_reference steps_by_relation steps_of_unrelated steps_of_related related related_kinds steps_of_value steps_by_kinds steps_to_class steps_to_scalar class_step value_step steps_of_kinds steps_of_pointer steps_of_enumeration steps_of_arithmetic is_text step_of_enumeration steps_of_pointers pointer_to_other pointer_to_class promoted is_proper_part is_no_pointer_to_bool way_of_pointers way_of_classes way_of is_shorter is_nearer has_nearer_class is_less_qualified refers_to_less is_bound_to_less order_of is_better candidates candidates_within rated_one rated chosen refusals ties choice decided
row_8 = refl

-- 13.3.3.2: the better rank
row_9 : Means (f (long ∷ []) ∷ f (int ∷ []) ∷ []) (lvalue char ∷ []) (Calls 2)
unfolding standard_sequence steps_between steps_of_reference steps_by_relation steps_of_unrelated steps_of_related related related_kinds steps_of_value steps_by_kinds steps_to_class steps_to_scalar class_step value_step steps_of_kinds steps_of_pointer steps_of_enumeration steps_of_arithmetic is_text step_of_enumeration steps_of_pointers pointer_to_other pointer_to_class promoted is_proper_part is_no_pointer_to_bool way_of_pointers way_of_classes way_of is_shorter is_nearer has_nearer_class is_less_qualified refers_to_less is_bound_to_less order_of is_better candidates candidates_within rated_one rated chosen refusals ties choice decided
row_9 = refl

-- 13.3.3.2: of two conversions neither is better
row_10 : Ties (f (long ∷ []) ∷ f (double ∷ []) ∷ []) (rvalue int ∷ [])
unfolding standard_sequence steps_between steps_of_reference steps_by_relation steps_of_unrelated steps_of_related related related_kinds steps_of_value steps_by_kinds steps_to_class steps_to_scalar class_step value_step steps_of_kinds steps_of_pointer steps_of_enumeration steps_of_arithmetic is_text step_of_enumeration steps_of_pointers pointer_to_other pointer_to_class promoted is_proper_part is_no_pointer_to_bool way_of_pointers way_of_classes way_of is_shorter is_nearer has_nearer_class is_less_qualified refers_to_less is_bound_to_less order_of is_better candidates candidates_within rated_one rated chosen refusals ties choice decided
row_10 = refl

-- 4.5: an enumeration is promoted
row_11 : Means (f (long ∷ []) ∷ f (int ∷ []) ∷ []) (lvalue an_e ∷ []) (Calls 2)
unfolding standard_sequence steps_between steps_of_reference steps_by_relation steps_of_unrelated steps_of_related related related_kinds steps_of_value steps_by_kinds steps_to_class steps_to_scalar class_step value_step steps_of_kinds steps_of_pointer steps_of_enumeration steps_of_arithmetic is_text step_of_enumeration steps_of_pointers pointer_to_other pointer_to_class promoted is_proper_part is_no_pointer_to_bool way_of_pointers way_of_classes way_of is_shorter is_nearer has_nearer_class is_less_qualified refers_to_less is_bound_to_less order_of is_better candidates candidates_within rated_one rated chosen refusals ties choice decided
row_11 = refl

-- 13.3.3: the better function for one argument is worse for no other
row_12 : Means (f (int ∷ long ∷ []) ∷ f (long ∷ long ∷ []) ∷ []) (rvalue int ∷ rvalue int ∷ []) (Calls 1)
unfolding standard_sequence steps_between steps_of_reference steps_by_relation steps_of_unrelated steps_of_related related related_kinds steps_of_value steps_by_kinds steps_to_class steps_to_scalar class_step value_step steps_of_kinds steps_of_pointer steps_of_enumeration steps_of_arithmetic is_text step_of_enumeration steps_of_pointers pointer_to_other pointer_to_class promoted is_proper_part is_no_pointer_to_bool way_of_pointers way_of_classes way_of is_shorter is_nearer has_nearer_class is_less_qualified refers_to_less is_bound_to_less order_of is_better candidates candidates_within rated_one rated chosen refusals ties choice decided
row_12 = refl

-- 13.3.3.2: a conversion of a pointer to `bool` is worse
row_13 : Means (f (bool ∷ []) ∷ f (ptr (const_of void) ∷ []) ∷ []) (rvalue (ptr int) ∷ []) (Calls 2)
unfolding standard_sequence steps_between steps_of_reference steps_by_relation steps_of_unrelated steps_of_related related related_kinds steps_of_value steps_by_kinds steps_to_class steps_to_scalar class_step value_step steps_of_kinds steps_of_pointer steps_of_enumeration steps_of_arithmetic is_text step_of_enumeration steps_of_pointers pointer_to_other pointer_to_class promoted is_proper_part is_no_pointer_to_bool way_of_pointers way_of_classes way_of is_shorter is_nearer has_nearer_class is_less_qualified refers_to_less is_bound_to_less order_of is_better candidates candidates_within rated_one rated chosen refusals ties choice decided
row_13 = refl

-- 4.12: a pointer goes to `bool`, and to no other arithmetic type
row_14 : Means (f (int ∷ []) ∷ f (bool ∷ []) ∷ []) (rvalue (ptr int) ∷ []) (Calls 2)
unfolding standard_sequence steps_between steps_of_reference steps_by_relation steps_of_unrelated steps_of_related related related_kinds steps_of_value steps_by_kinds steps_to_class steps_to_scalar class_step value_step steps_of_kinds steps_of_pointer steps_of_enumeration steps_of_arithmetic is_text step_of_enumeration steps_of_pointers pointer_to_other pointer_to_class promoted is_proper_part is_no_pointer_to_bool way_of_pointers way_of_classes way_of is_shorter is_nearer has_nearer_class is_less_qualified refers_to_less is_bound_to_less order_of is_better candidates candidates_within rated_one rated chosen refusals ties choice decided
row_14 = refl

-- 4.10: `0` is an `int` before it is a null pointer
row_15 : Means (f (ptr int ∷ []) ∷ f (int ∷ []) ∷ []) (zero ∷ []) (Calls 2)
unfolding standard_sequence steps_between steps_of_reference steps_by_relation steps_of_unrelated steps_of_related related related_kinds steps_of_value steps_by_kinds steps_to_class steps_to_scalar class_step value_step steps_of_kinds steps_of_pointer steps_of_enumeration steps_of_arithmetic is_text step_of_enumeration steps_of_pointers pointer_to_other pointer_to_class promoted is_proper_part is_no_pointer_to_bool way_of_pointers way_of_classes way_of is_shorter is_nearer has_nearer_class is_less_qualified refers_to_less is_bound_to_less order_of is_better candidates candidates_within rated_one rated chosen refusals ties choice decided
row_15 = refl

-- 4.10: `0` is a null pointer of two types
row_16 : Ties (f (ptr int ∷ []) ∷ f (ptr char ∷ []) ∷ []) (zero ∷ [])
unfolding standard_sequence steps_between steps_of_reference steps_by_relation steps_of_unrelated steps_of_related related related_kinds steps_of_value steps_by_kinds steps_to_class steps_to_scalar class_step value_step steps_of_kinds steps_of_pointer steps_of_enumeration steps_of_arithmetic is_text step_of_enumeration steps_of_pointers pointer_to_other pointer_to_class promoted is_proper_part is_no_pointer_to_bool way_of_pointers way_of_classes way_of is_shorter is_nearer has_nearer_class is_less_qualified refers_to_less is_bound_to_less order_of is_better candidates candidates_within rated_one rated chosen refusals ties choice decided
row_16 = refl

-- 4.10: `0` goes to `long` and to a pointer by conversions
row_17 : Ties (f (ptr int ∷ []) ∷ f (long ∷ []) ∷ []) (zero ∷ [])
unfolding standard_sequence steps_between steps_of_reference steps_by_relation steps_of_unrelated steps_of_related related related_kinds steps_of_value steps_by_kinds steps_to_class steps_to_scalar class_step value_step steps_of_kinds steps_of_pointer steps_of_enumeration steps_of_arithmetic is_text step_of_enumeration steps_of_pointers pointer_to_other pointer_to_class promoted is_proper_part is_no_pointer_to_bool way_of_pointers way_of_classes way_of is_shorter is_nearer has_nearer_class is_less_qualified refers_to_less is_bound_to_less order_of is_better candidates candidates_within rated_one rated chosen refusals ties choice decided
row_17 = refl

-- 4.10: one is no null pointer
row_18 : NoneFits (f (ptr int ∷ []) ∷ []) (rvalue int ∷ []) (is_refused 1 (NoConversion 1) ∷ [])
unfolding standard_sequence steps_between steps_of_reference steps_by_relation steps_of_unrelated steps_of_related related related_kinds steps_of_value steps_by_kinds steps_to_class steps_to_scalar class_step value_step steps_of_kinds steps_of_pointer steps_of_enumeration steps_of_arithmetic is_text step_of_enumeration steps_of_pointers pointer_to_other pointer_to_class promoted is_proper_part is_no_pointer_to_bool way_of_pointers way_of_classes way_of is_shorter is_nearer has_nearer_class is_less_qualified refers_to_less is_bound_to_less order_of is_better candidates candidates_within rated_one rated chosen refusals ties choice decided
row_18 = refl

-- 4.2, 13.3.3.2: a string literal is rather a pointer to `const char`
row_19 : Means (f (ptr char ∷ []) ∷ f (ptr (const_of char) ∷ []) ∷ []) (text ∷ []) (Calls 2)
unfolding standard_sequence steps_between steps_of_reference steps_by_relation steps_of_unrelated steps_of_related related related_kinds steps_of_value steps_by_kinds steps_to_class steps_to_scalar class_step value_step steps_of_kinds steps_of_pointer steps_of_enumeration steps_of_arithmetic is_text step_of_enumeration steps_of_pointers pointer_to_other pointer_to_class promoted is_proper_part is_no_pointer_to_bool way_of_pointers way_of_classes way_of is_shorter is_nearer has_nearer_class is_less_qualified refers_to_less is_bound_to_less order_of is_better candidates candidates_within rated_one rated chosen refusals ties choice decided
row_19 = refl

-- 4.2: a string literal as a pointer to `char`
row_20 : Means (f (ptr char ∷ []) ∷ f (ptr void ∷ []) ∷ []) (text ∷ []) (Calls 1)
unfolding standard_sequence steps_between steps_of_reference steps_by_relation steps_of_unrelated steps_of_related related related_kinds steps_of_value steps_by_kinds steps_to_class steps_to_scalar class_step value_step steps_of_kinds steps_of_pointer steps_of_enumeration steps_of_arithmetic is_text step_of_enumeration steps_of_pointers pointer_to_other pointer_to_class promoted is_proper_part is_no_pointer_to_bool way_of_pointers way_of_classes way_of is_shorter is_nearer has_nearer_class is_less_qualified refers_to_less is_bound_to_less order_of is_better candidates candidates_within rated_one rated chosen refusals ties choice decided
row_20 = refl

-- 4.2: an array as a pointer, and as what a reference is bound to
row_21 : Ties (f (ptr int ∷ []) ∷ f (ref (array_of int (number_bound 3)) ∷ []) ∷ []) (lvalue (array_of int (number_bound 3)) ∷ [])
unfolding standard_sequence steps_between steps_of_reference steps_by_relation steps_of_unrelated steps_of_related related related_kinds steps_of_value steps_by_kinds steps_to_class steps_to_scalar class_step value_step steps_of_kinds steps_of_pointer steps_of_enumeration steps_of_arithmetic is_text step_of_enumeration steps_of_pointers pointer_to_other pointer_to_class promoted is_proper_part is_no_pointer_to_bool way_of_pointers way_of_classes way_of is_shorter is_nearer has_nearer_class is_less_qualified refers_to_less is_bound_to_less order_of is_better candidates candidates_within rated_one rated chosen refusals ties choice decided
row_21 = refl

-- 13.3.3.2: any standard sequence is better than an ellipsis
row_22 : Means (open_f (int ∷ []) ∷ f (int ∷ double ∷ []) ∷ []) (rvalue int ∷ rvalue int ∷ []) (Calls 2)
unfolding standard_sequence steps_between steps_of_reference steps_by_relation steps_of_unrelated steps_of_related related related_kinds steps_of_value steps_by_kinds steps_to_class steps_to_scalar class_step value_step steps_of_kinds steps_of_pointer steps_of_enumeration steps_of_arithmetic is_text step_of_enumeration steps_of_pointers pointer_to_other pointer_to_class promoted is_proper_part is_no_pointer_to_bool way_of_pointers way_of_classes way_of is_shorter is_nearer has_nearer_class is_less_qualified refers_to_less is_bound_to_less order_of is_better candidates candidates_within rated_one rated chosen refusals ties choice decided
row_22 = refl

-- 13.3.2: what meets no parameter meets the ellipsis
row_23 : Means (f (int ∷ ptr int ∷ []) ∷ open_f (int ∷ []) ∷ []) (rvalue int ∷ rvalue double ∷ []) (Calls 2)
unfolding standard_sequence steps_between steps_of_reference steps_by_relation steps_of_unrelated steps_of_related related related_kinds steps_of_value steps_by_kinds steps_to_class steps_to_scalar class_step value_step steps_of_kinds steps_of_pointer steps_of_enumeration steps_of_arithmetic is_text step_of_enumeration steps_of_pointers pointer_to_other pointer_to_class promoted is_proper_part is_no_pointer_to_bool way_of_pointers way_of_classes way_of is_shorter is_nearer has_nearer_class is_less_qualified refers_to_less is_bound_to_less order_of is_better candidates candidates_within rated_one rated chosen refusals ties choice decided
row_23 = refl

-- 13.3.3: `int f(...); int f(int, ...);`
row_24 : Means (open_f [] ∷ open_f (int ∷ []) ∷ []) (rvalue int ∷ rvalue int ∷ []) (Calls 2)
unfolding standard_sequence steps_between steps_of_reference steps_by_relation steps_of_unrelated steps_of_related related related_kinds steps_of_value steps_by_kinds steps_to_class steps_to_scalar class_step value_step steps_of_kinds steps_of_pointer steps_of_enumeration steps_of_arithmetic is_text step_of_enumeration steps_of_pointers pointer_to_other pointer_to_class promoted is_proper_part is_no_pointer_to_bool way_of_pointers way_of_classes way_of is_shorter is_nearer has_nearer_class is_less_qualified refers_to_less is_bound_to_less order_of is_better candidates candidates_within rated_one rated chosen refusals ties choice decided
row_24 = refl

-- 13.3.3.2: an ellipsis that meets no argument tells nothing apart
row_25 : Ties (f (int ∷ []) ∷ open_f (int ∷ []) ∷ []) (rvalue int ∷ [])
unfolding standard_sequence steps_between steps_of_reference steps_by_relation steps_of_unrelated steps_of_related related related_kinds steps_of_value steps_by_kinds steps_to_class steps_to_scalar class_step value_step steps_of_kinds steps_of_pointer steps_of_enumeration steps_of_arithmetic is_text step_of_enumeration steps_of_pointers pointer_to_other pointer_to_class promoted is_proper_part is_no_pointer_to_bool way_of_pointers way_of_classes way_of is_shorter is_nearer has_nearer_class is_less_qualified refers_to_less is_bound_to_less order_of is_better candidates candidates_within rated_one rated chosen refusals ties choice decided
row_25 = refl

-- 13.3.3.1.3: a value of no type to which anything is converted meets an ellipsis
row_26 : Means (f (int ∷ []) ∷ open_f [] ∷ []) (rvalue void ∷ []) (Calls 2)
unfolding standard_sequence steps_between steps_of_reference steps_by_relation steps_of_unrelated steps_of_related related related_kinds steps_of_value steps_by_kinds steps_to_class steps_to_scalar class_step value_step steps_of_kinds steps_of_pointer steps_of_enumeration steps_of_arithmetic is_text step_of_enumeration steps_of_pointers pointer_to_other pointer_to_class promoted is_proper_part is_no_pointer_to_bool way_of_pointers way_of_classes way_of is_shorter is_nearer has_nearer_class is_less_qualified refers_to_less is_bound_to_less order_of is_better candidates candidates_within rated_one rated chosen refusals ties choice decided
row_26 = refl

-- 8.3.6, 13.3.2: `int f(int); int f(int, int = 1);`
row_27 : Ties (f (int ∷ []) ∷ again (int ∷ int ∷ []) 1 None ∷ []) (rvalue int ∷ [])
unfolding standard_sequence steps_between steps_of_reference steps_by_relation steps_of_unrelated steps_of_related related related_kinds steps_of_value steps_by_kinds steps_to_class steps_to_scalar class_step value_step steps_of_kinds steps_of_pointer steps_of_enumeration steps_of_arithmetic is_text step_of_enumeration steps_of_pointers pointer_to_other pointer_to_class promoted is_proper_part is_no_pointer_to_bool way_of_pointers way_of_classes way_of is_shorter is_nearer has_nearer_class is_less_qualified refers_to_less is_bound_to_less order_of is_better candidates candidates_within rated_one rated chosen refusals ties choice decided
row_27 = refl

-- 13.3.2: the default argument is not needed
row_28 : Means (f (int ∷ []) ∷ again (int ∷ int ∷ []) 1 None ∷ []) (rvalue int ∷ rvalue int ∷ []) (Calls 2)
unfolding standard_sequence steps_between steps_of_reference steps_by_relation steps_of_unrelated steps_of_related related related_kinds steps_of_value steps_by_kinds steps_to_class steps_to_scalar class_step value_step steps_of_kinds steps_of_pointer steps_of_enumeration steps_of_arithmetic is_text step_of_enumeration steps_of_pointers pointer_to_other pointer_to_class promoted is_proper_part is_no_pointer_to_bool way_of_pointers way_of_classes way_of is_shorter is_nearer has_nearer_class is_less_qualified refers_to_less is_bound_to_less order_of is_better candidates candidates_within rated_one rated chosen refusals ties choice decided
row_28 = refl

-- 13.3.2: too few arguments even so
row_29 : NoneFits (f (int ∷ []) ∷ again (int ∷ int ∷ int ∷ []) 1 None ∷ []) [] (is_refused 1 TooFewArguments ∷ is_refused 2 TooFewArguments ∷ [])
unfolding standard_sequence steps_between steps_of_reference steps_by_relation steps_of_unrelated steps_of_related related related_kinds steps_of_value steps_by_kinds steps_to_class steps_to_scalar class_step value_step steps_of_kinds steps_of_pointer steps_of_enumeration steps_of_arithmetic is_text step_of_enumeration steps_of_pointers pointer_to_other pointer_to_class promoted is_proper_part is_no_pointer_to_bool way_of_pointers way_of_classes way_of is_shorter is_nearer has_nearer_class is_less_qualified refers_to_less is_bound_to_less order_of is_better candidates candidates_within rated_one rated chosen refusals ties choice decided
row_29 = refl

-- 8.3.6: a later declaration gives the default argument
row_30 : Means (f (int ∷ int ∷ []) ∷ again (int ∷ int ∷ []) 1 (Some (record { 0 = 3 })) ∷ []) (rvalue int ∷ []) (Calls 1)
unfolding standard_sequence steps_between steps_of_reference steps_by_relation steps_of_unrelated steps_of_related related related_kinds steps_of_value steps_by_kinds steps_to_class steps_to_scalar class_step value_step steps_of_kinds steps_of_pointer steps_of_enumeration steps_of_arithmetic is_text step_of_enumeration steps_of_pointers pointer_to_other pointer_to_class promoted is_proper_part is_no_pointer_to_bool way_of_pointers way_of_classes way_of is_shorter is_nearer has_nearer_class is_less_qualified refers_to_less is_bound_to_less order_of is_better candidates candidates_within rated_one rated chosen refusals ties choice decided
row_30 = refl

-- 8.3.6: that declaration is of another function
row_31 : Means (f (int ∷ int ∷ []) ∷ f (ptr int ∷ int ∷ []) ∷ again (ptr int ∷ int ∷ []) 1 (Some (record { 0 = 4 })) ∷ []) (zero ∷ []) (Calls 2)
unfolding standard_sequence steps_between steps_of_reference steps_by_relation steps_of_unrelated steps_of_related related related_kinds steps_of_value steps_by_kinds steps_to_class steps_to_scalar class_step value_step steps_of_kinds steps_of_pointer steps_of_enumeration steps_of_arithmetic is_text step_of_enumeration steps_of_pointers pointer_to_other pointer_to_class promoted is_proper_part is_no_pointer_to_bool way_of_pointers way_of_classes way_of is_shorter is_nearer has_nearer_class is_less_qualified refers_to_less is_bound_to_less order_of is_better candidates candidates_within rated_one rated chosen refusals ties choice decided
row_31 = refl

-- 13.3.2: each candidate has the first reason that holds
row_32 : NoneFits (f (ptr int ∷ int ∷ []) ∷ f [] ∷ f (ptr int ∷ []) ∷ f (ref int ∷ []) ∷ []) (rvalue int ∷ []) (is_refused 1 TooFewArguments ∷ is_refused 2 TooManyArguments ∷ is_refused 3 (NoConversion 1) ∷ is_refused 4 (NoConversion 1) ∷ [])
unfolding standard_sequence steps_between steps_of_reference steps_by_relation steps_of_unrelated steps_of_related related related_kinds steps_of_value steps_by_kinds steps_to_class steps_to_scalar class_step value_step steps_of_kinds steps_of_pointer steps_of_enumeration steps_of_arithmetic is_text step_of_enumeration steps_of_pointers pointer_to_other pointer_to_class promoted is_proper_part is_no_pointer_to_bool way_of_pointers way_of_classes way_of is_shorter is_nearer has_nearer_class is_less_qualified refers_to_less is_bound_to_less order_of is_better candidates candidates_within rated_one rated chosen refusals ties choice decided
row_32 = refl

-- 13.3.2: the first argument that is not converted
row_33 : NoneFits (f (int ∷ ptr int ∷ ptr int ∷ []) ∷ []) (rvalue int ∷ rvalue int ∷ rvalue int ∷ []) (is_refused 1 (NoConversion 2) ∷ [])
unfolding standard_sequence steps_between steps_of_reference steps_by_relation steps_of_unrelated steps_of_related related related_kinds steps_of_value steps_by_kinds steps_to_class steps_to_scalar class_step value_step steps_of_kinds steps_of_pointer steps_of_enumeration steps_of_arithmetic is_text step_of_enumeration steps_of_pointers pointer_to_other pointer_to_class promoted is_proper_part is_no_pointer_to_bool way_of_pointers way_of_classes way_of is_shorter is_nearer has_nearer_class is_less_qualified refers_to_less is_bound_to_less order_of is_better candidates candidates_within rated_one rated chosen refusals ties choice decided
row_33 = refl

-- 3.3.7: the name of a type is no candidate
row_34 : Means (facts.enumeration 0 ∷ f (int ∷ []) ∷ []) (rvalue int ∷ []) (Calls 1)
unfolding standard_sequence steps_between steps_of_reference steps_by_relation steps_of_unrelated steps_of_related related related_kinds steps_of_value steps_by_kinds steps_to_class steps_to_scalar class_step value_step steps_of_kinds steps_of_pointer steps_of_enumeration steps_of_arithmetic is_text step_of_enumeration steps_of_pointers pointer_to_other pointer_to_class promoted is_proper_part is_no_pointer_to_bool way_of_pointers way_of_classes way_of is_shorter is_nearer has_nearer_class is_less_qualified refers_to_less is_bound_to_less order_of is_better candidates candidates_within rated_one rated chosen refusals ties choice decided
row_34 = refl

-- 13.3.3: better is asked of each pair, and three functions may tie
row_35 : Means (f (int ∷ long ∷ []) ∷ f (long ∷ int ∷ []) ∷ f (long ∷ long ∷ []) ∷ []) (rvalue int ∷ rvalue int ∷ []) (Broken says.AmbiguousCall (loses 1 2 ∷ loses 2 1 ∷ loses 3 1 ∷ []))
unfolding standard_sequence steps_between steps_of_reference steps_by_relation steps_of_unrelated steps_of_related related related_kinds steps_of_value steps_by_kinds steps_to_class steps_to_scalar class_step value_step steps_of_kinds steps_of_pointer steps_of_enumeration steps_of_arithmetic is_text step_of_enumeration steps_of_pointers pointer_to_other pointer_to_class promoted is_proper_part is_no_pointer_to_bool way_of_pointers way_of_classes way_of is_shorter is_nearer has_nearer_class is_less_qualified refers_to_less is_bound_to_less order_of is_better candidates candidates_within rated_one rated chosen refusals ties choice decided
row_35 = refl

-- 13.3.3: a third function may be the best
row_36 : Means (f (int ∷ long ∷ []) ∷ f (long ∷ int ∷ []) ∷ f (int ∷ int ∷ []) ∷ []) (rvalue int ∷ rvalue int ∷ []) (Calls 3)
unfolding standard_sequence steps_between steps_of_reference steps_by_relation steps_of_unrelated steps_of_related related related_kinds steps_of_value steps_by_kinds steps_to_class steps_to_scalar class_step value_step steps_of_kinds steps_of_pointer steps_of_enumeration steps_of_arithmetic is_text step_of_enumeration steps_of_pointers pointer_to_other pointer_to_class promoted is_proper_part is_no_pointer_to_bool way_of_pointers way_of_classes way_of is_shorter is_nearer has_nearer_class is_less_qualified refers_to_less is_bound_to_less order_of is_better candidates candidates_within rated_one rated chosen refusals ties choice decided
row_36 = refl

-- ---- calls with an object (13.3.1)

abbrev const_cv : Cv
const_cv = record { is_const = true; is_volatile = false }

-- struct S { .. };
abbrev an_s : CxxType
an_s = class_type 0

-- `int f(..);` in the class, with some words behind the parameter list
abbrev method : MemberKind → Cv → List CxxType → Declares
method kind words parameters = facts.function (function_of int (types_of parameters) false words) kind (record { is_virtual = false; is_pure = false; is_explicit = false; is_implicit = false }) 0 None

abbrev MeansOf : CxxOperand → List Declares → List CxxOperand → Row → Type 0
MeansOf object declarations arguments row = row_by (decided here (Some object) arguments graph (declared_from 3 declarations)) ≡ row

abbrev TiesOf : CxxOperand → List Declares → List CxxOperand → Type 0
TiesOf object declarations arguments = MeansOf object declarations arguments (Broken says.AmbiguousCall (loses 1 2 ∷ loses 2 1 ∷ []))

abbrev NoneFitsOf : CxxOperand → List Declares → List CxxOperand → List Evidence → Type 0
NoneFitsOf object declarations arguments lines = MeansOf object declarations arguments (Broken says.NoViableFunction lines)

-- 13.3.3.2: `int f(); int f() const;`, for an object that is not const
row_37 : MeansOf (lvalue an_s) (method member.Nonstatic plain [] ∷ method member.Nonstatic const_cv [] ∷ []) [] (Calls 1)
unfolding standard_sequence steps_between steps_of_reference steps_by_relation steps_of_unrelated steps_of_related related related_kinds steps_of_value steps_by_kinds steps_to_class steps_to_scalar class_step value_step steps_of_kinds steps_of_pointer steps_of_enumeration steps_of_arithmetic is_text step_of_enumeration steps_of_pointers pointer_to_other pointer_to_class promoted is_proper_part is_no_pointer_to_bool way_of_pointers way_of_classes way_of is_shorter is_nearer has_nearer_class is_less_qualified refers_to_less is_bound_to_less order_of is_better candidates candidates_within rated_one rated chosen refusals ties choice decided
row_37 = refl

-- the same for one that is
row_38 : MeansOf (lvalue (const_of an_s)) (method member.Nonstatic plain [] ∷ method member.Nonstatic const_cv [] ∷ []) [] (Calls 2)
unfolding standard_sequence steps_between steps_of_reference steps_by_relation steps_of_unrelated steps_of_related related related_kinds steps_of_value steps_by_kinds steps_to_class steps_to_scalar class_step value_step steps_of_kinds steps_of_pointer steps_of_enumeration steps_of_arithmetic is_text step_of_enumeration steps_of_pointers pointer_to_other pointer_to_class promoted is_proper_part is_no_pointer_to_bool way_of_pointers way_of_classes way_of is_shorter is_nearer has_nearer_class is_less_qualified refers_to_less is_bound_to_less order_of is_better candidates candidates_within rated_one rated chosen refusals ties choice decided
row_38 = refl

-- 13.3.1: `int f();`, for an object that is const
row_39 : NoneFitsOf (lvalue (const_of an_s)) (method member.Nonstatic plain [] ∷ []) [] (is_refused 1 ObjectNoConversion ∷ [])
unfolding standard_sequence steps_between steps_of_reference steps_by_relation steps_of_unrelated steps_of_related related related_kinds steps_of_value steps_by_kinds steps_to_class steps_to_scalar class_step value_step steps_of_kinds steps_of_pointer steps_of_enumeration steps_of_arithmetic is_text step_of_enumeration steps_of_pointers pointer_to_other pointer_to_class promoted is_proper_part is_no_pointer_to_bool way_of_pointers way_of_classes way_of is_shorter is_nearer has_nearer_class is_less_qualified refers_to_less is_bound_to_less order_of is_better candidates candidates_within rated_one rated chosen refusals ties choice decided
row_39 = refl

-- 13.3.1: any object will do for a static member function
row_40 : MeansOf (lvalue (const_of an_s)) (method member.Static plain (int ∷ []) ∷ method member.Nonstatic plain (int ∷ []) ∷ []) (rvalue int ∷ []) (Calls 1)
unfolding standard_sequence steps_between steps_of_reference steps_by_relation steps_of_unrelated steps_of_related related related_kinds steps_of_value steps_by_kinds steps_to_class steps_to_scalar class_step value_step steps_of_kinds steps_of_pointer steps_of_enumeration steps_of_arithmetic is_text step_of_enumeration steps_of_pointers pointer_to_other pointer_to_class promoted is_proper_part is_no_pointer_to_bool way_of_pointers way_of_classes way_of is_shorter is_nearer has_nearer_class is_less_qualified refers_to_less is_bound_to_less order_of is_better candidates candidates_within rated_one rated chosen refusals ties choice decided
row_40 = refl

-- 13.3.3: the object tells no static member function from another function
row_41 : TiesOf (lvalue an_s) (method member.Static plain (long ∷ []) ∷ method member.Nonstatic plain (double ∷ []) ∷ []) (rvalue int ∷ [])
unfolding standard_sequence steps_between steps_of_reference steps_by_relation steps_of_unrelated steps_of_related related related_kinds steps_of_value steps_by_kinds steps_to_class steps_to_scalar class_step value_step steps_of_kinds steps_of_pointer steps_of_enumeration steps_of_arithmetic is_text step_of_enumeration steps_of_pointers pointer_to_other pointer_to_class promoted is_proper_part is_no_pointer_to_bool way_of_pointers way_of_classes way_of is_shorter is_nearer has_nearer_class is_less_qualified refers_to_less is_bound_to_less order_of is_better candidates candidates_within rated_one rated chosen refusals ties choice decided
row_41 = refl

-- 13.3.3: `int f(int) const; int f(long);`, where the object speaks for the second and the argument for the first
row_42 : TiesOf (lvalue an_s) (method member.Nonstatic const_cv (int ∷ []) ∷ method member.Nonstatic plain (long ∷ []) ∷ []) (rvalue int ∷ [])
unfolding standard_sequence steps_between steps_of_reference steps_by_relation steps_of_unrelated steps_of_related related related_kinds steps_of_value steps_by_kinds steps_to_class steps_to_scalar class_step value_step steps_of_kinds steps_of_pointer steps_of_enumeration steps_of_arithmetic is_text step_of_enumeration steps_of_pointers pointer_to_other pointer_to_class promoted is_proper_part is_no_pointer_to_bool way_of_pointers way_of_classes way_of is_shorter is_nearer has_nearer_class is_less_qualified refers_to_less is_bound_to_less order_of is_better candidates candidates_within rated_one rated chosen refusals ties choice decided
row_42 = refl

-- 13.3.2: the count of arguments comes first, then the object, then the arguments; the object is not counted
row_43 : NoneFitsOf (lvalue (const_of an_s)) (method member.Nonstatic plain (int ∷ int ∷ []) ∷ method member.Nonstatic plain (ptr int ∷ []) ∷ method member.Nonstatic const_cv (ptr int ∷ []) ∷ method member.Static plain [] ∷ []) (rvalue int ∷ []) (is_refused 1 TooFewArguments ∷ is_refused 2 ObjectNoConversion ∷ is_refused 3 (NoConversion 1) ∷ is_refused 4 TooManyArguments ∷ [])
unfolding standard_sequence steps_between steps_of_reference steps_by_relation steps_of_unrelated steps_of_related related related_kinds steps_of_value steps_by_kinds steps_to_class steps_to_scalar class_step value_step steps_of_kinds steps_of_pointer steps_of_enumeration steps_of_arithmetic is_text step_of_enumeration steps_of_pointers pointer_to_other pointer_to_class promoted is_proper_part is_no_pointer_to_bool way_of_pointers way_of_classes way_of is_shorter is_nearer has_nearer_class is_less_qualified refers_to_less is_bound_to_less order_of is_better candidates candidates_within rated_one rated chosen refusals ties choice decided
row_43 = refl
