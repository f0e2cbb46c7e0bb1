-- How many candidates there are for each operator (13.6), and those for operands of classes.
use Rattle.std.specs.Prelude.{ℕ, ◌≡◌, List, [], ◌∷◌, length, Some, None, Ok, Err, refl}
use Rattle.std.proofs.Common.{drop, false, true}
use Rattle.cxx_model.specs.declared.base.Base.TheVariants as base
use Rattle.cxx_model.specs.declared.facts.Access.TheVariants.{Public}
use Rattle.cxx_model.specs.declared.facts.MemberKind.TheVariants as member
use Rattle.cxx_model.specs.declared.facts.ScopeKind.TheVariants as kind
use Rattle.cxx_model.specs.declared.punct.TheConstants as punct
use Rattle.cxx_model.specs.declared.sequence.ConstantKind.TheVariants as constant
use Rattle.cxx_model.specs.Facts.Declarations as facts
use Rattle.cxx_model.specs.Facts.Declarations.{CxxFact, CxxGraph, CxxName, Declares, conversion_to, unnamed}
use Rattle.cxx_model.specs.Facts.Pending.{is_pending}
use Rattle.cxx_model.specs.Types.Trees.{CxxType, fundamental, class_type, enumeration, function_of, no_types, pointer_to, qualified}
use Rattle.cxx_meaning.specs.Conversions.Asking.{Asked}
use Rattle.cxx_meaning.specs.Conversions.Derived.{is_derived}
use Rattle.cxx_meaning.specs.Conversions.Standard.{CxxOperand}
use Rattle.cxx_candidates.specs.Candidates.{CxxLetters, binary_candidates, unary_candidates}
use Rattle.cxx_candidates.specs.Sources.{built_in_candidates, conversions, conversions_of, kinds_of_class, letters, needed}

abbrev none : CxxLetters
none = record { pointers = []; objects = []; functions = []; enumerations = [] }

-- ++a
count_1 : length (unary_candidates none punct.INCREMENT) ≡ 28
count_1 = refl

-- --a
count_2 : length (unary_candidates none punct.DECREMENT) ≡ 26
count_2 = refl

-- +a
count_3 : length (unary_candidates none punct.PLUS) ≡ 7
count_3 = refl

-- -a
count_4 : length (unary_candidates none punct.MINUS) ≡ 7
count_4 = refl

-- ~a
count_5 : length (unary_candidates none punct.TILDE) ≡ 4
count_5 = refl

-- !a
count_6 : length (unary_candidates none punct.EXCLAMATION) ≡ 1
count_6 = refl

-- *a
count_7 : length (unary_candidates none punct.STAR) ≡ 0
count_7 = refl

-- a++
count_8 : length (binary_candidates none punct.INCREMENT) ≡ 28
count_8 = refl

-- a--
count_9 : length (binary_candidates none punct.DECREMENT) ≡ 26
count_9 = refl

-- a * b
count_10 : length (binary_candidates none punct.STAR) ≡ 49
count_10 = refl

-- a / b
count_11 : length (binary_candidates none punct.SLASH) ≡ 49
count_11 = refl

-- a + b
count_12 : length (binary_candidates none punct.PLUS) ≡ 49
count_12 = refl

-- a - b
count_13 : length (binary_candidates none punct.MINUS) ≡ 49
count_13 = refl

-- a < b
count_14 : length (binary_candidates none punct.LESS) ≡ 49
count_14 = refl

-- a == b
count_15 : length (binary_candidates none punct.EQUAL_TO) ≡ 49
count_15 = refl

-- a % b
count_16 : length (binary_candidates none punct.PERCENT) ≡ 16
count_16 = refl

-- a & b
count_17 : length (binary_candidates none punct.AMPERSAND) ≡ 16
count_17 = refl

-- a << b
count_18 : length (binary_candidates none punct.SHIFT_LEFT) ≡ 16
count_18 = refl

-- a && b
count_19 : length (binary_candidates none punct.LOGICAL_AND) ≡ 1
count_19 = refl

-- a || b
count_20 : length (binary_candidates none punct.LOGICAL_OR) ≡ 1
count_20 = refl

-- a[b]
count_21 : length (binary_candidates none punct.LEFT_BRACKET) ≡ 0
count_21 = refl

-- a = b
count_22 : length (binary_candidates none punct.EQUALS) ≡ 196
count_22 = refl

-- a *= b
count_23 : length (binary_candidates none punct.STAR_EQUALS) ≡ 196
count_23 = refl

-- a += b
count_24 : length (binary_candidates none punct.PLUS_EQUALS) ≡ 196
count_24 = refl

-- a %= b
count_25 : length (binary_candidates none punct.PERCENT_EQUALS) ≡ 88
count_25 = refl

-- a <<= b
count_26 : length (binary_candidates none punct.SHIFT_LEFT_EQUALS) ≡ 88
count_26 = refl

-- a, b
count_27 : length (binary_candidates none punct.COMMA) ≡ 0
count_27 = refl

-- ---- enum E { }; struct B { operator int *(); operator char *(); }; struct S : B { operator int *(); operator E(); };

abbrev here : ℕ → CxxName → Declares → CxxFact
here scope name what = record { place = record { line = 1; column = 1 }; scope = scope; name = name; access = Public; what = what }

abbrev converting : ℕ → CxxType → CxxFact
converting scope t = here scope (conversion_to t) (facts.function (function_of t no_types false (record { is_const = false; is_volatile = false })) member.Conversion (record { is_virtual = false; is_pure = false; is_explicit = false; is_implicit = false }) 0 None)

abbrev to_int : CxxType
to_int = pointer_to (fundamental base.Int)

abbrev to_char : CxxType
to_char = pointer_to (fundamental base.Char)

abbrev sample : CxxGraph
sample = record {
  facts =
      here 0 unnamed (facts.scope None kind.Space) ∷
      here 0 unnamed (facts.enumeration 0) ∷
      here 0 unnamed (facts.class (record { 0 = 0 }) false) ∷
      here 0 unnamed (facts.scope (Some (record { 0 = 0 })) (kind.Class (record { 0 = 0 }))) ∷
      converting 1 to_int ∷
      converting 1 to_char ∷
      here 0 unnamed (facts.complete (record { 0 = 0 })) ∷
      here 0 unnamed (facts.class (record { 0 = 1 }) false) ∷
      here 0 unnamed (facts.scope (Some (record { 0 = 0 })) (kind.Class (record { 0 = 1 }))) ∷
      here 2 unnamed (facts.ancestor (record { 0 = 1 }) (record { 0 = 0 }) 1 Public) ∷
      converting 2 to_int ∷
      converting 2 (enumeration 0) ∷
      here 0 unnamed (facts.complete (record { 0 = 1 })) ∷ [];
  classes = None ∷ None ∷ [];
  patterns = [];
}

abbrev object : CxxType → CxxOperand
object t = record { of = t; lvalue = true; constant = constant.No }

abbrev behind : ℕ → Asked (List (List CxxType)) → List (List CxxType)
behind n (Ok found) = drop n found
behind n (Err class) = []

-- s + 1: `operator int *` of B is hidden, so `char *` stands first
class_row_1 : behind 49 (built_in_candidates sample punct.PLUS (object (class_type 1) ∷ object (fundamental base.Int) ∷ [])) ≡ (to_char ∷ fundamental base.Long ∷ []) ∷ (to_int ∷ fundamental base.Long ∷ []) ∷ (fundamental base.Long ∷ to_char ∷ []) ∷ (fundamental base.Long ∷ to_int ∷ []) ∷ []
unfolding built_in_candidates needed letters kinds_of_class conversions_of conversions is_derived is_pending
class_row_1 = refl

-- s == s
class_row_2 : behind 49 (built_in_candidates sample punct.EQUAL_TO (object (class_type 1) ∷ object (class_type 1) ∷ [])) ≡ (to_char ∷ to_char ∷ []) ∷ (to_int ∷ to_int ∷ []) ∷ (enumeration 0 ∷ enumeration 0 ∷ []) ∷ []
unfolding built_in_candidates needed letters kinds_of_class conversions_of conversions is_derived is_pending
class_row_2 = refl

-- *b, where b is const
class_row_3 : built_in_candidates sample punct.STAR (object (qualified (record { is_const = true; is_volatile = false }) (class_type 0)) ∷ []) ≡ Ok ((to_int ∷ []) ∷ (to_char ∷ []) ∷ [])
unfolding built_in_candidates needed letters kinds_of_class conversions_of conversions is_derived is_pending
class_row_3 = refl

-- e < 1
class_row_4 : behind 49 (built_in_candidates sample punct.LESS (object (enumeration 0) ∷ object (fundamental base.Int) ∷ [])) ≡ (enumeration 0 ∷ enumeration 0 ∷ []) ∷ []
unfolding built_in_candidates needed letters kinds_of_class conversions_of conversions is_derived is_pending
class_row_4 = refl
