-- What a conversion sees of a type, and the cv words of a type (3.9.3, 4.4).
use Rattle.std.specs.Prelude.{ℕ, Bool, true, false, ◌&&◌, ◌||◌, not, List, [], ◌∷◌}
use Rattle.cxx_model.specs.declared.base.Base.{Base}
use Rattle.cxx_model.specs.declared.base.Base.TheVariants as base
use Rattle.cxx_model.specs.declared.types.Cv.{Cv}
use Rattle.cxx_model.specs.Types.Same.{same_type}
use Rattle.cxx_model.specs.Types.Trees.{CxxType, fundamental, class_type, enumeration, pointer_to, reference_to, array_of, function_of, qualified, type_parameter, specialisation, nested_in, unqualified, without_levels}

-- A type as clause 4 tells types apart, its own cv words aside.
pub data CxxKind : Type 0 where
  -- 3.9.1
  no_value : CxxKind
  arithmetic : Base → CxxKind
  -- 7.2
  enumerated : ℕ → CxxKind
  -- 8.3.1: to that type
  pointing : CxxType → CxxKind
  -- 9
  of_class : ℕ → CxxKind
  -- an array, a function, a reference, and a type that depends on parameters of templates
  other : CxxKind

abbrev pub kind_of_base : Base → CxxKind
kind_of_base base.Void = no_value
kind_of_base of = arithmetic of

abbrev pub kind_of : CxxType → CxxKind
kind_of (fundamental of) = kind_of_base of
kind_of (class_type n) = of_class n
kind_of (enumeration n) = enumerated n
kind_of (pointer_to t) = pointing t
kind_of (reference_to t) = other
kind_of (array_of t bound) = other
kind_of (function_of r ts ellipsis cv) = other
kind_of (qualified cv t) = kind_of t
kind_of (type_parameter depth index) = other
kind_of (specialisation n _) = other
kind_of (nested_in t word) = other

-- 4.2, 4.3: the kind of the value of an expression: an array gives a pointer to its element, a function one to itself
abbrev pub value_kind : CxxType → CxxKind
value_kind (array_of t bound) = pointing t
value_kind (function_of r ts ellipsis cv) = pointing (function_of r ts ellipsis cv)
value_kind t = kind_of t

abbrev pub no_cv : Cv
no_cv = record { is_const = false; is_volatile = false }

-- 3.9.3: the cv words of a type itself; those of an array are those of its innermost element
abbrev pub cv_of : CxxType → Cv
cv_of (qualified cv t) = cv
cv_of (array_of t bound) = cv_of t
cv_of _ = no_cv

-- 4.4: the cv words behind each `*`, from outside
abbrev pub signature : CxxType → List Cv
signature (pointer_to t) = cv_of t ∷ signature t
signature (qualified cv t) = signature t
signature _ = []

-- each word of the first stands in the second
abbrev pub is_cv_within : Cv → Cv → Bool
is_cv_within one two = (not one.is_const || two.is_const) && (not one.is_volatile || two.is_volatile)

-- 4.4: two types that differ in cv words at the top and behind each `*` alone
abbrev pub is_similar : CxxType → CxxType → Bool
is_similar one two = same_type (without_levels one) (without_levels two)

-- 3.9.3: two types that differ in their own cv words alone
abbrev pub is_same_unqualified : CxxType → CxxType → Bool
is_same_unqualified one two = same_type (unqualified one) (unqualified two)

-- 8.3.5
abbrev pub is_function : CxxType → Bool
is_function (function_of r ts ellipsis cv) = true
is_function _ = false

-- 8.3.4
abbrev pub is_array : CxxType → Bool
is_array (array_of t bound) = true
is_array _ = false
