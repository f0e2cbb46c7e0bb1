-- Casts (5.2.9 to 5.2.11, 5.4): which are allowed. What constructors and conversion functions do is asked beside these.
use Rattle.std.specs.Prelude.{ℕ, Bool, true, false, ◌&&◌, ◌||◌, not, nat_eq, if◌then◌else◌, List, [], ◌∷◌, Option, Some, None, Ok, Err}
use Rattle.cxx_model.specs.declared.base.Base.TheVariants as base
use Rattle.cxx_model.specs.declared.sequence.ConstantKind.TheVariants as constant
use Rattle.cxx_model.specs.declared.types.Cv.{Cv}
use Rattle.cxx_model.specs.Choice.Standard.{same_base}
use Rattle.cxx_model.specs.Facts.Declarations.{CxxGraph}
use Rattle.cxx_model.specs.Facts.Pending.{is_pending}
use Rattle.cxx_model.specs.Types.Same.{same_cv}
use Rattle.cxx_model.specs.Types.Trees.{CxxType, merged, pointer_to, reference_to, unqualified}
use Rattle.cxx_meaning.specs.declared.steps.SequenceSteps.{SequenceSteps}
use Rattle.cxx_meaning.specs.Conversions.Asking.{Asked, ◌>>=◌}
use Rattle.cxx_meaning.specs.Conversions.BuiltIn.{operand_kind}
use Rattle.cxx_meaning.specs.Conversions.Derived.{is_derived}
use Rattle.cxx_meaning.specs.Conversions.Kinds.{CxxKind, no_value, arithmetic, enumerated, pointing, of_class, kind_of, cv_of, signature, is_cv_within, is_similar, is_function}
use Rattle.cxx_meaning.specs.Conversions.Pointers.{is_void, leveled}
use Rattle.cxx_meaning.specs.Conversions.Standard.{CxxOperand, is_floating, steps_between}

-- ---- cv words

-- 5.2.11: Behind each `*` from outside, as far as both types go: no word is lost, and where one is added, `const` stands
-- behind each `*` before.
abbrev pub keeps_words : Bool → List Cv → List Cv → Bool
keeps_words const_above [] twos = true
keeps_words const_above (one ∷ ones) [] = true
keeps_words const_above (one ∷ ones) (two ∷ twos) = is_cv_within one two && ((same_cv one two || const_above) && keeps_words (const_above && two.is_const) ones twos)

-- 5.2.11: whether a pointer to one type keeps its words as a pointer to the other
abbrev pub keeps_cv : CxxType → CxxType → Bool
keeps_cv one two = keeps_words true (cv_of one ∷ signature one) (cv_of two ∷ signature two)

-- ---- `const_cast` (5.2.11)

-- between pointers to similar types of objects, or to `void`
abbrev pub recasts_pointer : CxxKind → CxxKind → Bool
recasts_pointer (pointing s) (pointing t) = not (is_function s) && is_similar s t
recasts_pointer _ _ = false

-- to a reference from an object of a similar type
unfoldable pub const_cast : CxxOperand → CxxType → Bool
const_cast from (reference_to t) = from.lvalue && (not (is_function from.of) && is_similar from.of t)
const_cast from t = recasts_pointer (operand_kind from) (kind_of t)

-- ---- `static_cast` (5.2.9)

-- from a pointer to `void` to a pointer to an object
abbrev pub leaves_void : CxxType → CxxType → Bool
leaves_void s t = not (is_function t) && (not (is_void (kind_of t)) && keeps_cv s t)

-- from a base to a class that is derived from it, where there is one such base alone
unfoldable pub goes_down : CxxGraph → Bool → CxxType → CxxType → ℕ → ℕ → Asked Bool
goes_down graph is_single s t base derived =
    if nat_eq base derived || not (keeps_cv s t) then Ok false else (
    if is_pending graph derived then Err (record { 0 = derived }) else
    Ok (is_derived graph derived base && is_single))

-- from a pointer to one type to a pointer to the other
unfoldable pub static_pointers : CxxGraph → Bool → CxxType → CxxType → CxxKind → CxxKind → Asked Bool
static_pointers graph is_single s t no_value kind = Ok (leaves_void s t)
static_pointers graph is_single s t (of_class base) (of_class derived) = goes_down graph is_single s t base derived
static_pointers graph is_single s t _ _ = Ok false

-- from a value of one kind to the other; to an enumeration from a value of an integral type or of an enumeration
unfoldable pub static_kinds : CxxGraph → Bool → CxxKind → CxxKind → Asked Bool
static_kinds graph is_single (arithmetic of) (enumerated n) = Ok (not (is_floating of))
static_kinds graph is_single (enumerated m) (enumerated n) = Ok true
static_kinds graph is_single (pointing s) (pointing t) = static_pointers graph is_single s t (kind_of s) (kind_of t)
static_kinds graph is_single _ _ = Ok false

-- from an object of one type to a reference to the other
unfoldable pub static_objects : CxxGraph → Bool → CxxType → CxxType → CxxKind → CxxKind → Asked Bool
static_objects graph is_single s t (of_class base) (of_class derived) = goes_down graph is_single s t base derived
static_objects graph is_single s t _ _ = Ok false

-- what is no initialization
unfoldable pub static_only : CxxGraph → Bool → CxxOperand → CxxType → Asked Bool
static_only graph is_single from (reference_to t) = if from.lvalue then static_objects graph is_single from.of t (kind_of from.of) (kind_of t) else Ok false
static_only graph is_single from t = static_kinds graph is_single (operand_kind from) (kind_of t)

unfoldable pub static_unless : CxxGraph → Bool → CxxOperand → CxxType → Option SequenceSteps → Asked Bool
static_unless graph is_single from to (Some steps) = Ok true
static_unless graph is_single from to None = static_only graph is_single from to

-- 5.2.9: to `void`; to a type that the expression initializes; or where the other way round is a conversion. Whether a class
-- has one base alone of the class that is cast to it is said beside.
unfoldable pub static_cast : CxxGraph → Bool → CxxOperand → CxxType → Asked Bool
static_cast graph is_single from to =
    if is_void (kind_of to) then Ok true else do
      steps ← steps_between graph from to
      static_unless graph is_single from to steps

-- ---- `reinterpret_cast` (5.2.10)

-- between pointers to functions, or to objects or `void`
abbrev pub retypes : CxxType → CxxType → Bool
retypes s t = if is_function s then is_function t else not (is_function t) && keeps_cv s t

-- between pointers, and between pointers and integers: a pointer becomes an integer that can hold it
abbrev pub retypes_kind : CxxKind → CxxKind → Bool
retypes_kind (pointing s) (pointing t) = retypes s t
retypes_kind (pointing s) (arithmetic of) = same_base of base.Long || same_base of base.UnsignedLong
retypes_kind (arithmetic of) (pointing t) = not (is_floating of)
retypes_kind (enumerated n) (pointing t) = true
retypes_kind _ _ = false

unfoldable pub reinterpret_cast : CxxOperand → CxxType → Bool
reinterpret_cast from (reference_to t) = from.lvalue && retypes from.of t
reinterpret_cast from t = retypes_kind (operand_kind from) (kind_of t)

-- ---- results

-- 5.2.9 to 5.2.11, 5.4: what a cast gives: an object where the type is a reference, else a value
unfoldable pub cast_operand : CxxType → CxxOperand
cast_operand (reference_to t) = record { of = t; lvalue = true; constant = constant.No }
cast_operand t = record { of = if is_class_kind (kind_of t) then t else unqualified t; lvalue = false; constant = constant.No }
  where
    is_class_kind : CxxKind → Bool
    is_class_kind (of_class n) = true
    is_class_kind _ = false

-- ---- `(T)e` (5.4)

-- the named casts that it stands for; of two, the first is to the type that is given
pub data CxxCast : Type 0 where
  by_const : CxxCast
  by_static : CxxCast
  by_static_and_const : CxxType → CxxCast
  by_reinterpret : CxxCast
  by_reinterpret_and_const : CxxType → CxxCast

-- the words of a type, and those behind each `*` in it
abbrev pub words_in : CxxType → List Cv
words_in t = cv_of t ∷ signature t

-- the words of both, as far as both go
abbrev pub merged_words : List Cv → List Cv → List Cv
merged_words (one ∷ ones) (two ∷ twos) = merged one two ∷ merged_words ones twos
merged_words _ _ = []

-- a type with the words of another besides its own
abbrev pub with_added : CxxType → CxxType → CxxType
with_added one two = leveled (merged_words (words_in one) (words_in two)) two

abbrev pub added_kinds : CxxKind → CxxKind → Option CxxType
added_kinds (pointing s) (pointing t) = Some (pointer_to (with_added s t))
added_kinds _ _ = None

-- the type with the cv words of the expression besides its own, as far as both go
unfoldable pub added : CxxOperand → CxxType → Option CxxType
added from (reference_to t) = Some (reference_to (with_added from.of t))
added from t = added_kinds (operand_kind from) (kind_of t)

abbrev pub between_kinds : CxxKind → CxxKind → Option CxxType
between_kinds (pointing s) (pointing t) = Some (pointer_to (leveled (words_in s) t))
between_kinds _ _ = None

-- the type with the cv words of the expression in the place of its own, as far as both go
unfoldable pub between : CxxOperand → CxxType → Option CxxType
between from (reference_to t) = if from.lvalue then Some (reference_to (leveled (words_in from.of) t)) else None
between from t = between_kinds (operand_kind from) (kind_of t)

abbrev pub by_other : CxxOperand → CxxType → CxxType → Option CxxCast
by_other from to middle =
    if reinterpret_cast from to then Some by_reinterpret else (
    if reinterpret_cast from middle && const_cast (cast_operand middle) to then Some (by_reinterpret_and_const middle) else
    None)

abbrev pub by_two : CxxOperand → CxxType → CxxType → Bool → Option CxxCast
by_two from to middle is_static = if is_static && const_cast (cast_operand middle) to then Some (by_static_and_const middle) else by_other from to middle

unfoldable pub cast_between : CxxGraph → Bool → CxxOperand → CxxType → Option CxxType → Asked (Option CxxCast)
cast_between graph is_single from to None = Ok (if reinterpret_cast from to then Some by_reinterpret else None)
cast_between graph is_single from to (Some middle) = do
  is_static ← static_cast graph is_single from middle
  Ok (by_two from to middle is_static)

unfoldable pub cast_else : CxxGraph → Bool → CxxOperand → CxxType → Option CxxCast → Asked (Option CxxCast)
cast_else graph is_single from to (Some found) = Ok (Some found)
cast_else graph is_single from to None = cast_between graph is_single from to (between from to)

-- Of two casts the first is to the type with the words of the expression besides its own. Where no two casts lead there, as
-- where a word is added behind a `*` and not `const` before it, it is to the type with the words of the expression alone.
unfoldable pub cast_by_two : CxxGraph → Bool → CxxOperand → CxxType → Asked (Option CxxCast)
cast_by_two graph is_single from to = do
  found ← cast_between graph is_single from to (added from to)
  cast_else graph is_single from to found

unfoldable pub cast_unless : CxxGraph → Bool → CxxOperand → CxxType → Bool → Asked (Option CxxCast)
cast_unless graph is_single from to true = Ok (Some by_static)
cast_unless graph is_single from to false = cast_by_two graph is_single from to

-- 5.4: the first that is allowed of `const_cast`, `static_cast`, `static_cast` and then `const_cast`, `reinterpret_cast`,
-- and `reinterpret_cast` and then `const_cast`
unfoldable pub cast : CxxGraph → Bool → CxxOperand → CxxType → Asked (Option CxxCast)
cast graph is_single from to =
    if const_cast from to then Ok (Some by_const) else do
      is_static ← static_cast graph is_single from to
      cast_unless graph is_single from to is_static
