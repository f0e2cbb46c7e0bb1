-- Standard conversion sequences (clause 4, 8.5.3, 13.3.3.1.1).
use Rattle.std.specs.Prelude.{ℕ, Bool, true, false, ◌&&◌, ◌||◌, not, nat_eq, if◌then◌else◌, List, [], ◌∷◌, Option, Some, None, Ok, Err}
use Rattle.std.specs.Option.{option_map}
use Rattle.cxx_meaning.specs.declared.steps.SequenceSteps.{SequenceSteps}
use Rattle.cxx_model.specs.declared.base.Base.{Base}
use Rattle.cxx_model.specs.declared.base.Base.TheVariants as base
use Rattle.cxx_model.specs.declared.sequence.ConstantKind.{ConstantKind}
use Rattle.cxx_model.specs.declared.sequence.ConstantKind.TheVariants as constant
use Rattle.cxx_model.specs.declared.sequence.First.{First}
use Rattle.cxx_model.specs.declared.sequence.First.TheVariants as first
use Rattle.cxx_model.specs.declared.sequence.Second.{Second}
use Rattle.cxx_model.specs.declared.sequence.Second.TheVariants as second
use Rattle.cxx_model.specs.declared.types.Cv.{Cv}
use Rattle.cxx_model.specs.Types.Bases.{base_row}
use Rattle.cxx_model.specs.Facts.Declarations.{CxxGraph}
use Rattle.cxx_model.specs.Types.Same.{same_type, same_cv}
use Rattle.cxx_model.specs.declared.sequence.Rank.{Rank}
use Rattle.cxx_model.specs.declared.sequence.Rank.TheVariants.{Exact}
use Rattle.cxx_model.specs.Choice.Standard.{same_base, second_step, rank_of_step}
use Rattle.cxx_model.specs.Types.Trees.{CxxType, reference_to, array_of, function_of}
use Rattle.cxx_meaning.specs.Conversions.Asking.{Asked, ◌>>=◌}
use Rattle.cxx_meaning.specs.Conversions.Derived.{is_derived}
use Rattle.cxx_meaning.specs.Conversions.Enumerations.{promoted}
use Rattle.cxx_meaning.specs.Conversions.Kinds.{CxxKind, no_value, arithmetic, enumerated, pointing, of_class, kind_of, value_kind, no_cv, cv_of, signature, is_cv_within, is_similar, is_same_unqualified, is_function}
use Rattle.cxx_model.specs.Facts.Pending.{is_pending}

-- 3.10: what an expression is to a conversion. Its type is no reference.
pub record CxxOperand : Type 0 where
  pub of : CxxType
  pub lvalue : Bool
  pub constant : ConstantKind

-- 13.3.3.1.1: a standard conversion sequence
pub record CxxStandard : Type 0 where
  pub from : CxxOperand
  pub to : CxxType
  pub first : Option First
  pub second : Option Second
  pub third : Bool
  pub binding : Bool

-- ---- steps

abbrev pub no_steps : SequenceSteps
no_steps = record { first = None; second = None; third = false; binding = false }

-- a promotion or conversion, where there is one, and a qualification, where there is one
abbrev pub steps_by : Option Second → Bool → SequenceSteps
steps_by step qualifies = record { first = None; second = step; third = qualifies; binding = false }

abbrev pub bound_by : Option Second → SequenceSteps
bound_by step = record { first = None; second = step; third = false; binding = true }

-- ---- qualification (4.4)

-- From outside: no word is lost behind a `*`, and where one is added, `const` stands behind each `*` before.
abbrev pub may_widen : Bool → List Cv → List Cv → Bool
may_widen const_above [] [] = true
may_widen const_above (one ∷ ones) (two ∷ twos) = is_cv_within one two && ((same_cv one two || const_above) && may_widen (const_above && two.is_const) ones twos)
may_widen const_above _ _ = false

-- 4.4: whether a pointer to one type is converted to a pointer to the other by a qualification, or is the same
abbrev pub is_widened : CxxType → CxxType → Bool
is_widened one two = is_similar one two && may_widen true (cv_of one ∷ signature one) (cv_of two ∷ signature two)

-- ---- pointers (4.10)

-- whether a word of the pointed-to type is added where a pointer is converted to one of another type
abbrev pub widens : CxxType → CxxType → Bool
widens one two = not (same_cv (cv_of one) (cv_of two))

-- 4.10: a pointer to a class becomes one to a base of it, ambiguous or not
unfoldable pub pointer_to_class : CxxGraph → CxxType → CxxType → ℕ → ℕ → Asked (Option SequenceSteps)
pointer_to_class graph one two derived base =
    if nat_eq derived base || not (is_cv_within (cv_of one) (cv_of two)) then Ok None else (
    if is_pending graph derived then Err (record { 0 = derived }) else
    Ok (if is_derived graph derived base then Some (steps_by (Some second.Pointer) (widens one two)) else None))

-- 4.10: a pointer to an object becomes one to `void`
abbrev pub pointer_to_void : CxxType → CxxType → Option SequenceSteps
pointer_to_void one two = if not (is_function one) && is_cv_within (cv_of one) (cv_of two) then Some (steps_by (Some second.Pointer) (widens one two)) else None

unfoldable pub pointer_to_other : CxxGraph → CxxType → CxxType → CxxKind → CxxKind → Asked (Option SequenceSteps)
pointer_to_other graph one two (of_class derived) (of_class base) = pointer_to_class graph one two derived base
pointer_to_other graph one two _ no_value = Ok (pointer_to_void one two)
pointer_to_other graph one two _ _ = Ok None

-- 4.4, 4.10: from a pointer to one type to a pointer to another
unfoldable pub steps_of_pointers : CxxGraph → CxxType → CxxType → Asked (Option SequenceSteps)
steps_of_pointers graph one two =
    if is_widened one two then Ok (Some (steps_by None (not (same_type one two)))) else
    pointer_to_other graph one two (kind_of one) (kind_of two)

-- ---- values (4.5 to 4.10, 4.12)

-- 4.7, 4.9, 4.12: from an enumeration to an arithmetic type to which it is not promoted
abbrev pub step_of_unpromoted : Base → Second
step_of_unpromoted to =
    if same_base to base.Bool then second.Boolean else (
    if (base_row to).is_floating then second.FloatingIntegral else
    second.Integral)

-- 4.5: a promotion where it leads to the type, else a conversion
unfoldable pub step_of_enumeration : Option Base → Base → Second
step_of_enumeration None to = step_of_unpromoted to
step_of_enumeration (Some of) to = if same_base of to then second.IntegralPromotion else step_of_unpromoted to

-- 3.9.1
abbrev pub is_floating : Base → Bool
is_floating of = (base_row of).is_floating

-- 4.5, 4.6: the type to which an arithmetic type is promoted
abbrev pub promoted_base : Base → Base
promoted_base of = (base_row of).promoted

-- 4.10: an integral constant expression of integer type with the value zero
abbrev pub is_null : ConstantKind → Base → Bool
is_null constant.Zero of = not (is_floating of)
is_null _ of = false

-- 4.2: the letters of a string literal
abbrev pub is_letter : ConstantKind → CxxKind → Bool
is_letter constant.NarrowText (arithmetic base.Char) = true
is_letter constant.WideText (arithmetic base.WideChar) = true
is_letter _ _ = false

abbrev pub only_const : Cv
only_const = record { is_const = true; is_volatile = false }

-- 4.2: a string literal becomes a pointer to letters that are not const
unfoldable pub is_text : ConstantKind → CxxType → CxxType → Bool
is_text known one two = is_letter known (kind_of one) && (is_letter known (kind_of two) && (same_cv (cv_of one) only_const && same_cv (cv_of two) no_cv))

-- 4.5 to 4.10, 4.12: from an arithmetic value
unfoldable pub steps_of_arithmetic : ConstantKind → Base → CxxKind → Option SequenceSteps
steps_of_arithmetic known from (arithmetic to) = Some (steps_by (second_step from to) false)
steps_of_arithmetic known from (pointing to) = if is_null known from then Some (steps_by (Some second.Pointer) false) else None
steps_of_arithmetic known from _ = None

-- 4.5, 4.7, 4.9, 4.12: from a value of an enumeration; to an enumeration nothing else is converted
unfoldable pub steps_of_enumeration : CxxGraph → ℕ → CxxKind → Option SequenceSteps
steps_of_enumeration graph from (arithmetic to) = Some (steps_by (Some (step_of_enumeration (promoted graph from) to)) false)
steps_of_enumeration graph from (enumerated to) = if nat_eq from to then Some no_steps else None
steps_of_enumeration graph from _ = None

-- 4.2, 4.4, 4.10, 4.12: from a pointer to a type
unfoldable pub steps_of_pointer : CxxGraph → ConstantKind → CxxType → CxxKind → Asked (Option SequenceSteps)
steps_of_pointer graph known from (arithmetic to) = Ok (if same_base to base.Bool then Some (steps_by (Some second.Boolean) false) else None)
steps_of_pointer graph known from (pointing to) = if is_text known from to then Ok (Some (steps_by None true)) else steps_of_pointers graph from to
steps_of_pointer graph known from _ = Ok None

-- From a value of one kind to the other. To and from `void` nothing is converted.
unfoldable pub steps_of_kinds : CxxGraph → ConstantKind → CxxKind → CxxKind → Asked (Option SequenceSteps)
steps_of_kinds graph known (arithmetic from) to = Ok (steps_of_arithmetic known from to)
steps_of_kinds graph known (enumerated from) to = Ok (steps_of_enumeration graph from to)
steps_of_kinds graph known (pointing from) to = steps_of_pointer graph known from to
steps_of_kinds graph known _ to = Ok None

-- ---- expressions

-- 4.1 to 4.3: what makes a value of an expression of a type that is no class
unfoldable pub value_step : CxxType → Bool → Option First
value_step (array_of t bound) lvalue = Some first.ArrayToPointer
value_step (function_of r ts ellipsis cv) lvalue = Some first.FunctionToPointer
value_step t lvalue = if lvalue then Some first.LvalueToRvalue else None

abbrev pub with_first : Option First → SequenceSteps → SequenceSteps
with_first step steps = record steps { first = step }

-- 13.3.3.1: whether objects of one class are those of the other, or of a base of it, and by what step
unfoldable pub class_step : CxxGraph → ℕ → ℕ → Asked (Option (Option Second))
class_step graph from to =
    if nat_eq from to then Ok (Some None) else (
    if is_pending graph from then Err (record { 0 = from }) else
    Ok (if is_derived graph from to then Some (Some second.DerivedToBase) else None))

abbrev pub steps_of_class : Option (Option Second) → Option SequenceSteps
steps_of_class step = option_map (λ found. steps_by found false) step

-- from an expression to a type that is no class
unfoldable pub steps_to_scalar : CxxGraph → CxxOperand → CxxType → Asked (Option SequenceSteps)
steps_to_scalar graph from to =
    if is_function from.of && not from.lvalue then Ok None else do
      steps ← steps_of_kinds graph from.constant (value_kind from.of) (kind_of to)
      Ok (option_map (with_first (value_step from.of from.lvalue)) steps)

unfoldable pub steps_to_class : CxxGraph → ℕ → ℕ → Asked (Option SequenceSteps)
steps_to_class graph from to = do
  step ← class_step graph from to
  Ok (steps_of_class step)

unfoldable pub steps_by_kinds : CxxGraph → CxxOperand → CxxType → CxxKind → CxxKind → Asked (Option SequenceSteps)
steps_by_kinds graph from to (of_class m) (of_class n) = steps_to_class graph m n
steps_by_kinds graph from to _ _ = steps_to_scalar graph from to

-- 8.5: from an expression to a type that is no reference
unfoldable pub steps_of_value : CxxGraph → CxxOperand → CxxType → Asked (Option SequenceSteps)
steps_of_value graph from to = steps_by_kinds graph from to (kind_of from.of) (kind_of to)

-- ---- references (8.5.3)

unfoldable pub related_kinds : CxxGraph → CxxKind → CxxKind → Asked (Option (Option Second))
related_kinds graph (of_class m) (of_class n) = class_step graph m n
related_kinds graph _ _ = Ok None

-- 8.5.3: whether one type is the other, cv aside, or a base of it, and by what step
unfoldable pub related : CxxGraph → CxxType → CxxType → Asked (Option (Option Second))
related graph from to = if is_same_unqualified from to then Ok (Some None) else related_kinds graph (kind_of from) (kind_of to)

abbrev pub is_class : CxxKind → Bool
is_class (of_class n) = true
is_class _ = false

-- A reference to what the expression is: it is bound to an object, and where it is to a const type also to an rvalue,
-- which stays what it is where it is of a class.
unfoldable pub steps_of_related : CxxGraph → CxxOperand → CxxType → Option Second → Asked (Option SequenceSteps)
steps_of_related graph from to step =
    if not (is_cv_within (cv_of from.of) (cv_of to)) then Ok None else (
    if from.lvalue then Ok (Some (bound_by step)) else (
    if not (same_cv (cv_of to) only_const) then Ok None else (
    if is_class (kind_of from.of) then Ok (Some (bound_by step)) else
    steps_of_value graph from to)))

-- 8.5.3: a reference to a const type is bound to a value of that type, to which the expression is converted
unfoldable pub steps_of_unrelated : CxxGraph → CxxOperand → CxxType → Asked (Option SequenceSteps)
steps_of_unrelated graph from to = if same_cv (cv_of to) only_const then steps_of_value graph from to else Ok None

unfoldable pub steps_by_relation : CxxGraph → CxxOperand → CxxType → Option (Option Second) → Asked (Option SequenceSteps)
steps_by_relation graph from to (Some step) = steps_of_related graph from to step
steps_by_relation graph from to None = steps_of_unrelated graph from to

unfoldable pub steps_of_reference : CxxGraph → CxxOperand → CxxType → Asked (Option SequenceSteps)
steps_of_reference graph from to = do
  relation ← related graph from.of to
  steps_by_relation graph from to relation

-- ---- sequences

unfoldable pub steps_between : CxxGraph → CxxOperand → CxxType → Asked (Option SequenceSteps)
steps_between graph from (reference_to to) = steps_of_reference graph from to
steps_between graph from to = steps_of_value graph from to

abbrev pub sequence_by : CxxOperand → CxxType → SequenceSteps → CxxStandard
sequence_by from to steps = record { from = from; to = to; first = steps.first; second = steps.second; third = steps.third; binding = steps.binding }

-- 13.3.3.1.1: the standard conversion sequence from an expression to a type, where there is one
unfoldable pub standard_sequence : CxxGraph → CxxOperand → CxxType → Asked (Option CxxStandard)
standard_sequence graph from to = do
  steps ← steps_between graph from to
  Ok (option_map (sequence_by from to) steps)

-- ---- ranks (13.3.3.1.1, table 9)

abbrev pub rank_of : Option Second → Rank
rank_of None = Exact
rank_of (Some step) = rank_of_step step

-- the rank of a sequence is that of its worst step; lvalue transformations and qualifications are exact
abbrev pub rank : CxxStandard → Rank
rank sequence = rank_of sequence.second
