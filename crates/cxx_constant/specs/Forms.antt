-- What an expression is as a part of a constant expression (5.19), by its production and the types of its operands.
use Rattle.std.specs.Prelude.{ℕ, ℤ, pos, Bool, true, false, if◌then◌else◌, nat_eq, bytes_eq, List, [], ◌∷◌, length, Option, Some, None, Result, Ok, Err, codes}
use Rattle.std.specs.List.{slice_get}
use Rattle.cxx_model.specs.declared.base.Base.{Base}
use Rattle.cxx_model.specs.declared.punct.TheConstants as punct
use Rattle.cxx_model.specs.Facts.Declarations as facts
use Rattle.cxx_model.specs.Facts.Declarations.{CxxFact, CxxGraph, Declares}
use Rattle.cxx_model.specs.Facts.Entities.{Meant, first_or, meant_by, object_value}
use Rattle.cxx_model.specs.Text.Spelling.{alternatives, first_of, literal_value, number_beside, number_in, operators}
use Rattle.cxx_model.specs.Types.Trees.{CxxType}
use Rattle.cxx_meaning.specs.declared.size.SizeReason.{SizeReason}
use Rattle.cxx_meaning.specs.declared.size.SizeReason.TheVariants as reason
use Rattle.cxx_meaning.specs.Conversions.Asking.{Asked}
use Rattle.cxx_meaning.specs.Conversions.Kinds.{CxxKind, no_value, arithmetic, enumerated, kind_of}
use Rattle.cxx_meaning.specs.Conversions.Sizes as sizes
use Rattle.cxx_meaning.specs.Conversions.Standard.{CxxOperand}
use Rattle.cxx_computed.specs.declared.operators.BinaryOperator.{BinaryOperator}
use Rattle.cxx_computed.specs.declared.operators.UnaryOperator.{UnaryOperator}
use Rattle.cxx_computed.specs.declared.operators.ValueFault.TheVariants as fault
use Rattle.cxx_computed.specs.Formulas.{binary_operator, is_integral, unary_operator}
use Rattle.cxx_reading.specs.Productions as reading
use Rattle.cxx_reading.specs.Trees.{Label}
use Rattle.cxx_constant.specs.declared.form.Form.{Form}
use Rattle.cxx_constant.specs.declared.form.Form.TheVariants as form
use Rattle.cxx_constant.specs.declared.production.TheConstants as production

-- ---- types

-- 3.9.1, 7.2: the integral types and the enumerations
abbrev pub is_integral_kind : CxxKind → Bool
is_integral_kind (arithmetic of) = is_integral of
is_integral_kind (enumerated n) = true
is_integral_kind _ = false

abbrev pub kind_of_operand : Option CxxOperand → CxxKind
kind_of_operand None = no_value
kind_of_operand (Some operand) = kind_of operand.of

-- the type of an expression
abbrev pub kind_of_expression : Label → CxxKind
kind_of_expression label = kind_of_operand label.operand

-- the integral type to which the operands of an operator were converted
abbrev pub integral_base : CxxKind → Option Base
integral_base (arithmetic of) = if is_integral of then Some of else None
integral_base _ = None

abbrev pub base_of_first : List Label → Option Base
base_of_first [] = None
base_of_first (label ∷ others) = integral_base (kind_of_expression label)

-- ---- values of their own

abbrev pub value_form : Option ℤ → Form
value_form None = form.Other
value_form (Some value) = form.Value (Ok value)

-- 2.13: `true` is one and `false` is zero
unfoldable pub value_of_literal : List ℕ → Option ℤ
value_of_literal spelling =
    if bytes_eq spelling (codes "true") then Some (pos 1) else (
    if bytes_eq spelling (codes "false") then Some (pos 0) else
    literal_value spelling)

-- 7.2: an enumerator has its value; 5.19: so has a const object that a constant expression initializes, once that was read.
-- A value parameter of a template has none there (14.6.2.3).
abbrev pub value_declared : List CxxFact → ℕ → Declares → Option ℤ
value_declared all number (facts.enumerator n value) = Some value
value_declared all number (facts.object of member is_mutable value first) = object_value all (first_or number first) (length all)
value_declared all number _ = None

abbrev pub value_meant : List CxxFact → Meant → Option ℤ
value_meant all meant = value_declared all meant.number meant.what

-- 7.3.3: a using-declaration stands for its target
abbrev pub value_of_fact : List CxxFact → ℕ → Option CxxFact → Option ℤ
value_of_fact all number None = None
value_of_fact all number (Some fact) = value_meant all (meant_by all number fact.what)

-- the value of what a name was bound to
abbrev pub value_of_name : List CxxFact → Option ℕ → Option ℤ
value_of_name all None = None
value_of_name all (Some number) = value_of_fact all number (slice_get all number)

-- ---- sizes (5.3.3)

abbrev pub size_by : Asked (Result ℕ SizeReason) → Form
size_by (Ok (Ok size)) = form.Value (Ok (pos size))
size_by (Ok (Err reason.TooLarge)) = form.Value (Err fault.Overflow)
size_by (Ok (Err reason.NoSize)) = form.Other
size_by (Err class) = form.Other

-- A type that is written is measured. An operand, which is not evaluated, was measured when it was read, with the bounds
-- that later declarations give (8.3.4), and its size spells the whole.
abbrev pub size_form : CxxGraph → Label → Form
size_form graph label = by label.of
  where
    by : Option CxxType → Form
    by None = value_form (value_of_literal label.spelling)
    by (Some t) = size_by (sizes.size_of graph t)

-- ---- casts (5.2.3, 5.2.9, 5.4) and conversions, to integral types and enumerations

abbrev pub kind_of_target : Option CxxType → CxxKind
kind_of_target None = no_value
kind_of_target (Some t) = kind_of t

abbrev pub cast_form : Option CxxType → Form
cast_form of = if is_integral_kind (kind_of_target of) then form.Cast else form.Other

-- 5.2.3, 8.5: `T()` has the value zero
abbrev pub functional_form : Option CxxType → List Label → Form
functional_form of [] = if is_integral_kind (kind_of_target of) then form.Value (Ok (pos 0)) else form.Other
functional_form of (label ∷ others) = cast_form of

-- ---- operators

-- 2.5, 2.12: the number of an operator, by its spelling or by the word that is another one
unfoldable pub operator_number : List ℕ → Option ℕ
operator_number text = first_of (number_in operators text) (number_beside alternatives text)

abbrev pub unary_form : Option UnaryOperator → Option Base → Form
unary_form (Some operator) (Some of) = form.Unary operator of
unary_form _ _ = form.Other

abbrev pub unary_by : Option ℕ → Option Base → Form
unary_by None of = form.Other
unary_by (Some number) of = unary_form (unary_operator number) of

abbrev pub binary_form : Option BinaryOperator → Option Base → Form
binary_form (Some operator) (Some of) = form.Binary operator of
binary_form _ _ = form.Other

abbrev pub binary_by : Option ℕ → Option Base → Form
binary_by None of = form.Other
binary_by (Some number) of =
    if nat_eq number punct.LOGICAL_AND then form.And else (
    if nat_eq number punct.LOGICAL_OR then form.Or else
    binary_form (binary_operator number) of)

-- ---- by production

abbrev pub operator_form : Label → List Label → Form
operator_form label operands =
    if nat_eq label.production production.PREFIX then unary_by (operator_number label.spelling) (base_of_first operands) else (
    if nat_eq label.production production.BINARY then binary_by (operator_number label.spelling) (base_of_first operands) else (
    if nat_eq label.production production.CONDITIONAL then form.Conditional else
    form.Other))

abbrev pub form_by : CxxGraph → Label → List Label → Form
form_by graph label operands =
    if nat_eq label.production reading.literal then value_form (value_of_literal label.spelling) else (
    if nat_eq label.production production.NAME then value_form (value_of_name graph.facts label.target) else (
    if nat_eq label.production production.QUALIFIED_NAME then value_form (value_of_name graph.facts label.target) else (
    if nat_eq label.production production.SIZE then size_form graph label else (
    if nat_eq label.production production.PARENTHESIS then form.Cast else (
    if nat_eq label.production reading.cast then cast_form label.of else (
    if nat_eq label.production production.FUNCTIONAL_CAST then functional_form label.of operands else
    operator_form label operands))))))

-- What an expression is, given its operands. One that is of no integral type and no enumeration is no constant.
unfoldable pub form_of : CxxGraph → Label → List Label → Form
form_of graph label operands = if is_integral_kind (kind_of_expression label) then form_by graph label operands else form.Other
